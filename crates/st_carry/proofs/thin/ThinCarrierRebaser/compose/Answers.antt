use Rattle.st_carry.proofs.ThinValues.{ok_weaker}
use Rattle.st_carry.proofs.thin.ThinCarrierRebaser.compose.Goals as goal

pub returns : goal.returns
returns c = λ D E F x y s t. ok_weaker c.compose_thin.result (λ r w. w D E F x y s t) c.compose_thin.ensures
