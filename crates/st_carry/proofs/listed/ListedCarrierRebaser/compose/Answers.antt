use Rattle.st_carry.proofs.ThinValues.{ok_weaker}
use Rattle.st_carry.proofs.listed.ListedCarrierRebaser.compose.Goals as goal

pub returns : goal.returns
returns c = λ D E F x y s t. ok_weaker c.compose_listed.result (λ r w. w D E F x y s t) c.compose_listed.ensures
