use Rattle.st_turn_laws.proofs.TurnsAgree.{agree_in_turn}
use Rattle.st_turn_laws.proofs.laws.steps_in_turn_agree.Goals as goal

pub returns : goal.returns
returns c = λ D E F S T x y s t. agree_in_turn D E F S T x y s t
