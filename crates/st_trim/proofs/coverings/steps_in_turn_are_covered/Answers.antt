use Rattle.st_trim.proofs.StepsInTurn.{in_turn_covers}
use Rattle.st_trim.proofs.coverings.steps_in_turn_are_covered.Goals as goal

pub returns : goal.returns
returns c = λ D E F S T x y first then. in_turn_covers D E F S T x y first then
