use Rattle.st_passing.proofs.CellsLeft.{shown_row_left}
use Rattle.st_passing.proofs.laws.rows_left_are_raised.Goals as goal

pub returns : goal.returns
returns w = λ p m named c d g xs ys h a b. shown_row_left p m named g xs ys h a b
