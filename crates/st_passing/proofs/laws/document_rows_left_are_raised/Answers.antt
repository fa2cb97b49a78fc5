use Rattle.st_marks.specs.Embedding.{row_part}
use Rattle.st_passing.proofs.CellsLeft.{shown_row_left}
use Rattle.st_passing.proofs.RowsLeftThere.{row_left_there}
use Rattle.st_passing.proofs.laws.document_rows_left_are_raised.Goals as goal

pub returns : goal.returns
returns v = λ D E N C S m n xs ys x f e stay change step w a b.
    shown_row_left (row_part change.mentioned N n) m step.mentioned (step.grows n) xs ys (row_left_there D E N x f e stay C change m w n (step.grows n)) a b
