use Rattle.std.proofs.Common.{◌∙◌}
use Rattle.st_marks.specs.Row.{step_row}
use Rattle.st_author_laws.proofs.RowsBack.{row_back-read, row_taken_back}
use Rattle.st_author_laws.proofs.laws.rows_are_taken_back.Goals as goal

pub returns : goal.returns
returns c = λ l m a b g. row_back-read l b (step_row m g) ∙ row_taken_back m g
