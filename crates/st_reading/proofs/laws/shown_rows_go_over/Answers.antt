use Rattle.st_reading.proofs.RowsOver.{shown_row_over}
use Rattle.st_reading.proofs.laws.shown_rows_go_over.Goals as goal

pub returns : goal.returns
returns c = λ l p before named a b g xs ys h k u o. shown_row_over l p before named g xs ys h k u o
