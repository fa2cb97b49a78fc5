use Rattle.st_reading.proofs.RowsOver.{row_over}
use Rattle.st_reading.proofs.laws.rows_go_over.Goals as goal

pub returns : goal.returns
returns c = λ l p before named a b g h k. row_over l p before named g h k
