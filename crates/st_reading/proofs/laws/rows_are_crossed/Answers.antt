use Rattle.st_reading.proofs.RowsCrossed.{row_crossed}
use Rattle.st_reading.proofs.laws.rows_are_crossed.Goals as goal

pub returns : goal.returns
returns c = λ l was is p m placed makes a b g sub put z o q w. row_crossed l p m placed makes was is sub put g z o q w
