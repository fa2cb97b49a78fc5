use Rattle.st_cross_laws.proofs.RowsAcross.{row_crossed_there}
use Rattle.st_cross_laws.proofs.laws.rows_beside_are_crossed.Goals as goal

pub returns : goal.returns
returns c = λ l D E N C S new v u n x f g change step listed. row_crossed_there l D E N C S new v u n x f g change step listed
