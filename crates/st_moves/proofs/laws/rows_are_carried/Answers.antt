use Rattle.st_moves.proofs.CarriedRows.{carried_rows}
use Rattle.st_moves.proofs.laws.rows_are_carried.Goals as goal

pub returns : goal.returns
returns c = λ D E N C S m n x f g change step w. carried_rows D E N x f g C S change step m w n
