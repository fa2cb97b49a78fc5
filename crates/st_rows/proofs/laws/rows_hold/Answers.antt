use Rattle.st_rows.proofs.Documents.{can_hold}
use Rattle.st_rows.proofs.laws.rows_hold.Goals as goal

pub returns : goal.returns
returns c = λ D n x. can_hold D x n
