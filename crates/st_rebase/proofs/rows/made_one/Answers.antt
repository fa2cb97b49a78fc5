use Rattle.st_rebase.proofs.RowRoom.{counted_made}
use Rattle.st_rebase.proofs.rows.made_one.Goals as goal

pub returns-in-Skip : goal.returns-in-Skip
returns-in-Skip c = rw c.in-Skip.is (counted_made c.in-Skip.field-0)
