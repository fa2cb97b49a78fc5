use Rattle.st_lean.proofs.RowRoom.{counted_made}
use Rattle.st_lean.proofs.room.made_one.Goals as goal

pub returns-in-Skip : goal.returns-in-Skip
returns-in-Skip c = rw c.in-Skip.is (counted_made c.in-Skip.field-0)
