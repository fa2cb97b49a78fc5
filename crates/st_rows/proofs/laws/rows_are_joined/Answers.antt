use Rattle.st_rows.proofs.DocumentsJoined.{parts_join}
use Rattle.st_rows.proofs.laws.rows_are_joined.Goals as goal

pub returns : goal.returns
returns c = parts_join
