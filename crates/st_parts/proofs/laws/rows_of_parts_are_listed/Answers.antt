use Rattle.st_parts.proofs.RowsJoined.{row_joined-listed}
use Rattle.st_parts.proofs.laws.rows_of_parts_are_listed.Goals as goal

pub returns : goal.returns
returns c = row_joined-listed
