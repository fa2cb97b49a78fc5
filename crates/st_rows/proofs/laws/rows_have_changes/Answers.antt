use Rattle.st_rows.proofs.Existence.{change_there, has_change, part_has_change}
use Rattle.st_rows.proofs.laws.rows_have_changes.Goals as goal

pub returns-clause-row : goal.returns-clause-row
returns-clause-row c = has_change

pub returns-clause-intent : goal.returns-clause-intent
returns-clause-intent c = part_has_change

pub returns-clause-listed : goal.returns-clause-listed
returns-clause-listed c = change_there
