use Rattle.st_passing.proofs.RowsPassed.{row_crosses, row_passes}
use Rattle.st_passing.proofs.laws.rows_pass.Goals as goal

pub returns-clause-over : goal.returns-clause-over
returns-clause-over c = row_passes

pub returns-clause-crossed : goal.returns-clause-crossed
returns-clause-crossed c = row_crosses
