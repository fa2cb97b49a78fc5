use Rattle.st_rows.proofs.Existence.{has_step, step_between, step_there}
use Rattle.st_rows.proofs.laws.rows_have_steps.Goals as goal

pub returns-clause-row : goal.returns-clause-row
returns-clause-row c = has_step

pub returns-clause-documents : goal.returns-clause-documents
returns-clause-documents c = step_between

pub returns-clause-listed : goal.returns-clause-listed
returns-clause-listed c = step_there
