use Rattle.st_rows.proofs.DocumentsListed.{change_is, document_is, step_is}
use Rattle.st_rows.proofs.laws.rows_are_listed.Goals as goal

pub returns-clause-change : goal.returns-clause-change
returns-clause-change c = change_is

pub returns-clause-step : goal.returns-clause-step
returns-clause-step c = step_is

pub returns-clause-document : goal.returns-clause-document
returns-clause-document c = document_is
