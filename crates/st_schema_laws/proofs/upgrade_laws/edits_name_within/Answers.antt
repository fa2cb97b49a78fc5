use Rattle.st_schema_laws.proofs.EditsInLine.{names_in_line, names_within}
use Rattle.st_schema_laws.proofs.upgrade_laws.edits_name_within.Goals as goal

pub returns : goal.returns
returns c = record { part = names_within; in_effect = names_in_line }
