use Rattle.st_schema_laws.proofs.Read.{read_as_told}
use Rattle.st_schema_laws.proofs.Texts.{schema_text}
use Rattle.st_schema_laws.proofs.upgrade_laws.schemas_are_read.Goals as goal

pub returns : goal.returns
returns c = record { in_effect = read_as_told; text = schema_text }
