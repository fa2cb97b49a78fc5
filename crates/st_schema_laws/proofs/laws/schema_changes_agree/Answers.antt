use Rattle.st_schema_laws.proofs.Simple.{schema_agrees}
use Rattle.st_schema_laws.proofs.laws.schema_changes_agree.Goals as goal

pub returns : goal.returns
returns c = schema_agrees
