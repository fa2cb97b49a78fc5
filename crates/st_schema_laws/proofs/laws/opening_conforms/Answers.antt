use Rattle.st_schema_laws.proofs.Opened.{allowed_conforms}
use Rattle.st_schema_laws.proofs.laws.opening_conforms.Goals as goal

pub returns : goal.returns
returns c = allowed_conforms
