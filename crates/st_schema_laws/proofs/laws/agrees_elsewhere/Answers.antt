use Rattle.st_schema_laws.proofs.Elsewhere.{agrees_there}
use Rattle.st_schema_laws.proofs.laws.agrees_elsewhere.Goals as goal

pub returns : goal.returns
returns c = agrees_there
