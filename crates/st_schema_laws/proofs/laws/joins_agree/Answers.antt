use Rattle.st_schema_laws.proofs.Joins.{joined_agrees}
use Rattle.st_schema_laws.proofs.laws.joins_agree.Goals as goal

pub returns : goal.returns
returns c = joined_agrees
