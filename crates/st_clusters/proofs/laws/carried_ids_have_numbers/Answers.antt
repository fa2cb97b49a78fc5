use Rattle.st_clusters.proofs.Covering.{law_covered, law_only}
use Rattle.st_clusters.proofs.laws.carried_ids_have_numbers.Goals as goal

pub returns-clause-each : goal.returns-clause-each
returns-clause-each c = law_covered

pub returns-clause-only : goal.returns-clause-only
returns-clause-only c = law_only
