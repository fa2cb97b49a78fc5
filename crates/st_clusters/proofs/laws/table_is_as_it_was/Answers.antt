use Rattle.st_clusters.proofs.Logs.{law_as_it_was}
use Rattle.st_clusters.proofs.laws.table_is_as_it_was.Goals as goal

pub returns : goal.returns
returns c = law_as_it_was
