use Rattle.st_clusters.proofs.Logs.{law_one_id}
use Rattle.st_clusters.proofs.laws.final_numbers_are_distinct.Goals as goal

pub returns : goal.returns
returns c = law_one_id
