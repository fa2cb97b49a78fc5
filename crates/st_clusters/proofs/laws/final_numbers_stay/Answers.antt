use Rattle.st_clusters.proofs.Staying.{final_stays}
use Rattle.st_clusters.proofs.laws.final_numbers_stay.Goals as goal

pub returns-clause-stays : goal.returns-clause-stays
returns-clause-stays c = final_stays
