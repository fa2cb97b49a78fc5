use Rattle.st_clusters.proofs.Finding.{id_found}
use Rattle.st_clusters.proofs.look.id_in.Goals as goal

pub returns : goal.returns
returns c = id_found c.args.clusters.now c.args.number c.in_ok-place.place c.id_within.result c.in_ok-place.ensures c.id_within.ensures
