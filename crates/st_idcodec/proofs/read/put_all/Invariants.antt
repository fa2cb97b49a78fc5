-- what is left leads where the whole does
use Rattle.std.proofs.Common.{◌≡◌, drop}
use Rattle.st_clusters.specs.Ids.{ids_of}
use Rattle.st_idcodec.specs.inside.Reading.{after_clusters}
use Rattle.st_idcodec.proofs.read.put_all.Given as goal

abbrev pub invariant-loop-cluster : goal.invariant-loop-cluster
invariant-loop-cluster l = after_clusters (drop l.cluster-index l.clusters) (ids_of l.ids) ≡ after_clusters l.clusters (ids_of l.initial.ids)
