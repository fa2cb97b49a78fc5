-- the clusters so far, and then those of what is left
use Rattle.std.proofs.Common.{◌≡◌, ◌++◌, drop, List}
use Rattle.std.specs.Option.{option_map}
use Rattle.serde_json.specs.View.{items_view}
use Rattle.st_clusters.specs.declared.ids.Cluster.{Cluster}
use Rattle.st_idcodec.specs.inside.Reading.{clusters_of}
use Rattle.st_idcodec.proofs.read.clusters_of.Given as goal

abbrev pub invariant-loop-value : goal.invariant-loop-value
invariant-loop-value l = option_map (λ (cs : List Cluster). l.clusters.items ++ cs) (clusters_of (items_view (drop l.value-index l.values))) ≡ clusters_of (items_view l.values)
