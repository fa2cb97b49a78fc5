-- what is past is written
use Rattle.std.proofs.Common.{◌≡◌, map, take}
use Rattle.serde_json.specs.View.{view}
use Rattle.st_idcodec.specs.TableText.{cluster_data}
use Rattle.st_idcodec.proofs.table.clusters_value.Given as goal

abbrev pub invariant-loop-cluster : goal.invariant-loop-cluster
invariant-loop-cluster l = map view l.items.items ≡ map cluster_data (take l.cluster-index l.clusters)
