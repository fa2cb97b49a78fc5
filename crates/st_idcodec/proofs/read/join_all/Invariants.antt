-- what is left leads where the whole does
use Rattle.std.proofs.Common.{◌≡◌, drop}
use Rattle.serde_json.specs.View.{items_view}
use Rattle.st_clusters.specs.Ids.{ids_of}
use Rattle.st_idcodec.specs.inside.Reading.{after_uuids}
use Rattle.st_idcodec.proofs.read.join_all.Given as goal

abbrev pub invariant-loop-value : goal.invariant-loop-value
invariant-loop-value l = after_uuids (items_view (drop l.value-index l.values)) (ids_of l.ids) ≡ after_uuids (items_view l.values) (ids_of l.initial.ids)
