use Rattle.std.proofs.Common.{◌≡◌, take}
use Rattle.std.specs.BTreeMap.{get}
use Rattle.std.specs.Option.{option_or}
use Rattle.st_ids.specs.declared.names.NodeId.{NodeId}
use Rattle.st_ids.specs.Order.{node_cmp}
use Rattle.st_marks.specs.declared.places.Spot.{Spot}
use Rattle.st_doc.specs.inside.Evictions.{IsOneHeld, spot_if_cleared}
use Rattle.st_doc.proofs.evictions.evict_all.Given as goal

abbrev pub invariant-loop-field : goal.invariant-loop-field
invariant-loop-field l = (place : NodeId → Spot) → IsOneHeld l.held place → (n : NodeId)
    → get node_cmp l.targets n ≡ option_or (get node_cmp l.initial.targets n) (spot_if_cleared (take l.field-index l.field-items) (place n))
