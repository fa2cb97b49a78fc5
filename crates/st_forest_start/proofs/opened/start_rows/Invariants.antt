use Rattle.std.proofs.Common.{◌≡◌, [], option_map, take, unwrap_or}
use Rattle.std.specs.BTreeMap.{get}
use Rattle.st_ids.specs.declared.names.NodeId.{NodeId as Node}
use Rattle.st_ids.specs.Order.{node_cmp}
use Rattle.st_marks.specs.declared.places.Spot.{Spot as Standing}
use Rattle.st_forest.specs.declared.forest.Seated.{Seated as Entry}
use Rattle.st_forest_start.specs.inside.Opening.{slots_of}
use Rattle.st_forest_start.proofs.opened.start_rows.Given as goal

abbrev pub invariant-loop-x : goal.invariant-loop-x
invariant-loop-x l = (n : Node) → unwrap_or (get node_cmp l.rows n) []
    ≡ slots_of (λ m. unwrap_or (option_map (λ (s : Entry). s.place) (get node_cmp l.nodes m)) Standing.Nowhere) n (take l.x-index l.flat)
