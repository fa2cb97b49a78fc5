use Rattle.std.proofs.Common.{◌≡◌, ◌++◌, take}
use Rattle.std.specs.BTreeMap.{get}
use Rattle.std.specs.List.{flat_map}
use Rattle.st_ids.specs.Order.{node_cmp}
use Rattle.st_marks.specs.declared.changes.NewNode.{NewNode}
use Rattle.st_turn_places.specs.inside.Sides.{if_free}
use Rattle.st_turn_places.proofs.places.add_new.Given as goal

abbrev pub invariant-loop-made : goal.invariant-loop-made
invariant-loop-made l = l.list ≡ l.initial.list ++ flat_map (λ (m : NewNode). if_free (get node_cmp l.table) m.node) (take l.made-index l.new)
