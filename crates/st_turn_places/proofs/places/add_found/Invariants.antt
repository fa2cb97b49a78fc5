use Rattle.std.proofs.Common.{◌≡◌, ◌++◌, take}
use Rattle.std.specs.BTreeMap.{get}
use Rattle.std.specs.List.{flat_map}
use Rattle.st_ids.specs.Order.{node_cmp}
use Rattle.st_turn_places.specs.declared.places.Placed.{Placed}
use Rattle.st_turn_places.specs.inside.Sides.{if_free}
use Rattle.st_turn_places.proofs.places.add_found.Given as goal

abbrev pub invariant-loop-placed : goal.invariant-loop-placed
invariant-loop-placed l = l.list ≡ l.initial.list ++ flat_map (λ (p : Placed). if_free (get node_cmp l.table) p.node) (take l.placed-index l.found)
