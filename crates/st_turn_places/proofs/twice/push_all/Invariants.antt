use Rattle.std.proofs.Common.{◌≡◌, ◌++◌, take}
use Rattle.std.specs.List.{flat_map}
use Rattle.std.specs.BTreeMap.{get}
use Rattle.st_ids.specs.Order.{node_cmp}
use Rattle.st_turn_places.specs.declared.places.Placed.{Placed}
use Rattle.st_turn_places.specs.inside.Twice.{apart_fields, looked_up}
use Rattle.st_turn_places.proofs.twice.push_all.Given as goal

abbrev pub invariant-loop-placed : goal.invariant-loop-placed
invariant-loop-placed l = l.found ≡ l.initial.found ++ flat_map (λ (p : Placed). apart_fields p (looked_up l.others (get node_cmp l.table p.node))) (take l.placed-index l.list)
