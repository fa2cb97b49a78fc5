use Rattle.std.proofs.Common.{◌≡◌, map, take}
use Rattle.std.specs.BTreeMap.{get}
use Rattle.st_ids.specs.Order.{node_cmp}
use Rattle.st_steps.specs.inside.Told.{loose_before}
use Rattle.st_steps.proofs.loose.loose_before.Given as goal

abbrev pub invariant-loop-one : goal.invariant-loop-one
invariant-loop-one l = l.list ≡ map (loose_before (get node_cmp l.spots)) (take l.one-index l.loose)
