use Rattle.std.proofs.Common.{◌≡◌, take}
use Rattle.std.specs.BTreeSet.{contains}
use Rattle.std.specs.List.{filter_map}
use Rattle.st_ids.specs.Order.{node_cmp}
use Rattle.st_steps.specs.inside.Told.{loose_behind}
use Rattle.st_steps.proofs.loose.loose_behind.Given as goal

abbrev pub invariant-loop-one : goal.invariant-loop-one
invariant-loop-one l = l.list ≡ filter_map (loose_behind (contains node_cmp l.stood) (contains node_cmp l.new)) (take l.one-index l.loose)
