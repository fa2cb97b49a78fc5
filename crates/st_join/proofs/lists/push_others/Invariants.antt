use Rattle.std.proofs.Common.{◌≡◌, ◌++◌, take}
use Rattle.std.proofs.Common.{◌||◌}
use Rattle.std.proofs.Common.{not}
use Rattle.std.specs.BTreeSet.{contains}
use Rattle.std.specs.List.{filter}
use Rattle.st_ids.specs.Order.{node_cmp}
use Rattle.st_join.proofs.lists.push_others.Given as goal

abbrev pub invariant-loop-node : goal.invariant-loop-node
invariant-loop-node l = l.list ≡ l.initial.list ++ filter (λ n. not (contains node_cmp l.new n || contains node_cmp l.needed n)) (take l.node-index l.nodes)
