use Rattle.std.proofs.Common.{◌≡◌, ◌++◌}
use Rattle.std.specs.BTreeSet.{contains}
use Rattle.std.specs.List.{filter_map}
use Rattle.st_ids.specs.Order.{node_cmp}
use Rattle.st_cross_laws.specs.Crossed.{loose_across}
use Rattle.st_carry.proofs.loose.loose_nodes.Given as goal

-- what is listed, and what is left to be gone through
abbrev pub invariant-loop-node : goal.invariant-loop-node
invariant-loop-node l = l.list ++ filter_map (loose_across (contains node_cmp l.stood) (contains node_cmp l.stands)) l.node-iterator ≡ filter_map (loose_across (contains node_cmp l.stood) (contains node_cmp l.stands)) l.names.keys
