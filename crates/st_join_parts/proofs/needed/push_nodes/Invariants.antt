use Rattle.std.proofs.Common.{◌≡◌, ◌++◌, take}
use Rattle.std.specs.BTreeSet.{contains}
use Rattle.std.specs.List.{flat_map}
use Rattle.st_ids.specs.Order.{node_cmp}
use Rattle.st_join_parts.specs.inside.Clashes.{rows_made}
use Rattle.st_join_parts.proofs.needed.push_nodes.Given as goal

abbrev pub invariant-loop-node : goal.invariant-loop-node
invariant-loop-node l = l.found ≡ l.initial.found ++ flat_map (rows_made (contains node_cmp l.made)) (take l.node-index l.nodes)
