use Rattle.std.specs.BTreeSet.{contains}
use Rattle.st_ids.specs.Order.{node_cmp}
use Rattle.std.proofs.Common.{◌≡◌, ◌++◌, take}
use Rattle.std.specs.List.{flat_map}
use Rattle.st_turn_names.specs.inside.Names.{made_again}
use Rattle.st_turn_names.proofs.names.push_nodes.Given as goal

abbrev pub invariant-loop-node : goal.invariant-loop-node
invariant-loop-node l = l.found ≡ l.initial.found ++ flat_map (made_again (contains node_cmp l.made)) (take l.node-index l.nodes)
