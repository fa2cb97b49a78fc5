use Rattle.std.proofs.Common.{◌≡◌, take}
use Rattle.std.specs.BTreeMap.{get}
use Rattle.st_ids.specs.declared.names.NodeId.{NodeId as Node}
use Rattle.st_ids.specs.Order.{node_cmp, same_node}
use Rattle.st_forest.specs.inside.Writes.{new_seats, written}
use Rattle.st_forest.proofs.seats.add_nodes.Given as goal

abbrev pub invariant-loop-node : goal.invariant-loop-node
invariant-loop-node l = (n : Node) → get node_cmp l.nodes n ≡ written same_node (new_seats (take l.node-index l.new)) n (get node_cmp l.initial.nodes n)
