use Rattle.std.proofs.Common.{◌≡◌, take}
use Rattle.std.specs.BTreeMap.{get}
use Rattle.std.specs.List.{find}
use Rattle.std.specs.Option.{option_or}
use Rattle.st_ids.specs.declared.names.NodeId.{NodeId as Node}
use Rattle.st_ids.specs.Order.{node_cmp, same_node}
use Rattle.st_doc.proofs.names.add_nodes.Given as goal

abbrev pub invariant-loop-node : goal.invariant-loop-node
invariant-loop-node l = (n : Node) → get node_cmp l.nodes n ≡ option_or (get node_cmp l.initial.nodes n) (find (λ m. same_node m.node n) (take l.node-index l.node-items))
