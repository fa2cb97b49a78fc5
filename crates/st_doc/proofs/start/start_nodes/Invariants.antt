use Rattle.std.proofs.Common.{◌≡◌, take}
use Rattle.std.specs.BTreeMap.{get}
use Rattle.st_ids.specs.declared.names.NodeId.{NodeId as Node}
use Rattle.st_ids.specs.Order.{node_cmp}
use Rattle.st_doc.specs.Nodes.{type_of}
use Rattle.st_opening.specs.Start.{first_said, type_at}
use Rattle.st_doc.proofs.start.start_nodes.Given as goal

abbrev pub invariant-loop-x : goal.invariant-loop-x
invariant-loop-x l = (n : Node) → type_of (get node_cmp l.nodes n) ≡ first_said (type_at n) (take l.x-index l.flat)
