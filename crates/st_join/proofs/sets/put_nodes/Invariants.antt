use Rattle.std.proofs.Common.{◌≡◌, take}
use Rattle.std.specs.BTreeSet.{contains}
use Rattle.std.specs.List.{list_any}
use Rattle.st_ids.specs.declared.names.NodeId.{NodeId}
use Rattle.st_ids.specs.Order.{node_cmp, same_node}
use Rattle.st_join.proofs.sets.put_nodes.Given as goal

abbrev pub invariant-loop-put : goal.invariant-loop-put
invariant-loop-put l = (n : NodeId) → contains node_cmp l.set n ≡ list_any (λ q. same_node q.node n) (take l.put-index l.put-items)
