use Rattle.std.proofs.Common.{◌≡◌, ◌||◌, ◌&&◌, not}
use Rattle.std.specs.BTreeSet.{contains}
use Rattle.std.specs.List.{list_any}
use Rattle.st_ids.specs.Order.{node_cmp, same_node}
use Rattle.st_ids.specs.declared.names.NodeId.{NodeId}
use Rattle.st_climb.proofs.sets.without.Given as goal

-- what was added, and what is left to be gone through
abbrev pub invariant-loop-node : goal.invariant-loop-node
invariant-loop-node l = (n : NodeId) → (contains node_cmp l.set n || list_any (λ k. same_node k n && not (contains node_cmp l.others k)) l.node-iterator)
    ≡ list_any (λ k. same_node k n && not (contains node_cmp l.others k)) l.nodes.keys
