use Rattle.std.proofs.Common.{◌≡◌, ◌||◌, take}
use Rattle.std.specs.BTreeSet.{contains}
use Rattle.st_ids.specs.Order.{node_cmp}
use Rattle.st_ids.specs.declared.names.NodeId.{NodeId}
use Rattle.st_marks.specs.Embedding.{is_among}
use Rattle.st_climb.proofs.sets.add_all.Given as goal

abbrev pub invariant-loop-node : goal.invariant-loop-node
invariant-loop-node l = (n : NodeId) → contains node_cmp l.set n ≡ (contains node_cmp l.initial.set n || is_among (take l.node-index l.nodes) n)
