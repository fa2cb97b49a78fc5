use Rattle.std.proofs.Common.{refl, ◌∙◌}
use Rattle.std.specs.BTreeSet.{contains}
use Rattle.st_ids.specs.Order.{node_cmp, same_node}
use Rattle.st_ids.specs.Root.{root}
use Rattle.st_ids.specs.declared.names.NodeId.{NodeId}
use Rattle.st_join.proofs.Steps.{or_last, set_more}
use Rattle.st_join.proofs.sets.needed_nodes.Goals as goal

pub loop-node-preserved : goal.loop-node-preserved
unfolding same_node
loop-node-preserved c = λ n.
    set_more (λ (m : NodeId). same_node m n) (contains node_cmp c.loop-node.set n) (contains node_cmp c.add.new.set n)
    c.as_slice-node-items.result.now c.loop-node.node-index root _ c.loop-node-test.true refl
    (c.loop-node.invariant n) (c.in_ok-add.ensures n ∙ or_last (contains node_cmp c.loop-node.set n) _)
