use Rattle.std.proofs.Common.{refl, sym, ◌∙◌}
use Rattle.std.specs.BTreeSet.{contains}
use Rattle.st_ids.specs.Order.{node_cmp, same_node}
use Rattle.st_ids.specs.Root.{root}
use Rattle.st_ids.specs.declared.names.NodeId.{NodeId}
use Rattle.st_lemmas.proofs.Bools.{or-false}
use Rattle.st_lemmas.proofs.FirstItems.{found_more}
use Rattle.st_embed.proofs.Keeping.{or_last}
use Rattle.st_embed.proofs.sets.add_nodes.Goals as goal

pub loop-node-init : goal.loop-node-init
loop-node-init c = λ n. sym (or-false (contains node_cmp c.args.set.now n))

pub loop-node-preserved : goal.loop-node-preserved
unfolding same_node
loop-node-preserved c = λ n.
    found_more (λ (m : NodeId). same_node m n) (contains node_cmp c.args.set.now n) (contains node_cmp c.loop-node.set n) (contains node_cmp c.add.new.set n)
    c.args.nodes.now c.loop-node.node-index root _ c.loop-node-test.true refl
    (c.loop-node.invariant n) (c.in_ok-add.ensures n ∙ or_last (contains node_cmp c.loop-node.set n) _)
