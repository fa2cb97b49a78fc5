use Rattle.std.proofs.Common.{sym, ◌∙◌}
use Rattle.std.specs.BTreeSet.{contains}
use Rattle.st_ids.specs.Order.{node_cmp, same_node}
use Rattle.st_lemmas.proofs.Bools.{or-false}
use Rattle.st_lemmas.proofs.FirstItems.{found_more}
use Rattle.st_marks.specs.declared.changes.NewNode.{NewNode}
use Rattle.st_embed.proofs.Keeping.{or_last}
use Rattle.st_embed.proofs.sets.add_new.Goals as goal

pub loop-node-init : goal.loop-node-init
loop-node-init c = λ n. sym (or-false (contains node_cmp c.args.set.now n))

pub loop-node-preserved : goal.loop-node-preserved
unfolding same_node
loop-node-preserved c = λ n.
    found_more (λ (x : NewNode). same_node x.node n) (contains node_cmp c.args.set.now n) (contains node_cmp c.loop-node.set n) (contains node_cmp c.add.new.set n)
    c.args.new.now c.loop-node.node-index c.node-item.result c.node-item.result c.loop-node-test.true (sym c.node-item.is)
    (c.loop-node.invariant n) (c.in_ok-add.ensures n ∙ or_last (contains node_cmp c.loop-node.set n) (same_node c.node-item.result.node n))
