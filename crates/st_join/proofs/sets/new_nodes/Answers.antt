use Rattle.std.proofs.Common.{sym, ap, ◌∙◌, take_all, arith}
use Rattle.std.specs.BTreeSet.{contains}
use Rattle.std.specs.List.{find, list_any}
use Rattle.st_ids.specs.Order.{node_cmp, same_node}
use Rattle.st_marks.specs.Document.{NodeType}
use Rattle.st_marks.specs.declared.changes.NewNode.{NewNode}
use Rattle.st_lemmas.proofs.Options.{is_some-option_map}
use Rattle.st_join.proofs.Steps.{any_found, or_last, set_more}
use Rattle.st_join.proofs.sets.new_nodes.Goals as goal

pub loop-node-preserved : goal.loop-node-preserved
unfolding same_node
loop-node-preserved c = λ n.
    set_more (λ (m : NewNode). same_node m.node n) (contains node_cmp c.loop-node.set n) (contains node_cmp c.add.new.set n)
    c.as_slice-node-items.result.now c.loop-node.node-index c.node-item.result c.node-item.result c.loop-node-test.true (sym c.node-item.is)
    (c.loop-node.invariant n) (c.in_ok-add.ensures n ∙ or_last (contains node_cmp c.loop-node.set n) (same_node c.node-item.result.node n))

pub returns : goal.returns
returns c = λ n.
    let N = c.args.intent.now in
    let p = λ (m : NewNode). same_node m.node n in
    c.loop-node.invariant n ∙ ap (list_any p) (take_all _ _ (omega arith) ∙ c.as_slice-node-items.ensures) ∙ any_found p N.new
    ∙ sym (is_some-option_map {B = NodeType} (λ (m : NewNode). record { ty = m.ty; leaf = m.leaf }) (find p N.new))
