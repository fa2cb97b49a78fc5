use Rattle.std.proofs.Common.{sym, ap, ◌∙◌, take_all, arith}
use Rattle.std.specs.BTreeSet.{contains}
use Rattle.std.specs.List.{find, list_any}
use Rattle.st_ids.specs.Order.{node_cmp, same_node}
use Rattle.st_marks.specs.declared.intents.Put.{Put}
use Rattle.st_lemmas.proofs.Options.{is_some-option_map}
use Rattle.st_join.proofs.Steps.{any_found, or_last, set_more}
use Rattle.st_join.proofs.sets.put_nodes.Goals as goal

pub loop-put-preserved : goal.loop-put-preserved
unfolding same_node
loop-put-preserved c = λ n.
    set_more (λ (m : Put). same_node m.node n) (contains node_cmp c.loop-put.set n) (contains node_cmp c.add.new.set n)
    c.as_slice-put-items.result.now c.loop-put.put-index c.put-item.result c.put-item.result c.loop-put-test.true (sym c.put-item.is)
    (c.loop-put.invariant n) (c.in_ok-add.ensures n ∙ or_last (contains node_cmp c.loop-put.set n) (same_node c.put-item.result.node n))

pub returns : goal.returns
returns c = λ n.
    let N = c.args.intent.now in
    let p = λ (m : Put). same_node m.node n in
    c.loop-put.invariant n ∙ ap (list_any p) (take_all _ _ (omega arith) ∙ c.as_slice-put-items.ensures) ∙ any_found p N.put
    ∙ sym (is_some-option_map (λ (m : Put). m.to) (find p N.put))
