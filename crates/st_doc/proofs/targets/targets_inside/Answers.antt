use Rattle.std.proofs.Common.{cond, None, sym, ap, ◌∙◌, take_all, arith}
use Rattle.std.specs.BTreeMap.{get}
use Rattle.std.specs.List.{list_any}
use Rattle.std.specs.Option.{option_or}
use Rattle.st_ids.specs.Order.{node_cmp, same_node}
use Rattle.st_marks.specs.declared.changes.NewNode.{NewNode}
use Rattle.st_doc.specs.inside.Ahead.{inside_new}
use Rattle.st_doc.proofs.Carrying.{kept_one}
use Rattle.st_intent.proofs.Scans.{is_new-listed}
use Rattle.st_doc.proofs.targets.targets_inside.Goals as goal

pub loop-new-preserved : goal.loop-new-preserved
loop-new-preserved c = λ n.
    let N = c.args.intent.now in
    let m = c.new-item.result in
    c.in_ok-keep_inside.ensures n
    ∙ ap (λ o. cond (same_node m.node n) (option_or (inside_new N (get node_cmp c.args.targets.now m.node)) o) o) (c.loop-new.invariant n)
    ∙ kept_one N c.as_slice-new-items.result.now c.loop-new.new-index m (get node_cmp c.args.targets.now) n c.loop-new-test.true (sym c.new-item.is)

pub returns : goal.returns
returns c = λ n.
    let N = c.args.intent.now in
    c.loop-new.invariant n
    ∙ ap (λ ms. cond (list_any (λ (m : NewNode). same_node m.node n) ms) (inside_new N (get node_cmp c.args.targets.now n)) None) (take_all _ _ (omega arith) ∙ c.as_slice-new-items.ensures)
    ∙ ap (λ b. cond b (inside_new N (get node_cmp c.args.targets.now n)) None) (sym (is_new-listed N n))
