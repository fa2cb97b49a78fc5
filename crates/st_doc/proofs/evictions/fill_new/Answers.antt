use Rattle.std.proofs.Common.{sym, ap, ◌∙◌, cond, None, Some}
use Rattle.std.specs.BTreeMap.{get}
use Rattle.st_ids.specs.Order.{field_cmp, same_field}
use Rattle.st_marks.specs.CarryOut.{only_new}
use Rattle.st_doc.proofs.Evicting.{filled_new, filled_old}
use Rattle.st_doc.proofs.evictions.fill_new.Goals as goal

pub returns-then-not-is_new : goal.returns-then-not-is_new
returns-then-not-is_new c = λ f.
    filled_old c.args.intent.now f c.in-Register.field c.args.put.now.to c.in-Register.is (sym c.if-not-is_new.ensures) (only_new c.args.intent.now (Some c.args.put.now.node)) (get field_cmp c.args.held.now f)

pub returns-then-not-is_new-2 : goal.returns-then-not-is_new-2
unfolding same_field
returns-then-not-is_new-2 c = λ f.
    let N = c.args.intent.now in
    let o = get field_cmp c.args.held.now f in
    c.unset.ensures f ∙ ap (λ b. cond (same_field c.in-Register.field f) (cond b (Some c.args.put.now.node) None) o) c.if-not-is_new-2.ensures
    ∙ filled_new N f c.in-Register.field c.args.put.now.to c.in-Register.is (sym c.if-not-is_new.ensures) (only_new N (Some c.args.put.now.node)) o

pub returns : goal.returns
unfolding same_field
returns c = λ f.
    let N = c.args.intent.now in
    let o = get field_cmp c.args.held.now f in
    c.in_ok-set.ensures f ∙ (λ i. cond (same_field (c.in_ok-copy.ensures i) f) (cond (c.if-not-is_new-2.ensures i) (Some c.args.put.now.node) None) o)
    ∙ filled_new N f c.in-Register.field c.args.put.now.to c.in-Register.is (sym c.if-not-is_new.ensures) (only_new N (Some c.args.put.now.node)) o
