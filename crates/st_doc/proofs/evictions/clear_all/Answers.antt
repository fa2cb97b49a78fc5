use Rattle.std.proofs.Common.{sym, ap, ◌∙◌, cond, None}
use Rattle.std.specs.BTreeMap.{get}
use Rattle.st_ids.specs.Order.{field_cmp, same_field}
use Rattle.st_doc.proofs.Evicting.{cleared_one}
use Rattle.st_doc.proofs.evictions.clear_all.Goals as goal

pub loop-field-preserved : goal.loop-field-preserved
unfolding same_field
loop-field-preserved c = λ f.
    let field = c.field-item.result in
    c.unset.ensures f ∙ ap (cond (same_field field f) None) (c.loop-field.invariant f)
    ∙ cleared_one c.as_slice-field-items.result.now c.loop-field.field-index field c.loop-field-test.true (sym c.field-item.is) f (get field_cmp c.args.held.now f)
