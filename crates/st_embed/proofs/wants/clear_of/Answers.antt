use Rattle.std.proofs.Common.{sym, ap, ◌∙◌, ◌||◌}
use Rattle.std.specs.BTreeSet.{contains}
use Rattle.st_ids.specs.Order.{field_cmp, same_field}
use Rattle.st_ids.specs.declared.names.FieldId.{FieldId}
use Rattle.st_embed.proofs.Keeping.{or_last, set_more}
use Rattle.st_embed.proofs.wants.clear_of.Goals as goal

pub loop-field-preserved : goal.loop-field-preserved
unfolding same_field
loop-field-preserved c = λ f.
    set_more (λ (g : FieldId). same_field g f) (contains field_cmp c.loop-field.set f) (contains field_cmp c.add.new.set f)
    c.as_slice-field-items.result.now c.loop-field.field-index c.field-item.result c.field-item.result c.loop-field-test.true (sym c.field-item.is)
    (c.loop-field.invariant f) (c.in_ok-add.ensures f ∙ or_last (contains field_cmp c.loop-field.set f) (same_field c.in_ok-copy.field-0 f)
    ∙ ap (λ g. contains field_cmp c.loop-field.set f || same_field g f) c.in_ok-copy.ensures)
