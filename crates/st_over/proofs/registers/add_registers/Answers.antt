use Rattle.std.proofs.Common.{◌||◌, sym, ap, ◌∙◌}
use Rattle.std.specs.BTreeSet.{contains}
use Rattle.std.specs.Ordering.{is_eq}
use Rattle.st_ids.specs.Order.{field_cmp}
use Rattle.st_ids.specs.declared.names.FieldId.{FieldId}
use Rattle.st_lemmas.proofs.Bools.{or-false}
use Rattle.st_lemmas.proofs.FirstItems.{found_more}
use Rattle.st_marks.specs.declared.marks.RegMark.{RegMark}
use Rattle.st_moves.proofs.NamesLeft.{or_last}
use Rattle.st_over.proofs.registers.add_registers.Goals as goal

pub loop-item-init : goal.loop-item-init
loop-item-init c = λ q. sym (or-false (contains field_cmp c.args.set.now q))

pub loop-item-preserved : goal.loop-item-preserved
loop-item-preserved c = λ q.
    found_more (λ (r : RegMark). is_eq (field_cmp r.field q)) (contains field_cmp c.args.set.now q) (contains field_cmp c.loop-item.set q) (contains field_cmp c.add.new.set q)
    c.args.items.now c.loop-item.item-index c.item-item.result c.item-item.result c.loop-item-test.true (sym c.item-item.is)
    (c.loop-item.invariant q) (c.in_ok-add.ensures q ∙ or_last (contains field_cmp c.loop-item.set q) (is_eq (field_cmp c.in_ok-copy.field-0 q))
    ∙ ap (λ (j : FieldId). contains field_cmp c.loop-item.set q || is_eq (field_cmp j q)) c.in_ok-copy.ensures)
