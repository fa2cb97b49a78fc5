use Rattle.std.proofs.Common.{ap, ◌∙◌}
use Rattle.std.specs.Ordering.{is_lt}
use Rattle.st_ids.specs.Order.{field_cmp}
use Rattle.st_lemmas.proofs.Bools.{true-false}
use Rattle.st_clash.proofs.LeastFields.{least_more}
use Rattle.st_clash.proofs.fields.least_field.Goals.{then-are_in_order, else-are_in_order}
use Rattle.st_clash.proofs.fields.least_field.Goals as goal

pub loop-field-preserved : goal.loop-field-preserved
loop-field-preserved c =
    let item = c.field-item.is in
    least_more c.args.fields.now c.loop-field.field-index c.field-item.result c.loop-field.least.now c.if-are_in_order.least.now c.are_in_order.result c.loop-field-test.true
    (c.are_in_order.ensures ∙ ap (λ z. is_lt (field_cmp z c.loop-field.least.now)) item)
    (λ e. elim c.if-are_in_order.branch [ then-are_in_order w ↦ ap (λ z. z.now) w.least-is ∙ item | else-are_in_order w ↦ absurd (true-false e w.if-are_in_order.false) ])
    (λ e. elim c.if-are_in_order.branch [ then-are_in_order w ↦ absurd (true-false w.if-are_in_order.true e) | else-are_in_order w ↦ ap (λ z. z.now) w.least-is ])
    c.loop-field.invariant
