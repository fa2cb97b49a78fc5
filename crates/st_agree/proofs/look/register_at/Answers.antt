use Rattle.std.proofs.Common.{◌≡◌, ◌+◌, ◌-◌, ◌/◌, ◌<◌, arith, slice_get, sym, ◌∙◌}
use Rattle.std.specs.Option.{option_copied}
use Rattle.st_ids.specs.Order.{field_cmp}
use Rattle.st_ids.proofs.Orders.{field_cmp_exact, field_cmp_total}
use Rattle.st_marks.specs.declared.marks.RegStep.{RegStep}
use Rattle.st_clash.proofs.ItemSearch.{all_between, copied_at, found_there, greater_after, less_before, none_between}
use Rattle.st_agree.proofs.look.register_at.Goals as goal

pub loop-low-init : goal.loop-low-init
loop-low-init c = all_between field_cmp field_cmp_total field_cmp_exact (λ (r : RegStep). r.field) c.args.regs.now c.args.field.now

pub returns-in-Equal : goal.returns-in-Equal
returns-in-Equal c =
    let middle : c.loop-low.low + (c.loop-low.high - c.loop-low.low) / 2 < c.loop-low.high = omega (arith, c.loop-low-test.true) in
    let found = found_there field_cmp field_cmp_total field_cmp_exact (λ (r : RegStep). r.field) c.args.regs.now c.args.field.now (c.loop-low.low + (c.loop-low.high - c.loop-low.low) / 2) c.index-regs-middle.result c.requires
    (omega (arith, middle, c.loop-low.invariant.within)) (sym c.field_order.ensures ∙ c.in-Equal.is) in
    let copied : option_copied c.get.result ≡ slice_get c.args.regs.now (c.loop-low.low + (c.loop-low.high - c.loop-low.low) / 2) = copied_at c.args.regs.now (c.loop-low.low + (c.loop-low.high - c.loop-low.low) / 2) c.get.result (omega (arith, middle, c.loop-low.invariant.within)) c.get.ensures.lookup.0 c.get.ensures.lookup.1 in
    copied ∙ found

pub loop-low-preserved-in-Less : goal.loop-low-preserved-in-Less
loop-low-preserved-in-Less c =
    less_before field_cmp field_cmp_total field_cmp_exact (λ (r : RegStep). r.field) c.args.regs.now c.args.field.now c.loop-low.low c.loop-low.high (c.loop-low.low + (c.loop-low.high - c.loop-low.low) / 2) c.index-regs-middle.result
    c.requires c.loop-low.invariant (omega (arith, c.loop-low-test.true)) (sym c.field_order.ensures ∙ c.in-Less.is)

pub loop-low-preserved : goal.loop-low-preserved
loop-low-preserved c =
    greater_after field_cmp field_cmp_total field_cmp_exact (λ (r : RegStep). r.field) c.args.regs.now c.args.field.now c.loop-low.low c.loop-low.high (c.loop-low.low + (c.loop-low.high - c.loop-low.low) / 2) c.index-regs-middle.result
    c.requires c.loop-low.invariant (omega (arith, c.loop-low-test.true)) (sym c.field_order.ensures ∙ c.in-Greater.is)

pub returns : goal.returns
returns c = sym (none_between field_cmp field_cmp_total field_cmp_exact (λ (r : RegStep). r.field) c.args.regs.now c.args.field.now c.loop-low.low c.loop-low.high c.loop-low.invariant c.loop-low-test.false)
