use Rattle.std.proofs.Common.{sym, ap, ◌∙◌}
use Rattle.st_ids.specs.Listing.{item_of}
use Rattle.st_ids.specs.Order.{field_cmp}
use Rattle.st_marks.specs.declared.marks.RegStep.{RegStep}
use Rattle.st_listings.proofs.ListLoops.{mapped_more}
use Rattle.st_strip.specs.inside.Told.{register_behind}
use Rattle.st_strip.proofs.registers.registers_behind.Goals as goal

pub loop-reg-preserved : goal.loop-reg-preserved
loop-reg-preserved c =
    mapped_more (λ (r : RegStep). register_behind (item_of field_cmp (λ (q : RegStep). q.field) c.args.first.now r.field) r) c.args.whole.now c.loop-reg.reg-index c.reg-item.result c.in_ok-register_behind.field-0 c.loop-reg.regs c.push.new.self
    c.loop-reg-test.true (sym c.reg-item.is) (c.in_ok-register_behind.ensures ∙ ap (λ o. register_behind o c.reg-item.result) c.register_over_in-before.ensures) c.in_ok-push.ensures.ok c.loop-reg.invariant
