use Rattle.std.proofs.Common.{sym, ap, ◌∙◌}
use Rattle.st_ids.specs.Listing.{item_of}
use Rattle.st_ids.specs.Order.{field_cmp}
use Rattle.st_marks.specs.declared.marks.RegMark.{RegMark}
use Rattle.st_part_listings.specs.Together.{goes_of, register_behind}
use Rattle.st_part_listings.proofs.ListLoops.{mapped_more}
use Rattle.st_part_listings.proofs.registers.registers_behind.Goals as goal

pub loop-reg-preserved : goal.loop-reg-preserved
loop-reg-preserved c =
    mapped_more (λ (r : RegMark). register_behind (goes_of c.args.tables.now) (item_of field_cmp (λ (q : RegMark). q.field) c.args.first.now r.field) r) c.args.second.now c.loop-reg.reg-index c.reg-item.result c.in_ok-register_behind.field-0 c.loop-reg.regs c.push.new.self
    c.loop-reg-test.true (sym c.reg-item.is) (c.in_ok-register_behind.ensures ∙ ap (λ o. register_behind (goes_of c.args.tables.now) o c.reg-item.result) (c.get-before.ensures.value ∙ c.in_ok-table.ensures c.reg-item.result.field)) c.in_ok-push.ensures.ok c.loop-reg.invariant
