use Rattle.std.proofs.Common.{None, sym}
use Rattle.st_part_listings.specs.Together.{goes_of, register_behind}
use Rattle.st_part_listings.proofs.ListLoops.{mapped_more}
use Rattle.st_part_listings.proofs.registers.registers_before.Goals as goal

pub loop-reg-preserved : goal.loop-reg-preserved
loop-reg-preserved c =
    mapped_more (register_behind (goes_of c.args.tables.now) None) c.args.first.now c.loop-reg.reg-index c.reg-item.result c.in_ok-register_behind.field-0 c.loop-reg.regs c.push.new.self
    c.loop-reg-test.true (sym c.reg-item.is) c.in_ok-register_behind.ensures c.in_ok-push.ensures.ok c.loop-reg.invariant
