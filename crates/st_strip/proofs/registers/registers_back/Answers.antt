use Rattle.std.proofs.Common.{sym}
use Rattle.st_listings.proofs.ListLoops.{mapped_more}
use Rattle.st_strip.specs.inside.Told.{register_back}
use Rattle.st_strip.proofs.registers.registers_back.Goals as goal

pub loop-reg-preserved : goal.loop-reg-preserved
loop-reg-preserved c =
    mapped_more register_back c.args.regs.now c.loop-reg.reg-index c.reg-item.result c.in_ok-register_back.field-0 c.loop-reg.list c.push.new.self
    c.loop-reg-test.true (sym c.reg-item.is) c.in_ok-register_back.ensures c.in_ok-push.ensures.ok c.loop-reg.invariant
