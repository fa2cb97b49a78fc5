use Rattle.std.proofs.Common.{sym}
use Rattle.st_meaning.specs.inside.Made.{cleared_at}
use Rattle.st_meaning.proofs.Loops.{flat_more}
use Rattle.st_meaning.proofs.clears.clears_of.Goals as goal

pub loop-reg-preserved : goal.loop-reg-preserved
loop-reg-preserved c = flat_more cleared_at c.loop-reg.fields c.push_if_cleared.new.fields c.args.regs.now c.loop-reg.reg-index c.reg-item.result c.reg-item.result c.loop-reg-test.true (sym c.reg-item.is) c.loop-reg.invariant c.in_ok-push_if_cleared.ensures
