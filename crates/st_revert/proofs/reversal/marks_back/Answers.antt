use Rattle.std.proofs.Common.{sym}
use Rattle.std.specs.BTreeSet.{contains}
use Rattle.st_ids.specs.Order.{node_cmp}
use Rattle.st_listings.proofs.ListLoops.{mapped_more}
use Rattle.st_revert.specs.inside.ReadBack.{mark_back}
use Rattle.st_revert.proofs.reversal.marks_back.Goals as goal

pub loop-reg-preserved : goal.loop-reg-preserved
loop-reg-preserved c =
    mapped_more (mark_back (contains node_cmp c.args.new.now)) c.args.regs.now c.loop-reg.reg-index c.reg-item.result c.in_ok-mark_back.field-0 c.loop-reg.list c.push.new.self
    c.loop-reg-test.true (sym c.reg-item.is) c.in_ok-mark_back.ensures c.in_ok-push.ensures.ok c.loop-reg.invariant
