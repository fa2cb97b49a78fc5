use Rattle.std.proofs.Common.{sym}
use Rattle.st_replay.proofs.RangesTaken.{ranges_more}
use Rattle.st_replay.proofs.seen.ranges_in.Goals as goal

pub loop-entry-preserved : goal.loop-entry-preserved
loop-entry-preserved c = ranges_more c.loop-entry.ranges c.push_range.new.ranges c.args.entries.now c.loop-entry.entry-index c.entry-item.result c.entry-item.result c.loop-entry-test.true (sym c.entry-item.is) c.loop-entry.invariant c.in_ok-push_range.ensures
