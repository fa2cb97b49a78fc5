use Rattle.std.proofs.Common.{sym}
use Rattle.st_listings.proofs.ListLoops.{copied_more}
use Rattle.st_listings.proofs.schemas.push_copies.Goals as goal

pub loop-entry-preserved : goal.loop-entry-preserved
loop-entry-preserved c =
    copied_more c.args.list.now c.loop-entry.list c.push.new.self c.args.entries.now c.loop-entry.entry-index c.entry-item.result c.in_ok-copy.field-0
    c.loop-entry-test.true (sym c.entry-item.is) c.in_ok-copy.ensures c.in_ok-push.ensures.ok c.loop-entry.invariant
