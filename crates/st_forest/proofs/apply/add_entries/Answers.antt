use Rattle.std.proofs.Common.{sym}
use Rattle.std.proofs.lemmas.List.{append-nil}
use Rattle.st_forest.proofs.Entries.{put_more}
use Rattle.st_forest.proofs.apply.add_entries.Goals as goal

pub loop-entry-init : goal.loop-entry-init
loop-entry-init c = sym (append-nil c.args.entries.now)

pub loop-entry-preserved : goal.loop-entry-preserved
loop-entry-preserved c =
    put_more c.args.entries.now c.loop-entry.entries c.push.new.self c.args.more.now c.loop-entry.entry-index c.entry-item.result c.entry-item.result c.in_ok-entry.entry
    c.loop-entry-test.true (sym c.entry-item.is) c.loop-entry.invariant c.in_ok-push.ensures.ok c.in_ok-entry.ensures
