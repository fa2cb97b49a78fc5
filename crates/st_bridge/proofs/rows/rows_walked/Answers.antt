use Rattle.std.proofs.Common.{sym}
use Rattle.st_listings.proofs.ListLoops.{filtered_more}
use Rattle.st_bridge.specs.inside.Walked.{row_walked}
use Rattle.st_bridge.proofs.rows.rows_walked.Goals as goal

pub loop-row-preserved : goal.loop-row-preserved
loop-row-preserved c =
    filtered_more (row_walked c.args.change.now.rows.now c.args.step.now.rows.now) c.args.rows.now c.loop-row.row-index c.row-item.result c.row-item.result c.in_ok-across.across c.loop-row.list c.push_if_some.new.list
    c.loop-row-test.true (sym c.row-item.is) c.in_ok-across.ensures c.in_ok-push_if_some.ensures c.loop-row.invariant
