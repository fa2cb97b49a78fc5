use Rattle.std.proofs.Common.{sym}
use Rattle.std.specs.BTreeSet.{contains}
use Rattle.st_ids.specs.Order.{node_cmp}
use Rattle.st_listings.proofs.ListLoops.{mapped_more}
use Rattle.st_revert.specs.inside.Made.{row_made}
use Rattle.st_revert.proofs.making.rows_made.Goals as goal

pub loop-row-preserved : goal.loop-row-preserved
loop-row-preserved c =
    mapped_more (row_made (contains node_cmp c.args.new.now)) c.args.rows.now c.loop-row.row-index c.row-item.result c.in_ok-row_made.field-0 c.loop-row.list c.push.new.self
    c.loop-row-test.true (sym c.row-item.is) c.in_ok-row_made.ensures c.in_ok-push.ensures.ok c.loop-row.invariant
