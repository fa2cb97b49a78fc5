use Rattle.std.proofs.Common.{sym}
use Rattle.st_listings.proofs.ListLoops.{mapped_more}
use Rattle.st_thin.specs.inside.Thinning.{row_thinned}
use Rattle.st_thin.proofs.whole.rows_thinned.Goals as goal

pub loop-row-preserved : goal.loop-row-preserved
loop-row-preserved c =
    mapped_more row_thinned c.args.rows.now c.loop-row.row-index c.row-item.result c.in_ok-thin_row.field-0 c.loop-row.thinned c.push.new.self
    c.loop-row-test.true (sym c.row-item.is) c.in_ok-thin_row.ensures c.in_ok-push.ensures.ok c.loop-row.invariant
