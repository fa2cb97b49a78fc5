use Rattle.std.proofs.Common.{sym}
use Rattle.st_listings.proofs.ListLoops.{mapped_more}
use Rattle.st_strip.specs.inside.Told.{row_back}
use Rattle.st_strip.proofs.rows.rows_back.Goals as goal

pub loop-row-preserved : goal.loop-row-preserved
loop-row-preserved c =
    mapped_more row_back c.args.rows.now c.loop-row.row-index c.row-item.result c.in_ok-row_back.field-0 c.loop-row.list c.push.new.self
    c.loop-row-test.true (sym c.row-item.is) c.in_ok-row_back.ensures c.in_ok-push.ensures.ok c.loop-row.invariant
