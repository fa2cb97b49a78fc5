use Rattle.std.proofs.Common.{sym}
use Rattle.st_lean.proofs.FewCells.{listed_step}
use Rattle.st_lean.proofs.room.listed.Goals as goal

pub loop-row-preserved : goal.loop-row-preserved
loop-row-preserved c =
    listed_step c.args.rows.now c.loop-row.row-index c.loop-row.count c.after.result c.saturating_add.result c.min-count.result c.row-item.result c.row-item.result
    c.loop-row-test.true (sym c.row-item.is) c.loop-row.invariant c.after.ensures c.saturating_add.ensures c.min-count.ensures
