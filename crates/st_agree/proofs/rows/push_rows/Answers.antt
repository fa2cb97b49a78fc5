use Rattle.std.proofs.Common.{sym}
use Rattle.st_agree.specs.inside.Rows.{row_apart}
use Rattle.st_clash.proofs.LeastFields.{flat_more}
use Rattle.st_agree.proofs.rows.push_rows.Goals as goal

pub loop-row-preserved : goal.loop-row-preserved
loop-row-preserved c =
    flat_more (row_apart c.args.others.now) c.args.found.now c.loop-row.found c.push_row.new.found c.args.rows.now c.loop-row.row-index
    c.row-item.result c.row-item.result c.loop-row-test.true (sym c.row-item.is) c.loop-row.invariant c.in_ok-push_row.ensures
