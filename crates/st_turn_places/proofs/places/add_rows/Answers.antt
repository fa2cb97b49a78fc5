use Rattle.std.proofs.Common.{sym}
use Rattle.st_turn_places.specs.inside.Sides.{row_placed}
use Rattle.st_clash.proofs.LeastFields.{flat_more}
use Rattle.st_turn_places.proofs.places.add_rows.Goals as goal

pub loop-row-preserved : goal.loop-row-preserved
loop-row-preserved c =
    flat_more (row_placed c.args.after) c.args.list.now c.loop-row.list c.add_row.new.list c.args.rows.now c.loop-row.row-index
    c.row-item.result c.row-item.result c.loop-row-test.true (sym c.row-item.is) c.loop-row.invariant c.in_ok-add_row.ensures
