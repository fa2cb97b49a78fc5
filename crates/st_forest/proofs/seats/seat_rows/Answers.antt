use Rattle.std.proofs.Common.{subst, sym}
use Rattle.std.specs.List.{filter_map}
use Rattle.st_forest.specs.inside.Writes.{AreSeated, seat_by}
use Rattle.st_forest.proofs.Written.{seated_none, seated_rows_more}
use Rattle.st_forest.proofs.seats.seat_rows.Goals as goal

pub loop-row-init : goal.loop-row-init
loop-row-init c = seated_none c.args.nodes.now

pub loop-row-preserved : goal.loop-row-preserved
loop-row-preserved c =
    seated_rows_more c.args.comes c.args.rows.now c.loop-row.row-index c.row-item.result c.row-item.result c.args.nodes.now c.loop-row.nodes c.seat_marks.new.nodes
    c.loop-row-test.true (sym c.row-item.is) c.loop-row.invariant
    (subst (λ ms. AreSeated (filter_map (seat_by c.args.comes c.row-item.result.node) ms) c.loop-row.nodes c.seat_marks.new.nodes) c.as_slice.ensures c.seat_marks.ensures)
