use Rattle.std.proofs.Common.{get_or, refl}
use Rattle.st_marks.specs.declared.marks.Mark.{Mark}
use Rattle.st_forest.specs.inside.Writes.{seat_by}
use Rattle.st_forest.proofs.Written.{seated_more, seated_none}
use Rattle.st_forest.proofs.seats.seat_marks.Goals as goal

pub loop-mark-init : goal.loop-mark-init
loop-mark-init c = seated_none c.args.nodes.now

pub loop-mark-preserved : goal.loop-mark-preserved
loop-mark-preserved c =
    let mark = get_or c.args.marks.now c.loop-mark.mark-index (Mark.Skip 0) in
    seated_more (seat_by c.args.comes c.args.row) c.args.marks.now c.loop-mark.mark-index (Mark.Skip 0) mark c.args.nodes.now c.loop-mark.nodes c.seat_mark.new.nodes
    c.loop-mark-test.true refl c.loop-mark.invariant c.seat_mark.ensures
