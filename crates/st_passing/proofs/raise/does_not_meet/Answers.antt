use Rattle.std.proofs.Common.{false}
use Rattle.st_marks.specs.Row.{spread}
use Rattle.st_rows.specs.Heads.{marks_left}
use Rattle.st_rows.specs.Walks.{beside}
use Rattle.st_passing.specs.Passing.{do_not_meet}
use Rattle.st_passing.proofs.MarksWalked.{counted_on}
use Rattle.st_passing.proofs.raise.does_not_meet.Goals as goal

pub cells-preserved-in-Counted : goal.cells-preserved-in-Counted
cells-preserved-in-Counted c =
    counted_on false (do_not_meet false (spread c.args.change.now) (spread c.args.step.now)) c.in-Counted.count (beside (marks_left c.cells.x_left c.cells.x_rest.now) (marks_left c.cells.y_left c.cells.y_rest.now))
    (beside (marks_left c.in-Counted.x_count c.in-Counted.xs.now) (marks_left c.in-Counted.y_count c.in-Counted.ys.now)) c.cells.invariant c.in-Counted.ensures.1
