use Rattle.std.proofs.Common.{◌≡◌, ◌+◌, length, false}
use Rattle.st_marks.specs.Row.{spread}
use Rattle.st_rows.specs.Heads.{marks_left}
use Rattle.st_passing.specs.Passing.{do_not_meet}
use Rattle.st_passing.proofs.raise.does_not_meet.Given as goal

abbrev pub invariant-cells : goal.invariant-cells
invariant-cells l = do_not_meet false (marks_left l.x_left l.x_rest) (marks_left l.y_left l.y_rest) ≡ do_not_meet false (spread l.change) (spread l.step)

abbrev pub decreases-cells : goal.decreases-cells
decreases-cells g = length (marks_left g.x_left g.x_rest) + length (marks_left g.y_left g.y_rest)
