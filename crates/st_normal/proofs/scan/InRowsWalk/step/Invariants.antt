use Rattle.std.proofs.Common.{◌≡◌, ◌++◌, length}
use Rattle.std.specs.List.{flat_map}
use Rattle.st_marks.specs.declared.marks.RowMarks.{RowMarks}
use Rattle.st_normal.proofs.scan.InRowsWalk.step.Given as goal

abbrev pub invariant-loop-item : goal.invariant-loop-item
invariant-loop-item g l =
    g.P.InRow.of l.self.row l.self.marks.now ++ flat_map (λ (r : RowMarks). g.P.InRow.of r.node r.marks) l.self.rows.now
    ≡ g.P.InRow.of l.initial.self.row l.initial.self.marks.now ++ flat_map (λ (r : RowMarks). g.P.InRow.of r.node r.marks) l.initial.self.rows.now

abbrev pub decreases-loop-item : goal.decreases-loop-item
decreases-loop-item g l = length l.self.rows.now
