use Rattle.std.proofs.Common.{◌≡◌, length}
use Rattle.st_normal.proofs.scan.InRows.in_row.Given as goal

abbrev pub invariant-loop-self : goal.invariant-loop-self
invariant-loop-self g l = record {
  row : l.self.row ≡ l.initial.self.row;
  rows : l.self.rows ≡ l.initial.self.rows;
  left : g.P.InRow.of l.self.row l.self.marks.now ≡ g.P.InRow.of l.initial.self.row l.initial.self.marks.now;
}

abbrev pub decreases-loop-self : goal.decreases-loop-self
decreases-loop-self g l = length l.self.marks.now
