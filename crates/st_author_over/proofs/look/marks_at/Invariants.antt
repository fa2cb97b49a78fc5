use Rattle.std.proofs.Common.{◌≡◌, drop}
use Rattle.st_marks.specs.Listings.{marks_of}
use Rattle.st_author_over.proofs.look.marks_at.Given as goal

abbrev pub invariant-loop-row : goal.invariant-loop-row
invariant-loop-row l = marks_of (drop l.row-index l.rows) l.node ≡ marks_of l.rows l.node
