use Rattle.std.proofs.Common.{◌≡◌, ◌+◌, length}
use Rattle.std.specs.Prelude.{is_none}
use Rattle.st_marks.specs.Row.{spread}
use Rattle.st_marks.specs.Listings.{cells_before}
use Rattle.st_rows.specs.Views.{row_views}
use Rattle.st_rows.specs.Differences.{first_difference}
use Rattle.st_rows.specs.Heads.{marks_left}
use Rattle.st_seq.proofs.form.is_listed.Given as goal

abbrev pub invariant-cells : goal.invariant-cells
invariant-cells l = is_none (first_difference (row_views l.row) (cells_before (spread l.marks))) ≡ is_none (first_difference (row_views l.slots_left) (cells_before (marks_left l.count_left l.marks_left)))

abbrev pub decreases-cells : goal.decreases-cells
decreases-cells l = length l.slots_left + length (marks_left l.count_left l.marks_left)
