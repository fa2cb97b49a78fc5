use Rattle.std.proofs.Common.{◌≡◌, ◌+◌, ◌++◌, option_map, length}
use Rattle.st_marks.specs.Row.{spread}
use Rattle.st_marks.specs.Listings.{cells_before}
use Rattle.st_rows.specs.Views.{row_views}
use Rattle.st_rows.specs.Differences.{first_difference}
use Rattle.st_rows.specs.Turns.{after_row}
use Rattle.st_rows.specs.Heads.{marks_left}
use Rattle.st_rows.proofs.rows.slots_after.Given as goal

abbrev pub invariant-cells : goal.invariant-cells
invariant-cells l = record {
  whole : l.out ++ after_row l.slots_left (marks_left l.count_left l.marks_left) ≡ after_row l.row (spread l.step);
  place : l.place + length (cells_before (marks_left l.count_left l.marks_left)) ≡ length (cells_before (spread l.step));
  apart : first_difference (row_views l.row) (cells_before (spread l.step)) ≡ option_map (λ k. l.place + k) (first_difference (row_views l.slots_left) (cells_before (marks_left l.count_left l.marks_left)));
}

abbrev pub decreases-cells : goal.decreases-cells
decreases-cells l = length l.slots_left + length (marks_left l.count_left l.marks_left)
