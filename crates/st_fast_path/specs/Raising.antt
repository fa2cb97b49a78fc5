-- When the counts of a change and of a step can rise where they stand.
use Rattle.std.specs.Prelude.{◌≡◌, Some, length}
use Rattle.st_ids.specs.Listing.{Has}
use Rattle.st_marks.specs.declared.changes.Change.{Change}
use Rattle.st_marks.specs.declared.marks.RowMarks.{RowMarks}
use Rattle.st_marks.specs.declared.steps.Step.{Step}
use Rattle.st_marks.specs.Listings.{cells_before}
use Rattle.st_marks.specs.Row.{spread}
use Rattle.st_passing.specs.Whole.{row_in}
use Rattle.st_rows.specs.Merged.{IsMerged}

-- the marks of both are in normal form, and of a row that both list they find equally many cells, as those do that stand over one
-- document
pub record CanBeRaised (C : Change) (S : Step) : Type 0 where
  pub change : (r : RowMarks) → Has C.rows r → IsMerged r.marks
  pub step : (s : RowMarks) → Has S.rows s → IsMerged s.marks
  pub alike : (r s : RowMarks) → Has C.rows r → row_in S.rows r.node ≡ Some s
      → length (cells_before (spread r.marks)) ≡ length (cells_before (spread s.marks))
