-- Where a step makes nothing.
use Rattle.std.specs.Prelude.{◌≡◌, []}
use Rattle.std.specs.List.{AllByRecursion}
use Rattle.st_marks.specs.declared.changes.Change.{Change}
use Rattle.st_marks.specs.declared.marks.RowMarks.{RowMarks}
use Rattle.st_marks.specs.declared.steps.Step.{Step}
use Rattle.st_marks.specs.Listings.{cells_made, marks_of}

-- the step makes no cell in a row that the change lists
abbrev pub MakesNoneIn : Step → Change → Type 0
MakesNoneIn S C = AllByRecursion (λ (r : RowMarks). cells_made (marks_of S.rows r.node) ≡ []) C.rows
