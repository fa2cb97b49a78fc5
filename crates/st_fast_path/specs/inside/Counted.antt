-- Rows in which the cells are counted that another listing makes.
use Rattle.std.specs.Prelude.{◌≡◌, ◌+◌, ◌<◌, ◌^◌, ℕ, Bool, List, [], ◌∷◌, length, take, drop, ◌++◌}
use Rattle.st_marks.specs.declared.marks.RowMarks.{RowMarks}
use Rattle.st_marks.specs.Listings.{cells_made, marks_of}
use Rattle.st_marks.specs.Row.{CellMark, spread}
use Rattle.st_passing.specs.Raising.{with_counts_by}
use Rattle.st_rows.specs.Merged.{IsMerged}

-- a row's cells, with those counted that the other listing makes in it
abbrev pub cells_counted : Bool → List RowMarks → RowMarks → List CellMark
cells_counted b rows r = with_counts_by b 0 (spread r.marks) (marks_of rows r.node)

-- there is room for them
abbrev pub HasRoomFor : List RowMarks → RowMarks → Type 0
HasRoomFor rows r = (length (spread r.marks) + length (cells_made (marks_of rows r.node)) < 2 ^ 32) × (length (marks_of rows r.node) < 2 ^ 32)

-- one row
abbrev pub IsRowCounted : Bool → List RowMarks → RowMarks → RowMarks → Type 0
IsRowCounted b rows r q = (q.node ≡ r.node) × (spread q.marks ≡ cells_counted b rows r) × (IsMerged r.marks → IsMerged q.marks)

-- all rows, one by one
abbrev pub AreCounted : Bool → List RowMarks → List RowMarks → List RowMarks → Type 0
AreCounted b rows [] [] = Unit {0}
AreCounted b rows [] (q ∷ is) = ⊥
AreCounted b rows (r ∷ was) [] = ⊥
AreCounted b rows (r ∷ was) (q ∷ is) = IsRowCounted b rows r q × AreCounted b rows was is

-- those before a place; the others are as before
abbrev pub AreCountedTo : Bool → List RowMarks → List RowMarks → ℕ → List RowMarks → Type 0
AreCountedTo b rows was p is = (front : List RowMarks) × (is ≡ front ++ drop p was) × (length front ≡ p) × AreCounted b rows (take p was) front
