-- Words of the private functions behind `Reading`.
use Rattle.std.specs.Prelude.{◌≡◌, ℕ, ◌<◌, Bool, true, false, Option, Some, None, List, [], ◌∷◌}
use Rattle.std.specs.Borrow.{Bor}
use Rattle.st_marks.specs.declared.marks.Mark.{Mark}
use Rattle.st_marks.specs.Row.{CellMark, Counted, Gap, Touch, Make, Fill, spread, counted_cells}
use Rattle.st_rows.specs.Merged.{is_skip}
use Rattle.st_rows.specs.declared.front_mark.Head.{Head}
use Rattle.st_rows.specs.Reading.{cell_of}
use Rattle.st_rows.specs.Pieces.{IsSingle}

-- so many counted cells, and then what the marks say
abbrev pub marks_left : ℕ → List Mark → List CellMark
marks_left k ms = counted_cells k (spread ms)

-- whether a cell is made
abbrev pub is_made : CellMark → Bool
is_made Counted = false
is_made (Gap c) = false
is_made (Touch c n h) = false
is_made (Make c n b) = true
is_made (Fill c n) = false

-- what comes first, and the marks behind it
abbrev pub IsFirst : List CellMark → Head → List Mark → Type 0
IsFirst cells Head.End ms = (cells ≡ []) × (ms ≡ [])
IsFirst cells (Head.Many k) ms = (0 < k) × (cells ≡ marks_left k ms)
IsFirst cells (Head.Make m) ms = (is_skip m.now ≡ false) × (cells ≡ cell_of m.now ∷ spread ms) × (is_made (cell_of m.now) ≡ true)
IsFirst cells (Head.Cell m) ms = (is_skip m.now ≡ false) × (cells ≡ cell_of m.now ∷ spread ms) × (is_made (cell_of m.now) ≡ false)

-- whether it is a cell that is made
abbrev pub is_make : Head → Bool
is_make Head.End = false
is_make (Head.Many k) = false
is_make (Head.Make m) = true
is_make (Head.Cell m) = false

-- the mark that makes a cell, if one comes first
abbrev pub IsMakeOf : Head → Option (Bor Mark) → Type 0
IsMakeOf head None = is_make head ≡ false
IsMakeOf head (Some m) = head ≡ Head.Make m

-- how many counted cells come first in both, if some do
abbrev pub AreCountsOf : Head → Head → Option (ℕ × ℕ) → Type 0
AreCountsOf x y None = Unit {0}
AreCountsOf x y (Some p) = (x ≡ Head.Many p.0) × (y ≡ Head.Many p.1)

-- the first cell of what comes first, and how many counted cells stand behind it
abbrev pub IsOne : Head → Option (Bor Mark × ℕ) → Type 0
IsOne head None = (cells : List CellMark) (ms : List Mark) → IsFirst cells head ms → cells ≡ []
IsOne head (Some p) = (cells : List CellMark) (ms : List Mark) → IsFirst cells head ms
    → IsSingle p.0.now × (cells ≡ cell_of p.0.now ∷ marks_left p.1 ms) × (is_make head ≡ false → is_made (cell_of p.0.now) ≡ false)
