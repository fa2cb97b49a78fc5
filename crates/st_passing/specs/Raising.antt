-- Counting cells in a list of marks that stays where it is.
use Rattle.std.specs.Prelude.{◌≡◌, ℕ, zero, suc, Bool, true, false, List, [], ◌∷◌, ◌++◌, length}
use Rattle.st_marks.specs.declared.marks.Mark.{Mark}
use Rattle.st_marks.specs.Row.{CellMark, Counted, Make, counted_cells, spread}
use Rattle.st_rows.specs.Merged.{begins_with_skip}
use Rattle.st_passing.specs.declared.raise.Go.{Go}
use Rattle.st_passing.specs.declared.raise.Seat.{Seat}

-- one counted cell more, behind so many cells that are found and behind those that are made there
abbrev pub with_count : ℕ → List CellMark → List CellMark
with_count p [] = Counted ∷ []
with_count p (Make c n b ∷ xs) = Make c n b ∷ with_count p xs
with_count zero (x ∷ xs) = Counted ∷ (x ∷ xs)
with_count (suc p) (x ∷ xs) = x ∷ with_count p xs

-- one counted cell more, at a place among all cells
abbrev pub with_count_at : ℕ → List CellMark → List CellMark
with_count_at zero xs = Counted ∷ xs
with_count_at (suc p) [] = Counted ∷ []
with_count_at (suc p) (x ∷ xs) = x ∷ with_count_at p xs

-- the one or the other
abbrev pub count_by : Bool → ℕ → List CellMark → List CellMark
count_by false p xs = with_count p xs
count_by true p xs = with_count_at p xs

-- one for each cell that the other listing makes; the place is how many of its cells are before
abbrev pub with_counts_by : Bool → ℕ → List CellMark → List CellMark → List CellMark
with_counts_by b p zs [] = zs
with_counts_by b p zs (Make c n h ∷ ys) = with_counts_by b (suc p) (count_by b p zs) ys
with_counts_by b p zs (y ∷ ys) = with_counts_by b (suc p) zs ys

-- where a step makes cells: the place is how many cells are found before
abbrev pub with_counts : ℕ → List CellMark → List CellMark → List CellMark
with_counts p zs ys = with_counts_by false p zs ys

-- where a change makes cells that counts those of the step already: each has the same place in both
abbrev pub with_counts_beside : ℕ → List CellMark → List CellMark → List CellMark
with_counts_beside p zs xs = with_counts_by true p zs xs

-- how many cells a mark counts
abbrev pub count_or_none : Mark → ℕ
count_or_none (Mark.Skip k) = k
count_or_none (Mark.Gap c) = 0
count_or_none (Mark.Touch c n h) = 0
count_or_none (Mark.Make c n b) = 0
count_or_none (Mark.Fill c n) = 0

-- how many cells the last mark counts
abbrev pub last_counts : List Mark → ℕ
last_counts [] = 0
last_counts (m ∷ []) = count_or_none m
last_counts (m ∷ (n ∷ ms)) = last_counts (n ∷ ms)

-- the mark that counts one cell more, so that these cells come, or the place of a new one
abbrev pub IsSeat : List Mark → List CellMark → Seat → Type 0
IsSeat ms zs (Seat.In i k) = (front : List Mark) × (more : List Mark) × (ms ≡ front ++ Mark.Skip k ∷ more) × (length front ≡ i) × (spread front ++ counted_cells (suc k) (spread more) ≡ zs)
IsSeat ms zs (Seat.Before i) = (front : List Mark) × (rest : List Mark) × (ms ≡ front ++ rest) × (length front ≡ i) × (spread front ++ Counted ∷ spread rest ≡ zs) × (last_counts front ≡ 0) × (begins_with_skip rest ≡ false)

-- whether a count before the marks isn't one with what they say, and the marks make no cell first
abbrev pub ends_count : List Mark → Bool
ends_count [] = true
ends_count (Mark.Skip k ∷ ms) = false
ends_count (Mark.Make c n b ∷ ms) = false
ends_count (Mark.Gap c ∷ ms) = true
ends_count (Mark.Touch c n h ∷ ms) = true
ends_count (Mark.Fill c n ∷ ms) = true

-- so far the search has come
abbrev pub IsSearched : Bool → List Mark → ℕ → ℕ → ℕ → ℕ → List Mark → Type 0
IsSearched b ms p at left count rest = (front : List Mark) × (ms ≡ front ++ rest) × (length front ≡ at) × (spread front ++ count_by b left (spread rest) ≡ count_by b p (spread ms)) × (last_counts front ≡ count)

-- what is done at a mark
abbrev pub IsGo : Bool → Mark → ℕ → List Mark → Go → Type 0
IsGo b m left more (Go.In k) = (m ≡ Mark.Skip k) × (counted_cells (suc k) (spread more) ≡ count_by b left (spread (m ∷ more)))
IsGo b m left more Go.Before = (begins_with_skip (m ∷ more) ≡ false) × (Counted ∷ spread (m ∷ more) ≡ count_by b left (spread (m ∷ more)))
IsGo b m left more (Go.On j) = spread (m ∷ []) ++ count_by b j (spread more) ≡ count_by b left (spread (m ∷ more))

-- at a mark of one cell: before it, or past it
abbrev pub past : ℕ → Go
past zero = Go.Before
past (suc j) = Go.On j
