-- Words of the private functions behind `NamedApart`.
use Rattle.std.specs.Prelude.{◌&&◌, ◌==◌, ℕ, not, List, [], ◌∷◌, Option, Some, None, min, if◌then◌else◌}
use Rattle.st_kind.specs.Refused.{IsFirstPlace}
use Rattle.st_marks.specs.declared.places.Slot.{Slot}
use Rattle.st_marks.specs.Row.{CellMark}
use Rattle.st_marks.specs.Listings.{cells_before}
use Rattle.st_rows.specs.Views.{row_views}
use Rattle.st_seq.specs.declared.name_clashes.NamedAt.{NamedAt}
use Rattle.st_seq.specs.NamedApart.{SaidApart, first_named, named_before, named_in_row}
use Rattle.st_ids.specs.Order.{lesser}

-- ## Two listings

-- the same of a row and a step, of two listings in turn, and of two beside one another
abbrev pub SaidOver : List Slot → List CellMark → ℕ → Type 0
SaidOver c ys = SaidApart (row_views c) (cells_before ys) (named_in_row 0 c) (named_before 0 ys)

abbrev pub SaidBeside : List CellMark → List CellMark → ℕ → Type 0
SaidBeside xs ys = SaidApart (cells_before xs) (cells_before ys) (named_before 0 xs) (named_before 0 ys)

-- ## The same as a search

-- the first place at which something is so, if it is so at any
abbrev pub IsPlace : (ℕ → Type 0) → Option ℕ → Type 0
IsPlace D None = (k : ℕ) → D k → ⊥
IsPlace D (Some k) = IsFirstPlace D k

-- the first place at which something is named apart
abbrev pub clash_with : NamedAt → Option NamedAt → Option ℕ
clash_with f None = None
clash_with f (Some e) = if not e.made && (not f.made && (e.left == f.left)) then None else Some (min e.left f.left)

abbrev pub first_clash : List NamedAt → List NamedAt → Option ℕ
first_clash A [] = None
first_clash A (f ∷ B) = lesser (clash_with f (first_named A f.name)) (first_clash A B)
