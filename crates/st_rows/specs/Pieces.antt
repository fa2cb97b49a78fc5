-- What two listings of one row say at one place, as the marks of a row say it.
use Rattle.std.specs.Prelude.{◌≡◌, ℕ, zero, suc, List, [], ◌∷◌}
use Rattle.st_marks.specs.declared.marks.Mark.{Mark}
use Rattle.st_marks.specs.Row.{Counted, spread}
use Rattle.st_rows.specs.Reading.{cell_of}
use Rattle.st_rows.specs.Walks.{CellPiece, Both, First, Then}
use Rattle.st_rows.specs.declared.pieces.Piece.{Piece}

-- a mark of one cell
abbrev pub IsSingle : Mark → Type 0
IsSingle m = spread (m ∷ []) ≡ cell_of m ∷ []

-- so many cells that both count
abbrev pub both_counted : ℕ → List CellPiece
both_counted zero = []
both_counted (suc k) = Both Counted Counted ∷ both_counted k

-- a piece, cell by cell
abbrev pub cells_of_piece : Piece → List CellPiece
cells_of_piece (Piece.Counted k) = both_counted k
cells_of_piece (Piece.Both a b) = Both (cell_of a) (cell_of b) ∷ []
cells_of_piece (Piece.First a) = First (cell_of a) ∷ []
cells_of_piece (Piece.Then b) = Then (cell_of b) ∷ []

-- the marks of a piece are of one cell each
abbrev pub IsOfCells : Piece → Type 0
IsOfCells (Piece.Counted k) = Unit {0}
IsOfCells (Piece.Both a b) = IsSingle a × IsSingle b
IsOfCells (Piece.First a) = IsSingle a
IsOfCells (Piece.Then b) = IsSingle b
