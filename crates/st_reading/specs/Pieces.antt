-- Two listings of a row that are laid over each other, where it isn't seen which empty cells they name.
use Rattle.std.specs.Prelude.{◌≡◌, Bool, List, map}
use Rattle.st_marks.specs.Row.{CellMark}
use Rattle.st_rows.specs.Walks.{CellPiece, Both, First, Then}
use Rattle.st_read_laws.specs.Reading.{read}

-- a piece, read so
abbrev pub read_piece : Bool → CellPiece → CellPiece
read_piece l (Both x y) = Both (read l x) (read l y)
read_piece l (First x) = First (read l x)
read_piece l (Then y) = Then (read l y)

-- a table sees no more than is read so
abbrev pub IsBlind : Bool → (CellPiece → CellMark) → Type 0
IsBlind l f = (p : CellPiece) → f (read_piece l p) ≡ f p

-- two listings are the same, read so
abbrev pub AreAlike : Bool → List CellMark → List CellMark → Type 0
AreAlike l xs ys = map (read l) xs ≡ map (read l) ys
