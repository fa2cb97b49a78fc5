-- Two listings of one row that are laid over each other, cell by cell.
use Rattle.std.specs.Prelude.{List, [], ◌∷◌}
use Rattle.st_marks.specs.Row.{CellMark, Make}

-- what two listings say at one place: both of a cell that both find, or one of them of a cell that it makes
pub data CellPiece : Type 0 where
  Both : CellMark → CellMark → CellPiece
  First : CellMark → CellPiece
  Then : CellMark → CellPiece

-- ## In turn: the second finds what the first leaves

abbrev pub in_turn : List CellMark → List CellMark → List CellPiece
in_turn xs [] = []
in_turn xs (Make c n b ∷ ys) = Then (Make c n b) ∷ in_turn xs ys
in_turn [] (y ∷ ys) = []
in_turn (x ∷ xs) (y ∷ ys) = Both x y ∷ in_turn xs ys

-- ## Side by side: both find the same

-- a cell that the first finds, behind those that the second makes before it
abbrev pub meeting_piece : CellMark → (List CellMark → List CellPiece) → List CellMark → List CellPiece
meeting_piece x rest [] = []
meeting_piece x rest (Make c n b ∷ ys) = Then (Make c n b) ∷ meeting_piece x rest ys
meeting_piece x rest (y ∷ ys) = Both x y ∷ rest ys

-- what the first makes at a place stands left of what the second makes there
abbrev pub beside : List CellMark → List CellMark → List CellPiece
beside [] [] = []
beside [] (Make c n b ∷ ys) = Then (Make c n b) ∷ beside [] ys
beside [] (y ∷ ys) = []
beside (Make c n b ∷ xs) ys = First (Make c n b) ∷ beside xs ys
beside (x ∷ xs) ys = meeting_piece x (beside xs) ys
