-- Two listings of one row that are laid over each other in turns.
use Rattle.std.specs.Prelude.{◌≡◌, ℕ, ◌+◌, ◌<◌, Option, Some, None, option_map, List, [], ◌∷◌, ◌++◌, length}
use Rattle.st_marks.specs.Row.{CellMark, Make}
use Rattle.st_marks.specs.Listings.{cells_before, cells_after}
use Rattle.st_marks.specs.declared.places.Slot.{Slot}
use Rattle.st_rows.specs.Views.{row_views, view_after}
use Rattle.st_rows.specs.Differences.{first_difference}
use Rattle.st_rows.specs.declared.rows.SlotTurn.{SlotTurn}
use Rattle.st_rows.specs.Heads.{marks_left}
use Rattle.st_rows.specs.Pieces.{cells_of_piece, IsOfCells}
use Rattle.st_rows.specs.Walks.{CellPiece, in_turn, beside}
use Rattle.st_rows.specs.declared.pieces.Piece.{Piece}
use Rattle.st_rows.specs.declared.pieces.Turn.{Turn}

-- how many cells both find
abbrev pub found_count : Piece → ℕ
found_count (Piece.Counted k) = k
found_count (Piece.Both a b) = 1
found_count (Piece.First a) = 0
found_count (Piece.Then b) = 0

-- where two listings first differ, of which the second finds what the first leaves; both find the same; or nobody asks
abbrev pub difference_in_turn : List CellMark → List CellMark → Option ℕ
difference_in_turn xs ys = first_difference (cells_after xs) (cells_before ys)

abbrev pub difference_beside : List CellMark → List CellMark → Option ℕ
difference_beside xs ys = first_difference (cells_before xs) (cells_before ys)

abbrev pub no_difference : List CellMark → List CellMark → Option ℕ
no_difference xs ys = None

-- a piece of a walk over two listings, which first differ at this place, and what is left of both: they give the whole, and so
-- does the place of the first difference
abbrev pub GoesOn : (List CellMark → List CellMark → List CellPiece) → (List CellMark → List CellMark → Option ℕ) → List CellMark → List CellMark → Piece → List CellMark → List CellMark → Type 0
GoesOn walk difference xs ys piece more rest =
    IsOfCells piece × (walk xs ys ≡ cells_of_piece piece ++ walk more rest)
    × (difference xs ys ≡ option_map (λ k. found_count piece + k) (difference more rest))
    × (length more + length rest < length xs + length ys)
    × (length (cells_before ys) ≡ found_count piece + length (cells_before rest))

-- one turn of such a walk
abbrev pub IsTurn : (List CellMark → List CellMark → List CellPiece) → (List CellMark → List CellMark → Option ℕ) → List CellMark → List CellMark → Turn → Type 0
IsTurn walk difference xs ys Turn.Done = (walk xs ys ≡ []) × (difference xs ys ≡ None)
IsTurn walk difference xs ys Turn.Apart = difference xs ys ≡ Some 0
IsTurn walk difference xs ys (Turn.Counted k p more q rest) = GoesOn walk difference xs ys (Piece.Counted k) (marks_left p more.now) (marks_left q rest.now)
IsTurn walk difference xs ys (Turn.Both a b p more q rest) = GoesOn walk difference xs ys (Piece.Both a.now b.now) (marks_left p more.now) (marks_left q rest.now)
IsTurn walk difference xs ys (Turn.First a more) = GoesOn walk difference xs ys (Piece.First a.now) (marks_left 0 more.now) ys
IsTurn walk difference xs ys (Turn.Then b rest) = GoesOn walk difference xs ys (Piece.Then b.now) xs (marks_left 0 rest.now)

-- one turn, where the second listing finds what the first leaves
abbrev pub IsTurnInTurn : List CellMark → List CellMark → Turn → Type 0
IsTurnInTurn xs ys turn = IsTurn in_turn difference_in_turn xs ys turn

-- one turn, where both find the same
abbrev pub IsTurnBeside : List CellMark → List CellMark → Turn → Type 0
IsTurnBeside xs ys turn = IsTurn beside difference_beside xs ys turn

-- the same, where it isn't asked whether both find the same
abbrev pub IsTurnAlike : List CellMark → List CellMark → Turn → Type 0
IsTurnAlike xs ys turn = IsTurn beside no_difference xs ys turn

-- and in turn, where it isn't asked whether the second finds what the first leaves
abbrev pub IsTurnInTurnAlike : List CellMark → List CellMark → Turn → Type 0
IsTurnInTurnAlike xs ys turn = IsTurn in_turn no_difference xs ys turn

-- ## A row and a step

-- each cell that the step finds, full as the step leaves it, and those that it makes
abbrev pub after_row : List Slot → List CellMark → List Slot
after_row c [] = []
after_row c (Make a n b ∷ ms) = record { cell = a; node = n; full = b } ∷ after_row c ms
after_row [] (m ∷ ms) = []
after_row (s ∷ c) (m ∷ ms) = record s { full = (view_after m).full } ∷ after_row c ms

-- one turn of a walk over a row and the step that leads on from it: the cell that is written and what is left
abbrev pub IsSlotTurn : List Slot → List CellMark → SlotTurn → Type 0
IsSlotTurn c xs SlotTurn.Done = (after_row c xs ≡ []) × (first_difference (row_views c) (cells_before xs) ≡ None)
IsSlotTurn c xs SlotTurn.Apart = first_difference (row_views c) (cells_before xs) ≡ Some 0
IsSlotTurn c xs (SlotTurn.Go slot found d k rest) =
    (after_row c xs ≡ slot ∷ after_row d.now (marks_left k rest.now))
    × (first_difference (row_views c) (cells_before xs) ≡ option_map (λ j. found + j) (first_difference (row_views d.now) (cells_before (marks_left k rest.now))))
    × (length d.now + length (marks_left k rest.now) < length c + length xs)
    × (length (cells_before xs) ≡ found + length (cells_before (marks_left k rest.now)))
