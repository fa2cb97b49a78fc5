-- Two listings of one row, walked side by side.
use Rattle.std.specs.Prelude.{◌≡◌, ℕ, ◌<◌, true, false, List, [], ◌∷◌, Some, length}
use Rattle.st_marks.specs.declared.marks.Mark.{Mark}
use Rattle.st_marks.specs.Listings.{CellView, cells_before}
use Rattle.st_marks.specs.Row.{counted_cells, spread}
use Rattle.st_clash.specs.Views.{same_views}
use Rattle.st_clash.specs.declared.walk.Front.{Front}
use Rattle.st_clash.specs.declared.walk.Shown.{Shown}
use Rattle.st_clash.specs.declared.walk.Turn.{Turn}

-- what is left of a row to be shown: so many counted cells, and what the marks show
abbrev pub views_left : ℕ → List Mark → List CellView
views_left k ms = cells_before (counted_cells k (spread ms))

-- a named cell as a view
abbrev pub shown_view : Shown → CellView
shown_view s = record { cell = Some s.cell; node = s.node; full = s.full }

-- what is shown first, and the marks behind
abbrev pub IsFront : List CellView → Front → Type 0
IsFront vs Front.End = vs ≡ []
IsFront vs (Front.Counted k ms) = (0 < k) × (vs ≡ views_left k ms.now)
IsFront vs (Front.Named s ms) = vs ≡ shown_view s ∷ views_left 0 ms.now

-- one turn: whether the rest of both decides, and that it is less
abbrev pub IsTurn : List CellView → List CellView → Turn → Type 0
IsTurn xs ys Turn.Same = same_views xs ys ≡ true
IsTurn xs ys Turn.Apart = same_views xs ys ≡ false
IsTurn xs ys (Turn.Go p more q rest) =
    (same_views xs ys ≡ same_views (views_left p more.now) (views_left q rest.now)) × (length (views_left p more.now) < length xs)
