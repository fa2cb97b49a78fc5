-- When two listings of one row agree, place by place.
use Rattle.std.specs.Prelude.{ℕ, true, not, List, Option, Some, None, map, slice_get}
use Rattle.st_marks.specs.declared.places.Slot.{Slot}
use Rattle.st_marks.specs.Row.{CellMark, Counted, Gap, Touch, Make, Fill}
use Rattle.st_marks.specs.Agree.{IsSameView}
use Rattle.st_marks.specs.Listings.{CellView, cell_view, counted_view, empty_view}
use Rattle.st_marks.specs.How.{is_leave}
use Rattle.st_rows.specs.declared.cell_view.Sighting.{Sighting}

-- ## Where two listings differ

-- what two listings show at one place isn't the same cell, or one of them has no cell there
abbrev pub Differing : Option CellView → Option CellView → Type 0
Differing None None = ⊥
Differing None (Some t) = Unit {0}
Differing (Some s) None = Unit {0}
Differing (Some s) (Some t) = IsSameView s t → ⊥

-- two listings of one row differ at a place
abbrev pub DifferAt : List CellView → List CellView → ℕ → Type 0
DifferAt xs ys k = Differing (slice_get xs k) (slice_get ys k)

-- ## The same as a search

-- what a mark says of its cell after it
abbrev pub view_after : CellMark → CellView
view_after Counted = counted_view
view_after (Gap c) = empty_view c
view_after (Touch c n h) = cell_view c n (not (is_leave h))
view_after (Make c n b) = cell_view c n b
view_after (Fill c n) = cell_view c n true

-- what a row shows: each cell with its owner
abbrev pub row_views : List Slot → List CellView
row_views c = map (λ (s : Slot). cell_view s.cell s.node s.full) c

-- what is said, as the definitions have it
abbrev pub view_of : Sighting → CellView
view_of s = record { cell = s.cell; node = s.node; full = s.full }
