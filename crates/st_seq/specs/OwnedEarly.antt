-- When the second of two changes in turn finds a cell of a node that the first makes.
use Rattle.std.specs.Prelude.{◌≡◌, ◌⊎◌, ℕ, Bool, List, Some, slice_get}
use Rattle.st_ids.specs.Listing.{Has}
use Rattle.st_ids.specs.declared.names.CellId.{CellId}
use Rattle.st_ids.specs.declared.names.NodeId.{NodeId}
use Rattle.st_marks.specs.Row.{CellMark}
use Rattle.st_marks.specs.Listings.{CellView, cell_view, cells_after, cells_before, cells_made}
use Rattle.st_rows.specs.Views.{DifferAt}
use Rattle.st_seq.specs.NamedApart.{SaidInTurn}

-- the second finds a cell, owned by a node that the first makes, though the first doesn't make the cell; the place is the cell's
pub data OwnedEarly (new : List NodeId) (xs ys : List CellMark) : ℕ → Type 0 where
  owned_early : (c : CellId) (n : NodeId) (b : Bool) (k : ℕ) → slice_get (cells_before ys) k ≡ Some (cell_view c n b) → Has new n → (Has (cells_made xs) c → ⊥) → OwnedEarly new xs ys k

-- two changes in turn, of which the first makes these nodes, are apart at a place: what the first leaves and what the second
-- finds differ there, or they differ nowhere, and name a cell or a node of that place apart, or its cell has an owner too early
abbrev pub TurnsApartAt : List NodeId → List CellMark → List CellMark → ℕ → Type 0
TurnsApartAt new xs ys k = DifferAt X Y k ⊎ (((j : ℕ) → DifferAt X Y j → ⊥) × (SaidInTurn xs ys k ⊎ OwnedEarly new xs ys k))
  where
    X : List CellView
    X = cells_after xs

    Y : List CellView
    Y = cells_before ys
