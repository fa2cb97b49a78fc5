-- The rules on names where one step goes behind another, each by itself: L is what the first leaves, M what the second finds.
use Rattle.std.specs.Prelude.{◌≡◌, ℕ, false, IsTrue, Some}
use Rattle.st_ids.specs.declared.names.CellId.{CellId}
use Rattle.st_ids.specs.declared.names.FieldId.{FieldId}
use Rattle.st_ids.specs.declared.names.NodeId.{NodeId}
use Rattle.st_marks.specs.Agree.{IsNamedInRow, row_field}
use Rattle.st_marks.specs.Listings.{Listing, ListsCell}

-- the second makes a node that the first names
abbrev pub NodesAgain : Listing → Listing → FieldId → Type 0
NodesAgain L M f = (n : NodeId) × IsTrue (M.names.makes_node n) × IsTrue (L.names.names_node n) × (row_field n ≡ f)

-- the second finds a cell, which the first doesn't make, with an owner that the first makes; the rows that name the cell are named
abbrev pub OwnersEarly : Listing → Listing → FieldId → Type 0
OwnersEarly L M f = (c : CellId) × (n : NodeId) × (q : NodeId) × (k : ℕ) × ListsCell M c q k (Some n) × IsTrue (L.names.makes_node n) × (L.names.makes_cell c ≡ false)
    × (r : NodeId) × IsNamedInRow L M c r × (row_field r ≡ f)
