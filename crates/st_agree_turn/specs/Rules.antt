-- The rules by which what one of two steps leaves isn't what the other finds, each by itself: L is what is left, M what is found.
use Rattle.std.specs.Prelude.{◌≡◌, ◌≢◌, ◌⊎◌, List, Option, Some}
use Rattle.std.specs.List.{AllZip}
use Rattle.st_ids.specs.declared.names.CellId.{CellId}
use Rattle.st_ids.specs.declared.names.FieldId.{FieldId}
use Rattle.st_ids.specs.declared.names.NodeId.{NodeId}
use Rattle.st_clash.specs.Cells.{IsMadeAgain, IsShownTwice}
use Rattle.st_marks.specs.Agree.{IsNamedInRow, IsSameView, row_field}
use Rattle.st_marks.specs.Listings.{CellView, Listing}

-- the row of a node that both show doesn't have the same cells, place by place
abbrev pub RowsApart : Listing → Listing → FieldId → Type 0
RowsApart L M f = (n : NodeId) × (a : List CellView) × (b : List CellView) × (L.row n ≡ Some a) × (M.row n ≡ Some b) × (AllZip IsSameView a b → ⊥) × (row_field n ≡ f)

-- a register that both show has two occupants
abbrev pub RegistersApart : Listing → Listing → FieldId → Type 0
RegistersApart L M f = (a : Option NodeId) × (b : Option NodeId) × (L.register f ≡ Some a) × (M.register f ≡ Some b) × (a ≢ b)

-- a cell that both show stands at two places or has two owners, or the second makes a cell that the first names; the rows that name it are named
abbrev pub CellsApart : Listing → Listing → FieldId → Type 0
CellsApart L M f = (c : CellId) × (IsShownTwice L M c ⊎ IsMadeAgain L M c) × (r : NodeId) × IsNamedInRow L M c r × (row_field r ≡ f)
