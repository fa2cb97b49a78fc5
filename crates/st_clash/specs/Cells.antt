-- The rules on cells that are named where a change and a step find the same document.
use Rattle.std.specs.Prelude.{◌≡◌, ◌⊎◌, ℕ, IsTrue, Option}
use Rattle.st_ids.specs.declared.names.CellId.{CellId}
use Rattle.st_ids.specs.declared.names.FieldId.{FieldId}
use Rattle.st_ids.specs.declared.names.NodeId.{NodeId}
use Rattle.st_marks.specs.Agree.{IsNamedInRow, SameIfBoth, row_field}
use Rattle.st_marks.specs.Listings.{Listing, ListsCell}

-- both show the cell, at two places or with two owners
abbrev pub IsShownTwice : Listing → Listing → CellId → Type 0
IsShownTwice L M c = (n : NodeId) × (m : NodeId) × (k : ℕ) × (l : ℕ) × (o : Option NodeId) × (p : Option NodeId) × ListsCell L c n k o × ListsCell M c m l p
    × ((n ≡ m) × (k ≡ l) × SameIfBoth o p → ⊥)

-- the second makes a cell that the first names in a row
abbrev pub IsMadeAgain : Listing → Listing → CellId → Type 0
IsMadeAgain L M c = (q : NodeId) × IsTrue (M.names.makes_cell c) × IsTrue (L.names.names_cell q c)

-- a cell is shown twice, or one makes what the other names; the rows that name it are named
abbrev pub CellsClash : Listing → Listing → FieldId → Type 0
CellsClash L M f = (c : CellId) × (IsShownTwice L M c ⊎ IsMadeAgain L M c ⊎ IsMadeAgain M L c) × (r : NodeId) × IsNamedInRow L M c r × (row_field r ≡ f)

-- no cell is shown at two places or with two owners
abbrev pub AreCellsOnce : Listing → Type 0
AreCellsOnce L = (c : CellId) (n m : NodeId) (k l : ℕ) (o p : Option NodeId) → ListsCell L c n k o → ListsCell L c m l p → (n ≡ m) × (k ≡ l) × (o ≡ p)
