-- When two listings of one row name one cell, or one node, in ways that can't both be true.
use Rattle.std.specs.Prelude.{◌≡◌, ◌≢◌, ◌⊎◌, ℕ, suc, Bool, true, false, List, [], ◌∷◌, ◌++◌, Option, Some, None, if◌then◌else◌}
use Rattle.std.specs.List.{find}
use Rattle.std.specs.Ordering.{is_eq}
use Rattle.st_ids.specs.Listing.{Has}
use Rattle.st_ids.specs.Order.{atom_cmp}
use Rattle.st_ids.specs.declared.names.Atom.{Atom}
use Rattle.st_ids.specs.declared.names.NodeId.{NodeId}
use Rattle.st_marks.specs.declared.places.Slot.{Slot}
use Rattle.st_marks.specs.Row.{CellMark, Counted, Gap, Touch, Make, Fill}
use Rattle.st_marks.specs.Listings.{CellView, cells_after, cells_before}
use Rattle.st_rows.specs.Views.{DifferAt}
use Rattle.st_seq.specs.declared.name_clashes.NamedAt.{NamedAt}

-- ## The cells that a listing names

-- what is found at a place, and what is made behind so many found cells
abbrev pub found_at : Atom → ℕ → NamedAt
found_at a k = record { name = a; left = k; made = false }

abbrev pub made_at : Atom → ℕ → NamedAt
made_at a k = record { name = a; left = k; made = true }

-- the cells that marks name, where so many are found before them
abbrev pub named_before : ℕ → List CellMark → List NamedAt
named_before k [] = []
named_before k (Counted ∷ ms) = named_before (suc k) ms
named_before k (Gap c ∷ ms) = found_at c.0 k ∷ named_before (suc k) ms
named_before k (Touch c n h ∷ ms) = found_at c.0 k ∷ named_before (suc k) ms
named_before k (Make c n b ∷ ms) = made_at c.0 k ∷ named_before k ms
named_before k (Fill c n ∷ ms) = found_at c.0 k ∷ named_before (suc k) ms

-- the cells that marks name, as what comes next finds them
abbrev pub named_after : ℕ → List CellMark → List NamedAt
named_after k [] = []
named_after k (Counted ∷ ms) = named_after (suc k) ms
named_after k (Gap c ∷ ms) = found_at c.0 k ∷ named_after (suc k) ms
named_after k (Touch c n h ∷ ms) = found_at c.0 k ∷ named_after (suc k) ms
named_after k (Make c n b ∷ ms) = found_at c.0 k ∷ named_after (suc k) ms
named_after k (Fill c n ∷ ms) = found_at c.0 k ∷ named_after (suc k) ms

-- the cells of a row
abbrev pub named_in_row : ℕ → List Slot → List NamedAt
named_in_row k [] = []
named_in_row k (s ∷ c) = found_at s.cell.0 k ∷ named_in_row (suc k) c

-- ## The nodes that a listing names where they stand

-- the node that is named at a place, if the cell is full with it
abbrev pub stands_at : Bool → Option NodeId → ℕ → List NamedAt
stands_at b None k = []
stands_at b (Some n) k = if b then found_at n.0 k ∷ [] else []

-- the nodes that are named in the full cells of a listing, of which so many stand before them
abbrev pub standing_at : ℕ → List CellView → List NamedAt
standing_at k [] = []
standing_at k (s ∷ X) = stands_at s.full s.node k ++ standing_at (suc k) X

-- ## Two listings

-- whether two names are one
unfoldable pub same_atom : Atom → Atom → Bool
same_atom a b = is_eq (atom_cmp a b)

-- what a listing says first of a name
abbrev pub first_named : List NamedAt → Atom → Option NamedAt
first_named names a = find (λ (e : NamedAt). same_atom e.name a) names

-- what is said twice of one name can't both be true, unless both find it at one place
abbrev pub CantBoth : NamedAt → NamedAt → Type 0
CantBoth e f = e.made ≡ false → f.made ≡ false → e.left ≢ f.left

-- both name something in ways that can't both be true; the places are those where they say so
pub data NamedApart (A B : List NamedAt) : ℕ → Type 0 where
  named_apart : (e f : NamedAt) → first_named A f.name ≡ Some e → Has B f → CantBoth e f → (k : ℕ) → (k ≡ e.left) ⊎ (k ≡ f.left) → NamedApart A B k

-- both name a cell apart, or a node that stands at two places
abbrev pub SaidApart : List CellView → List CellView → List NamedAt → List NamedAt → ℕ → Type 0
SaidApart X Y A B k = NamedApart A B k ⊎ NamedApart (standing_at 0 X) (standing_at 0 Y) k

abbrev pub SaidInTurn : List CellMark → List CellMark → ℕ → Type 0
SaidInTurn xs ys = SaidApart (cells_after xs) (cells_before ys) (named_after 0 xs) (named_before 0 ys)

-- two listings of one row are apart at a place: they differ there, or they differ nowhere, and name a cell or a node of that
-- place apart
abbrev pub ApartAt : List CellView → List CellView → List NamedAt → List NamedAt → ℕ → Type 0
ApartAt X Y A B k = DifferAt X Y k ⊎ (((j : ℕ) → DifferAt X Y j → ⊥) × SaidApart X Y A B k)
