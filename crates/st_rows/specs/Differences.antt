-- The first place at which two listings of one row differ.
use Rattle.std.specs.Prelude.{◌≡◌, ℕ, ◌+◌, Bool, true, false, ◌&&◌, not, List, [], ◌∷◌, Option, Some, None, option_map, Result, Ok, Err, if◌then◌else◌}
use Rattle.st_ids.specs.declared.fault.Or.{Or}
use Rattle.st_ids.specs.declared.fault.Or.TheVariants.{Fault, NoMemory}
use Rattle.st_ids.specs.Order.{same_cell, same_node}
use Rattle.st_marks.specs.Row.{CellMark, Counted, Gap, Touch, Make, Fill}
use Rattle.st_marks.specs.Listings.{CellView, cell_view, counted_view, empty_view}
use Rattle.st_kind.specs.declared.apart.Apart.{Apart}

-- what a mark says of its cell before it, if the cell is there
abbrev pub view_before : CellMark → CellView
view_before Counted = counted_view
view_before (Gap c) = empty_view c
view_before (Touch c n h) = cell_view c n true
view_before (Make c n b) = cell_view c n b
view_before (Fill c n) = cell_view c n false

-- two names are one, where both are told
abbrev pub agree_if_named : {A : Type 0} → (A → A → Bool) → Option A → Option A → Bool
agree_if_named same None y = true
agree_if_named same (Some x) None = true
agree_if_named same (Some x) (Some y) = same x y

abbrev pub same_bool : Bool → Bool → Bool
same_bool true b = b
same_bool false b = not b

-- what is said twice of one cell: full or empty both times, with one name and one owner
abbrev pub agree : CellView → CellView → Bool
agree s t = same_bool s.full t.full && agree_if_named same_cell s.cell t.cell && agree_if_named same_node s.node t.node

-- the first place at which two listings of a row differ; if one is longer, its first cell past the other's end
abbrev pub first_difference : List CellView → List CellView → Option ℕ
first_difference [] [] = None
first_difference [] (t ∷ ts) = Some 0
first_difference (s ∷ ss) [] = Some 0
first_difference (s ∷ ss) (t ∷ ts) = if agree s t then option_map (λ k. k + 1) (first_difference ss ts) else Some 0

-- refused exactly where there is a difference, with the first one's place
abbrev pub IsApart : {T : Type 0} → Option ℕ → Result T (Or Apart) → Type 0
IsApart o (Ok v) = o ≡ None
IsApart o (Err (Fault a)) = o ≡ Some a.place
IsApart o (Err NoMemory) = Unit {0}
