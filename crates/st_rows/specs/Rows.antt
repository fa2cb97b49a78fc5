-- What becomes of a row over steps.
use Rattle.std.specs.Prelude.{◌≡◌, ◌≢◌, true, false, List, [], ◌∷◌}
use Rattle.st_kind.specs.Named.{Nodes}
use Rattle.st_marks.specs.declared.marks.Mark.{Mark}
use Rattle.st_marks.specs.declared.places.Slot.{Slot}
use Rattle.st_marks.specs.Extends.{GainsItems, no_more, item_gained, item_kept}
use Rattle.st_marks.specs.Row.{SameCell, merge, step_row}

-- each node that leaves its cell is named
abbrev pub NamesLeavers : Nodes → {c d : List Slot} → GainsItems SameCell c d → Type 0
NamesLeavers m no_more = Unit {0}
NamesLeavers m (item_gained g) = NamesLeavers m g
NamesLeavers m (item_kept {x} {y} same g) = (x.full ≡ true → y.full ≡ false → m x.node ≡ true) × NamesLeavers m g

-- each node that leaves its cell or comes into one is named
abbrev pub NamesMoved : Nodes → {c d : List Slot} → GainsItems SameCell c d → Type 0
NamesMoved m no_more = Unit {0}
NamesMoved m (item_gained g) = NamesMoved m g
NamesMoved m (item_kept {x} {y} same g) = (x.full ≢ y.full → m x.node ≡ true) × NamesMoved m g

-- the marks of a step from the row c to the row d, with these nodes named
pub record IsRowStep (named : Nodes) (c d : List Slot) (marks : List Mark) : Type 0 where
  pub grows : GainsItems SameCell c d
  pub says : marks ≡ merge (step_row named grows)

-- the row d with its nodes where they were in c: the cells that it gained are empty
abbrev pub retreat_row : {c d : List Slot} → GainsItems SameCell c d → List Slot
retreat_row no_more = []
retreat_row (item_gained {y} g) = record y { full = false } ∷ retreat_row g
retreat_row (item_kept {x} {y} same g) = record y { full = x.full } ∷ retreat_row g
