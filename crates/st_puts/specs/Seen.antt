-- What is seen of the cells of a row, and that it is so.
use Rattle.std.specs.Prelude.{◌≡◌, List, Option, Some, None}
use Rattle.std.specs.List.{AllZip}
use Rattle.st_marks.specs.declared.places.Slot.{Slot}
use Rattle.st_marks.specs.Listings.{CellView}

-- a name that is told is this one
abbrev pub IfTold : {A : Type 0} → Option A → A → Type 0
IfTold None a = Unit {0}
IfTold (Some b) a = b ≡ a

-- a cell is full or empty as it is seen, and has the names that are told of it
abbrev pub IsAsSeen : Slot → CellView → Type 0
IsAsSeen s x = (x.full ≡ s.full) × IfTold x.cell s.cell × IfTold x.node s.node

-- the cells of a row are as they are seen, one by one
abbrev pub AreAsSeen : List Slot → List CellView → Type 0
AreAsSeen cells seen = AllZip IsAsSeen cells seen
