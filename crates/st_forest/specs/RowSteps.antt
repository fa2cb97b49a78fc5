-- What marks say of a row over a step, whichever empty cells they name.
use Rattle.std.specs.Prelude.{◌≡◌, Bool, false, List, map}
use Rattle.st_ids.specs.declared.names.NodeId.{NodeId}
use Rattle.st_marks.specs.declared.places.Slot.{Slot}
use Rattle.st_marks.specs.Extends.{GainsItems}
use Rattle.st_marks.specs.Row.{CellMark, SameCell, step_row}
use Rattle.st_read_laws.specs.Reading.{read}

-- the row c grew to d as they say, for some nodes that are mentioned
abbrev pub Leads : List Slot → List CellMark → List Slot → Type 0
Leads c xs d = (m : NodeId → Bool) × (g : GainsItems SameCell c d) × (map (read false) xs ≡ map (read false) (step_row m g))
