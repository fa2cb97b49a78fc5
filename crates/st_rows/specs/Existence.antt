-- That a part has a change, and two rows a step between them.
use Rattle.std.specs.Prelude.{◌≡◌, ◌<◌, ◌^◌, true, false, List, length}
use Rattle.st_kind.specs.Named.{Nodes}
use Rattle.st_marks.specs.declared.places.Slot.{Slot}
use Rattle.st_marks.specs.Row.{spread}
use Rattle.st_rows.specs.Sequence.{RowCanHold, RowLeadsOver, SeqPart, row_carried, row_change_of}
use Rattle.st_rows.specs.declared.values.RowChange.{RowChange}
use Rattle.st_rows.specs.declared.values.RowStep.{RowStep}

-- there is a change of the part where the row holds this, which lists fewer than 2^32 cells; and what it leads to, whole or
-- void, is what a row can hold
pub record HasChange (p : SeqPart) (c : List Slot) : Type 0 where
  pub change : RowChange
  pub says : change ≡ row_change_of p c
  pub short : length (spread change.marks) < 2 ^ 32
  pub whole : RowCanHold (row_carried p false c)
  pub void : RowCanHold (row_carried p true c)

-- there is a step from one row to the other that names these nodes, and it lists fewer than 2^32 cells
pub record HasStep (m : Nodes) (c d : List Slot) : Type 0 where
  pub step : RowStep
  pub leads : RowLeadsOver m c d step.marks
  pub short : length (spread step.marks) < 2 ^ 32
