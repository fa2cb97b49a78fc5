-- A change of a row and a step that came in between.
use Rattle.std.specs.Prelude.{◌≡◌, false}
use Rattle.st_kind.specs.Named.{Nodes}
use Rattle.st_rows.specs.Sequence.{SeqPart, RowCanHold, RowFits, RowKeeps, RowLeadsOver, row_carried, row_change_of}
use Rattle.st_rows.specs.declared.values.RowChange.{RowChange}
use Rattle.st_rows.specs.declared.values.RowHeld.{RowHeld}
use Rattle.st_rows.specs.declared.values.RowStep.{RowStep}

-- the change says what a part wants of the row c; the step leads from c to the row d, where the part fits as well, with what
-- becomes of the nodes that came in told by the change; and the part makes a row of d
pub record StandBeside (p : SeqPart) (m : Nodes) (c d : RowHeld) (change : RowChange) (step : RowStep) : Type 0 where
  pub says : change ≡ row_change_of p c.cells
  pub leads : RowLeadsOver m c.cells d.cells step.marks
  pub fits : RowFits p c.cells
  pub fits_after : RowFits p d.cells
  pub keeps : RowKeeps p.part c.cells d.cells
  pub makes_row : RowCanHold (row_carried p false d.cells)
