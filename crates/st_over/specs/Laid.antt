-- A change and a step whose listings can be laid beside each other.
use Rattle.st_ids.specs.Listing.{IsRising}
use Rattle.st_ids.specs.Order.{field_cmp, node_cmp}
use Rattle.st_marks.specs.declared.changes.Change.{Change}
use Rattle.st_marks.specs.declared.marks.RegMark.{RegMark}
use Rattle.st_marks.specs.declared.marks.RegStep.{RegStep}
use Rattle.st_marks.specs.declared.marks.RowMarks.{RowMarks}
use Rattle.st_marks.specs.declared.steps.Step.{Step}
use Rattle.st_moves.specs.Room.{HasRoomInRows}

-- their rows and registers rise by name, and of each row the two list fewer than 2^32 cells together
pub record CanBeLaid (C : Change) (S : Step) : Type 0 where
  pub change_rows : IsRising node_cmp (λ (r : RowMarks). r.node) C.rows
  pub step_rows : IsRising node_cmp (λ (r : RowMarks). r.node) S.rows
  pub change_regs : IsRising field_cmp (λ (r : RegMark). r.field) C.regs
  pub step_regs : IsRising field_cmp (λ (r : RegStep). r.field) S.regs
  pub room : HasRoomInRows C S
