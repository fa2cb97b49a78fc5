-- A change told as a step: what it finds, and what it leaves where all of it is carried out.
use Rattle.std.specs.Prelude.{map, None}
use Rattle.st_marks.specs.declared.changes.Change.{Change}
use Rattle.st_marks.specs.declared.marks.RegMark.{RegMark}
use Rattle.st_marks.specs.declared.marks.RegStep.{RegStep}
use Rattle.st_marks.specs.declared.steps.Step.{Step}
use Rattle.st_marks.specs.Listings.{held_after}

-- a register with who is there before and after
abbrev pub register_over : RegMark → RegStep
register_over r = record { field = r.field; before = r.held; after = held_after r }

-- the step that finds and leaves the same
abbrev pub step_of : Change → Step
step_of C = record { new = C.new; rows = C.rows; regs = map register_over C.regs; loose = C.loose; schema = None }
