use Rattle.std.proofs.Common.{List, subst}
use Rattle.st_ids.specs.Order.{field_cmp}
use Rattle.st_marks.specs.declared.marks.RegMark.{RegMark}
use Rattle.st_marks.specs.declared.marks.RegStep.{RegStep}
use Rattle.st_moves.specs.Index.{IsIndex}
use Rattle.st_moves.proofs.registers.registers_indexed.Goals as goal

pub returns-clause-change_index : goal.returns-clause-change_index
returns-clause-change_index c = subst (λ (l : List RegMark). IsIndex field_cmp (λ (r : RegMark). r.field) l c.in_ok-change_index.change_index) c.as_slice.ensures c.in_ok-change_index.ensures

pub returns-clause-step_index : goal.returns-clause-step_index
returns-clause-step_index c = subst (λ (l : List RegStep). IsIndex field_cmp (λ (r : RegStep). r.field) l c.in_ok-step_index.step_index) c.as_slice-2.ensures c.in_ok-step_index.ensures
