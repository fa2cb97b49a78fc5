use Rattle.std.proofs.Common.{take}
use Rattle.std.specs.BTreeMap.{get}
use Rattle.st_ids.specs.Order.{field_cmp}
use Rattle.st_ids.proofs.Orders.{field_cmp_total}
use Rattle.st_ids.specs.declared.names.FieldId.{FieldId}
use Rattle.st_marks.specs.declared.marks.RegStep.{RegStep}
use Rattle.st_moves.proofs.Indices.{IsIndexed}
use Rattle.st_moves.proofs.index.index_registers_over.Given as goal

abbrev pub invariant-loop-at : goal.invariant-loop-at
invariant-loop-at l = (k : FieldId) → IsIndexed field_cmp field_cmp_total (λ (r : RegStep). r.field) l.items (take l.at l.items) k (get field_cmp l.index k)
