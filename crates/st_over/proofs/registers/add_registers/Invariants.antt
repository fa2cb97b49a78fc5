use Rattle.std.proofs.Common.{◌≡◌, ◌||◌, take}
use Rattle.std.specs.BTreeSet.{contains}
use Rattle.std.specs.List.{list_any}
use Rattle.std.specs.Ordering.{is_eq}
use Rattle.st_ids.specs.Order.{field_cmp}
use Rattle.st_ids.specs.declared.names.FieldId.{FieldId}
use Rattle.st_marks.specs.declared.marks.RegMark.{RegMark}
use Rattle.st_over.proofs.registers.add_registers.Given as goal

abbrev pub invariant-loop-item : goal.invariant-loop-item
invariant-loop-item l = (q : FieldId) → contains field_cmp l.set q ≡ (contains field_cmp l.initial.set q || list_any (λ (r : RegMark). is_eq (field_cmp r.field q)) (take l.item-index l.items))
