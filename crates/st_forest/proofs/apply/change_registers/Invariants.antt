use Rattle.std.proofs.Common.{◌≡◌, take}
use Rattle.std.specs.BTreeMap.{get}
use Rattle.st_ids.specs.declared.names.FieldId.{FieldId as Register}
use Rattle.st_ids.specs.Order.{field_cmp, same_field}
use Rattle.st_forest.specs.inside.Writes.{held_writes, written}
use Rattle.st_forest.proofs.apply.change_registers.Given as goal

abbrev pub invariant-loop-register : goal.invariant-loop-register
invariant-loop-register l = (f : Register) → get field_cmp l.held f ≡ written same_field (held_writes (take l.register-index l.listed)) f (get field_cmp l.initial.held f)
