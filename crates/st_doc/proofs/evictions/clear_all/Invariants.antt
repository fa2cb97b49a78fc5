use Rattle.std.proofs.Common.{◌≡◌, take, cond, None}
use Rattle.std.specs.BTreeMap.{get}
use Rattle.std.specs.List.{list_any}
use Rattle.st_ids.specs.declared.names.FieldId.{FieldId}
use Rattle.st_ids.specs.Order.{field_cmp, same_field}
use Rattle.st_doc.proofs.evictions.clear_all.Given as goal

abbrev pub invariant-loop-field : goal.invariant-loop-field
invariant-loop-field l = (f : FieldId) → get field_cmp l.held f ≡ cond (list_any (λ g. same_field g f) (take l.field-index l.field-items)) None (get field_cmp l.initial.held f)
