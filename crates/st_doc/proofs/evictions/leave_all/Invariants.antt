use Rattle.std.proofs.Common.{◌≡◌, take}
use Rattle.std.specs.BTreeMap.{get}
use Rattle.st_ids.specs.declared.names.FieldId.{FieldId}
use Rattle.st_ids.specs.Order.{field_cmp}
use Rattle.st_doc.proofs.Evicting.{unless_among}
use Rattle.st_doc.proofs.evictions.leave_all.Given as goal

abbrev pub invariant-loop-put : goal.invariant-loop-put
invariant-loop-put l = (f : FieldId) → get field_cmp l.held f ≡ unless_among (take l.put-index l.put-items) (get field_cmp l.initial.held f)
