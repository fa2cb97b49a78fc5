use Rattle.std.proofs.Common.{◌≡◌, ◌||◌, take}
use Rattle.std.specs.BTreeSet.{contains}
use Rattle.std.specs.List.{list_any}
use Rattle.st_ids.specs.Order.{field_cmp, same_field}
use Rattle.st_ids.specs.declared.names.FieldId.{FieldId}
use Rattle.st_embed.proofs.sets.add_cleared.Given as goal

abbrev pub invariant-loop-field : goal.invariant-loop-field
invariant-loop-field l = (f : FieldId) → contains field_cmp l.set f ≡ (contains field_cmp l.initial.set f || list_any (λ g. same_field g f) (take l.field-index l.fields))
