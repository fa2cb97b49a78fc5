use Rattle.std.proofs.Common.{◌≡◌, option_map, take}
use Rattle.std.specs.BTreeMap.{get}
use Rattle.std.specs.List.{find}
use Rattle.st_ids.specs.Order.{field_cmp}
use Rattle.st_ids.specs.declared.names.FieldId.{FieldId}
use Rattle.st_marks.specs.declared.intents.Put.{Put}
use Rattle.st_marks.specs.Intent.{is_register}
use Rattle.st_embed.proofs.wants.fills_of.Given as goal

abbrev pub invariant-loop-put : goal.invariant-loop-put
invariant-loop-put l = (f : FieldId) → get field_cmp l.fills f ≡ option_map (λ (p : Put). p.node) (find (λ (p : Put). is_register f p.to) (take l.put-index l.put-items))
