use Rattle.std.proofs.Common.{◌≡◌, drop, option_map}
use Rattle.std.specs.List.{find}
use Rattle.st_edits.specs.Paths.{field_at}
use Rattle.st_marks.specs.declared.intents.Put.{Put}
use Rattle.st_marks.specs.Intent.{is_register, put_in}
use Rattle.st_kept_fields.proofs.finds.put_at.Given as goal

abbrev pub invariant-loop-put : goal.invariant-loop-put
invariant-loop-put l = option_map (λ (p : Put). p.node) (find (λ (p : Put). is_register (field_at l.node l.key) p.to) (drop l.put-index l.put-items)) ≡ put_in l.intent (field_at l.node l.key)
