use Rattle.std.proofs.Common.{◌≡◌, ◌++◌, map, take}
use Rattle.st_ids.specs.declared.names.FieldId.{FieldId}
use Rattle.st_embed.proofs.named.push_cleared.Given as goal

abbrev pub invariant-loop-field : goal.invariant-loop-field
invariant-loop-field l = l.names ≡ l.initial.names ++ map (λ (x : FieldId). x.node) (take l.field-index l.clear)
