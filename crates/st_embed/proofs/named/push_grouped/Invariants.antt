use Rattle.std.proofs.Common.{◌≡◌, ◌++◌, map, take}
use Rattle.st_marks.specs.declared.intents.Group.{Group}
use Rattle.st_embed.proofs.named.push_grouped.Given as goal

abbrev pub invariant-loop-group : goal.invariant-loop-group
invariant-loop-group l = l.names ≡ l.initial.names ++ map (λ (x : Group). x.node) (take l.group-index l.groups)
