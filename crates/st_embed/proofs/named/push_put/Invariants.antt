use Rattle.std.proofs.Common.{◌≡◌, ◌++◌, map, take}
use Rattle.st_marks.specs.declared.intents.Put.{Put}
use Rattle.st_embed.proofs.named.push_put.Given as goal

abbrev pub invariant-loop-put : goal.invariant-loop-put
invariant-loop-put l = l.names ≡ l.initial.names ++ map (λ (x : Put). x.node) (take l.put-index l.puts)
