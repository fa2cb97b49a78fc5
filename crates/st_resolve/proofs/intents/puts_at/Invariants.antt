-- the puts of the nodes so far
use Rattle.std.proofs.Common.{◌≡◌, map, take}
use Rattle.st_marks.specs.declared.intents.To.{To}
use Rattle.st_resolve.proofs.intents.puts_at.Given as goal

abbrev pub invariant-loop-node : goal.invariant-loop-node
invariant-loop-node l = l.puts ≡ map (λ n. record { node = n; to = To.Register l.field }) (take l.node-index l.nodes)
