-- the puts of the cells so far
use Rattle.std.proofs.Common.{◌≡◌, map, take}
use Rattle.st_marks.specs.declared.intents.Owned.{Owned}
use Rattle.st_marks.specs.declared.intents.To.{To}
use Rattle.st_resolve.proofs.intents.puts_in.Given as goal

abbrev pub invariant-loop-owned : goal.invariant-loop-owned
invariant-loop-owned l = l.puts ≡ map (λ (o : Owned). record { node = o.node; to = To.Cell o.cell }) (take l.owned-index l.cells)
