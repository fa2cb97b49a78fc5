-- the names so far, as far as they can be counted
use Rattle.std.proofs.Common.{◌≡◌, ◌-◌, ◌^◌, min, take}
use Rattle.st_lists.specs.Names.{names_in}
use Rattle.st_lists.proofs.counts.names_in.Given as goal

abbrev pub invariant-loop-intent : goal.invariant-loop-intent
invariant-loop-intent l = l.count ≡ min (names_in (take l.intent-index l.intents)) (2 ^ 64 - 1)
