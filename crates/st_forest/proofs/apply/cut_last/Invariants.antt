use Rattle.std.proofs.Common.{◌≡◌, ◌-◌, length, take}
use Rattle.st_forest.proofs.apply.cut_last.Given as goal

abbrev pub invariant-loop : goal.invariant-loop
invariant-loop l = l.entries ≡ take (length l.initial.entries - l.counter) l.initial.entries
