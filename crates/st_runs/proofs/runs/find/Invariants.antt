-- the items of the runs so far, and those that are left to go
use Rattle.std.proofs.Common.{◌≡◌, ◌+◌, length, take}
use Rattle.std.specs.List.{flat_map}
use Rattle.st_runs.proofs.runs.find.Given as goal

abbrev pub invariant-loop-i : goal.invariant-loop-i
invariant-loop-i g l = length (flat_map g.R.Run.items (take l.i l.runs)) + l.rest ≡ l.place
