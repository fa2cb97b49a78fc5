use Rattle.std.proofs.Common.{length}
use Rattle.st_passing.specs.Raising.{IsSearched}
use Rattle.st_passing.proofs.raise.seat_of.Given as goal

abbrev pub invariant-loop-rest : goal.invariant-loop-rest
invariant-loop-rest l = IsSearched l.among l.marks l.place l.at l.left l.count l.rest

abbrev pub decreases-loop-rest : goal.decreases-loop-rest
decreases-loop-rest l = length l.rest
