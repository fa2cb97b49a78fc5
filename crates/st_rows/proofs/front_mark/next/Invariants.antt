use Rattle.std.proofs.Common.{◌≡◌, length}
use Rattle.st_marks.specs.Row.{spread}
use Rattle.st_rows.proofs.front_mark.next.Given as goal

abbrev pub invariant-loop-rest : goal.invariant-loop-rest
invariant-loop-rest l = (l.count ≡ 0) × (spread l.rest ≡ spread l.marks)

abbrev pub decreases-loop-rest : goal.decreases-loop-rest
decreases-loop-rest l = length l.rest
