use Rattle.std.proofs.Common.{◌≡◌, length}
use Rattle.st_marks.specs.Listings.{cells_before}
use Rattle.st_marks.specs.Row.{spread}
use Rattle.st_clash.proofs.walk.front_of.Given as goal

abbrev pub invariant-loop-rest : goal.invariant-loop-rest
invariant-loop-rest l = (l.count ≡ 0) × (cells_before (spread l.rest) ≡ cells_before (spread l.marks))

abbrev pub decreases-loop-rest : goal.decreases-loop-rest
decreases-loop-rest l = length l.rest
