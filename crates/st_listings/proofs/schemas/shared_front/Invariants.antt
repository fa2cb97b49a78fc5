use Rattle.std.proofs.Common.{◌-◌, length}
use Rattle.st_listings.specs.inside.Settling.{IsSettling}
use Rattle.st_listings.proofs.schemas.shared_front.Given as goal

abbrev pub invariant-front : goal.invariant-front
invariant-front l = IsSettling l.fn.on l.cut l.add l.front l.last

abbrev pub decreases-front : goal.decreases-front
decreases-front l = length l.cut - l.front
