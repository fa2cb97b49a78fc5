use Rattle.std.proofs.Common.{◌<◌, ◌-◌, length}
use Rattle.st_clash.proofs.RisingListings.{RisesTo}
use Rattle.st_clash.proofs.named.rise.Given as goal

abbrev pub invariant-loop-at : goal.invariant-loop-at
invariant-loop-at g l = (0 < l.at) × RisesTo g.K.Ord.cmp g.met.K.Ord.total g.T.Named.key l.list l.at

abbrev pub decreases-loop-at : goal.decreases-loop-at
decreases-loop-at g l = length l.list - l.at
