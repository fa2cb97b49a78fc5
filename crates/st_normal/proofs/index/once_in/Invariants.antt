use Rattle.std.proofs.Common.{◌↔◌, length}
use Rattle.st_ids.specs.Listing.{AreDistinct}
use Rattle.st_normal.proofs.index.once_in.Given as goal

abbrev pub invariant-loop-item : goal.invariant-loop-item
invariant-loop-item g l = AreDistinct g.I.Named.name (g.W.Walk.left l.walk) ↔ AreDistinct g.I.Named.name (g.W.Walk.left l.initial.walk)

abbrev pub decreases-loop-item : goal.decreases-loop-item
decreases-loop-item g l = length (g.W.Walk.left l.walk)
