use Rattle.std.proofs.Common.{◌≡◌, length}
use Rattle.st_normal.proofs.scan.AlongWalk.step.Given as goal

abbrev pub invariant-loop-self : goal.invariant-loop-self
invariant-loop-self g l = g.P.Part.of l.self.items.now ≡ g.P.Part.of l.initial.self.items.now

abbrev pub decreases-loop-self : goal.decreases-loop-self
decreases-loop-self g l = length l.self.items.now
