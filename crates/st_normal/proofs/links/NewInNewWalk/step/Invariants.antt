use Rattle.std.proofs.Common.{◌≡◌, length}
use Rattle.std.specs.List.{filter}
use Rattle.st_normal.specs.inside.Links.{are_new}
use Rattle.st_normal.proofs.links.NewInNewWalk.step.Given as goal

abbrev pub invariant-loop-link : goal.invariant-loop-link
invariant-loop-link g l = record {
  look : l.self.look ≡ l.initial.self.look;
  left : filter (are_new (g.L.HasEntries.listed l.self.look.now.lists).new) (g.W.Walk.left l.self.walk) ≡ filter (are_new (g.L.HasEntries.listed l.initial.self.look.now.lists).new) (g.W.Walk.left l.initial.self.walk);
}

abbrev pub decreases-loop-link : goal.decreases-loop-link
decreases-loop-link g l = length (g.W.Walk.left l.self.walk)
