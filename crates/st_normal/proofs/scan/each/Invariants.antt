use Rattle.std.proofs.Common.{length, ◌↔◌}
use Rattle.std.specs.List.{AllByRecursion}
use Rattle.st_normal.proofs.scan.each.Given as goal

abbrev pub invariant-loop-item : goal.invariant-loop-item
invariant-loop-item g l = AllByRecursion (g.R.Rule.Holds l.rule) (g.W.Walk.left l.walk) ↔ AllByRecursion (g.R.Rule.Holds l.rule) (g.W.Walk.left l.initial.walk)

abbrev pub decreases-loop-item : goal.decreases-loop-item
decreases-loop-item g l = length (g.W.Walk.left l.walk)
