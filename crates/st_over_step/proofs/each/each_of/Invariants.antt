use Rattle.std.proofs.Common.{drop, ◌↔◌}
use Rattle.std.specs.List.{AllByRecursion}
use Rattle.st_over_step.proofs.each.each_of.Given as goal

abbrev pub invariant-loop-item : goal.invariant-loop-item
invariant-loop-item g l = AllByRecursion (g.R.Rule.Holds l.rule) (drop l.item-index l.items) ↔ AllByRecursion (g.R.Rule.Holds l.rule) l.items
