use Rattle.std.proofs.Common.{drop, ◌↔◌}
use Rattle.std.specs.List.{AllByRecursion}
use Rattle.st_author_over.proofs.seen.finds_each.Given as goal

abbrev pub invariant-loop-thing : goal.invariant-loop-thing
invariant-loop-thing g l = AllByRecursion (g.B.Finds.IsFound l.asked) (drop l.thing-index l.things) ↔ AllByRecursion (g.B.Finds.IsFound l.asked) l.things
