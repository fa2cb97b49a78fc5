use Rattle.std.proofs.Common.{◌≡◌, ◌&&◌, drop}
use Rattle.st_ids.specs.Order.{same_node}
use Rattle.st_marks.specs.Intent.{same_anchor}
use Rattle.st_intent.specs.inside.Rules.{are_distinct}
use Rattle.st_intent.proofs.distinct.places_are_distinct.Given as goal

abbrev pub invariant-loop-i : goal.invariant-loop-i
invariant-loop-i l = are_distinct (λ g h. same_node g.node h.node && same_anchor g.after h.after) (drop l.i l.groups) ≡ are_distinct (λ g h. same_node g.node h.node && same_anchor g.after h.after) l.groups
