use Rattle.std.proofs.Common.{◌≡◌, drop}
use Rattle.st_ids.specs.Order.{same_cell}
use Rattle.st_intent.specs.inside.Rules.{are_distinct, are_same}
use Rattle.st_intent.proofs.distinct.anchors_are_distinct.Given as goal

abbrev pub invariant-loop-i : goal.invariant-loop-i
invariant-loop-i l = are_distinct (λ g h. are_same same_cell g.after h.after) (drop l.i l.groups) ≡ are_distinct (λ g h. are_same same_cell g.after h.after) l.groups
