use Rattle.std.proofs.Common.{◌≡◌, drop}
use Rattle.st_ids.specs.Order.{same_node}
use Rattle.st_intent.specs.inside.Rules.{are_distinct}
use Rattle.st_intent.proofs.distinct.new_are_distinct.Given as goal

abbrev pub invariant-loop-i : goal.invariant-loop-i
invariant-loop-i l = are_distinct (λ m k. same_node m.node k.node) (drop l.i l.new) ≡ are_distinct (λ m k. same_node m.node k.node) l.new
