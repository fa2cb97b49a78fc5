use Rattle.std.proofs.Common.{◌≡◌, drop}
use Rattle.st_ids.specs.Order.{same_node}
use Rattle.st_intent.specs.inside.Rules.{are_distinct}
use Rattle.st_intent.proofs.distinct.puts_are_distinct.Given as goal

abbrev pub invariant-loop-i : goal.invariant-loop-i
invariant-loop-i l = are_distinct (λ p q. same_node p.node q.node) (drop l.i l.puts) ≡ are_distinct (λ p q. same_node p.node q.node) l.puts
