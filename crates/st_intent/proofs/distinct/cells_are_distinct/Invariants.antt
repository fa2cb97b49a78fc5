use Rattle.std.proofs.Common.{◌≡◌, drop}
use Rattle.st_ids.specs.Order.{same_cell}
use Rattle.st_intent.specs.inside.Rules.{are_distinct}
use Rattle.st_intent.proofs.distinct.cells_are_distinct.Given as goal

abbrev pub invariant-loop-i : goal.invariant-loop-i
invariant-loop-i l = are_distinct (λ o p. same_cell o.cell p.cell) (drop l.i l.cells) ≡ are_distinct (λ o p. same_cell o.cell p.cell) l.cells
