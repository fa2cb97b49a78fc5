use Rattle.std.proofs.Common.{◌≡◌, drop}
use Rattle.st_ids.specs.Order.{same_cell}
use Rattle.st_marks.specs.Intent.{cell_of}
use Rattle.st_intent.specs.inside.Rules.{are_distinct, are_same}
use Rattle.st_intent.proofs.distinct.put_cells_are_distinct.Given as goal

abbrev pub invariant-loop-i : goal.invariant-loop-i
invariant-loop-i l = are_distinct (λ p q. are_same same_cell (cell_of p.to) (cell_of q.to)) (drop l.i l.puts) ≡ are_distinct (λ p q. are_same same_cell (cell_of p.to) (cell_of q.to)) l.puts
