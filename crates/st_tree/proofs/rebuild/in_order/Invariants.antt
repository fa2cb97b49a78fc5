-- what is in order and what still waits make the whole
use Rattle.std.proofs.Common.{◌≡◌, ◌++◌, map, length}
use Rattle.st_tree.specs.Node.{view}
use Rattle.st_tree.specs.inside.Rebuilt.{waiting_view}
use Rattle.st_tree.proofs.rebuild.in_order.Given as goal

abbrev pub invariant-loop-placed : goal.invariant-loop-placed
invariant-loop-placed l = map view l.trees ++ map (λ w. w.1) (waiting_view l.waiting) ≡ map (λ w. w.1) (waiting_view l.initial.waiting)

abbrev pub decreases-loop-placed : goal.decreases-loop-placed
decreases-loop-placed l = length l.waiting
