-- the nodes from the place on are built up
use Rattle.std.proofs.Common.{◌≡◌, ◌≤◌, drop, length}
use Rattle.st_tree.specs.inside.Rebuilt.{trees_rebuilt, waiting_view}
use Rattle.st_tree.proofs.rebuild.build_up.Given as goal

abbrev pub invariant-loop-left : goal.invariant-loop-left
invariant-loop-left l = (l.left ≤ length l.nodes) × (waiting_view l.waiting ≡ trees_rebuilt (drop l.left l.nodes))

abbrev pub decreases-loop-left : goal.decreases-loop-left
decreases-loop-left l = l.left
