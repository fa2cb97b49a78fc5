-- the count so far and what is left make the whole count, up to one above the limit
use Rattle.std.proofs.Common.{◌≡◌, ◌+◌, ◌≤◌, min, drop}
use Rattle.st_tree.specs.Node.{trees_view}
use Rattle.st_tree.specs.Size.{item_count}
use Rattle.st_tree.proofs.limits.count_trees.Given as goal

abbrev pub invariant-loop-tree : goal.invariant-loop-tree
invariant-loop-tree l = (l.count ≤ 1025) × (min (l.count + item_count (trees_view (drop l.tree-index l.tree-items))) 1025 ≡ min (item_count (trees_view l.tree-items)) 1025)
