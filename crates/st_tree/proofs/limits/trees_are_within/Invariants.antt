-- what is past is low enough, so the whole is exactly where the rest is
use Rattle.std.proofs.Common.{◌≡◌, drop, nat_le}
use Rattle.st_tree.specs.Node.{trees_view}
use Rattle.st_tree.specs.Size.{items_height}
use Rattle.st_tree.proofs.limits.trees_are_within.Given as goal

abbrev pub invariant-loop-tree : goal.invariant-loop-tree
invariant-loop-tree l = nat_le (items_height (trees_view (drop l.tree-index l.tree-items))) l.levels ≡ nat_le (items_height (trees_view l.tree-items)) l.levels
