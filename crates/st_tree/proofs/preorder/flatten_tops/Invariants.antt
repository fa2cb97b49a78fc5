-- what is listed so far and what is left to list make the whole list, and the numbers go on to the same ends
use Rattle.std.proofs.Common.{◌≡◌, ◌+◌, ◌++◌, drop, true}
use Rattle.st_tree.specs.Node.{trees_view}
use Rattle.st_tree.specs.Size.{item_count}
use Rattle.st_tree.specs.Preorder.{tops_listed, item_cells}
use Rattle.st_tree.proofs.preorder.flatten_tops.Given as goal

abbrev pub invariant-loop-tree : goal.invariant-loop-tree
invariant-loop-tree l = let left = trees_view (drop l.tree-index l.tree-items) in record {
  rev : l.naming.rev ≡ l.initial.naming.rev;
  node : l.naming.node + item_count left ≡ l.initial.naming.node + item_count (trees_view l.tree-items);
  cell : l.naming.cell + item_cells true left ≡ l.initial.naming.cell + item_cells true (trees_view l.tree-items);
  list : l.nodes ++ tops_listed l.naming.rev l.naming.node l.naming.cell left
      ≡ tops_listed l.initial.naming.rev l.initial.naming.node l.initial.naming.cell (trees_view l.tree-items);
}
