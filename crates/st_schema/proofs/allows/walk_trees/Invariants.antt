-- what is past was looked at, and the rest follows from here
use Rattle.std.proofs.Common.{◌≡◌, ◌+◌, drop, None}
use Rattle.st_tree.specs.Node.{trees_view}
use Rattle.st_tree.specs.Size.{item_count}
use Rattle.st_schema.specs.Conforms.{items_verdicts}
use Rattle.st_schema.specs.inside.Conforms.{walk_over}
use Rattle.st_schema.proofs.allows.walk_trees.Given as goal

abbrev pub invariant-loop-tree : goal.invariant-loop-tree
invariant-loop-tree l = let left = trees_view (drop l.tree-index l.trees) in record {
  number : l.now.next + item_count left ≡ item_count (trees_view l.trees);
  walked : walk_over l.now (items_verdicts l.schema l.types left) ≡ walk_over (record { next = 0; fault = None }) (items_verdicts l.schema l.types (trees_view l.trees));
}
