-- what is past is written, where all trees have the shape
use Rattle.std.proofs.Common.{◌≡◌, true, map, take}
use Rattle.serde_json.specs.View.{view as value_view}
use Rattle.st_tree.specs.Node.{trees_view}
use Rattle.st_schema.specs.Shape.{all_have_shape}
use Rattle.st_schema.proofs.Writing.{shown}
use Rattle.st_script.proofs.write.items_value.Given as goal

abbrev pub invariant-loop-tree : goal.invariant-loop-tree
invariant-loop-tree l = all_have_shape (trees_view l.tree-items) ≡ true → map value_view l.items.items ≡ map shown (take l.tree-index l.tree-items)
