-- What is seen of a tree, one level at a time.
use Rattle.std.proofs.Common.{◌≡◌}
use Rattle.st_tree.specs.Node.{Node, node, FieldNode, field_step, tree_step, view, trees_view}
use Rattle.st_tree.specs.inside.Node.{field_view, fields_view}
use Rattle.st_tree.specs.declared.tree.Tree.{Tree}
use Rattle.st_tree.specs.declared.tree.Field.{Field}
use Rattle.st_tree.specs.declared.tree.Field.TheOpen.{Field-F, Tree-F}
use Rattle.st_tree.specs.declared.tree.Field.TheViews.{out-Tree, out-Field, roll-Tree, roll-Field}
use Rattle.st_tree.specs.declared.tree.Field.TheFolds.{fold_out-Tree, fold_out-Field, fold-roll-Tree, fold-roll-Field}

pub view_out : (t : Tree) → view t ≡ node (out-Tree t).ty (out-Tree t).leaf (fields_view (out-Tree t).fields)
view_out t = fold_out-Tree FieldNode Node field_step tree_step t

pub field_view_out : (f : Field) → field_view f ≡ record { key = (out-Field f).key.0; row = (out-Field f).row; items = trees_view (out-Field f).items }
field_view_out f = fold_out-Field FieldNode Node field_step tree_step f

pub view_roll : (t : Tree-F Field Tree) → view (roll-Tree t) ≡ node t.ty t.leaf (fields_view t.fields)
view_roll t = fold-roll-Tree FieldNode Node field_step tree_step t

pub field_view_roll : (f : Field-F Field Tree) → field_view (roll-Field f) ≡ record { key = f.key.0; row = f.row; items = trees_view f.items }
field_view_roll f = fold-roll-Field FieldNode Node field_step tree_step f
