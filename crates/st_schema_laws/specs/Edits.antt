-- The tree after any edit.
use Rattle.serde_json.specs.Data.{Data}
use Rattle.st_tree.specs.Node.{trees_view, view}
use Rattle.st_tree.specs.declared.edit.Edit.{Edit}
use Rattle.st_schema.specs.TreeText.{tree_data, trees_data}
use Rattle.st_schema_laws.specs.Edited.{at_path, data_items, with_items, with_key, without_items, without_key}
use Rattle.st_schema_laws.specs.Moved.{moved_in}

abbrev pub tree_after_edit : Edit → Data → Data
tree_after_edit (Edit.Insert at key index items) d = at_path at (with_items index (data_items (trees_data (trees_view items)))) d
tree_after_edit (Edit.Remove at key index count) d = at_path at (without_items index count) d
tree_after_edit (Edit.Move at key index count to to_key to_index) d = moved_in at key index count to to_key to_index d
tree_after_edit (Edit.Put at key item) d = at_path at (with_key key.0 (tree_data (view item))) d
tree_after_edit (Edit.Clear at key) d = at_path at (without_key key.0) d
tree_after_edit (Edit.Need at) d = d
