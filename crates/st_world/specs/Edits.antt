-- The edit of a tree that an act is.
use Rattle.st_tree.specs.declared.edit.Edit.{Edit}
use Rattle.st_script.specs.declared.step.EditAct.{EditAct}
use Rattle.st_script.specs.declared.step.EditAct.TheVariants as edits

abbrev pub edit_of : EditAct → Edit
edit_of (edits.Insert at key index items) = Edit.Insert at key index items
edit_of (edits.Remove at key index count) = Edit.Remove at key index count
edit_of (edits.Move at key index count to to_key to_index) = Edit.Move at key index count to to_key to_index
edit_of (edits.Set at key item) = Edit.Put at key item
edit_of (edits.Clear at key) = Edit.Clear at key
