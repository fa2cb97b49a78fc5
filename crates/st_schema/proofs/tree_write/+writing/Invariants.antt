-- what is past is written, where the whole has the shape
use Rattle.std.proofs.Common.{◌≡◌, true, map, take}
use Rattle.serde_json.specs.View.{view as value_view, members_view}
use Rattle.st_tree.specs.Node.{trees_view}
use Rattle.st_tree.specs.inside.Node.{fields_view}
use Rattle.st_schema.specs.Shape.{members_rise, fields_have_shape, all_have_shape}
use Rattle.st_schema.specs.TreeText.{members_data}
use Rattle.st_schema.proofs.Writing.{shown}
use Rattle.st_schema.proofs.tree_write.+writing.Given as goal

abbrev pub invariant-row_value-loop-item : goal.invariant-row_value-loop-item
invariant-row_value-loop-item l = all_have_shape (trees_view l.item-items) ≡ true → map value_view l.items.items ≡ map shown (take l.item-index l.item-items)

abbrev pub invariant-members_value-loop-field : goal.invariant-members_value-loop-field
invariant-members_value-loop-field l = members_rise (fields_view l.field-items) ≡ true → fields_have_shape (fields_view l.field-items) ≡ true
    → members_view l.members.entries ≡ members_data (fields_view (take l.field-index l.field-items))
