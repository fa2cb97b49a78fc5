-- what is past was looked at, and the rest follows from here
use Rattle.std.proofs.Common.{◌≡◌, ◌+◌, drop}
use Rattle.std.specs.Option.{option_copied}
use Rattle.st_tree.specs.Node.{view, trees_view}
use Rattle.st_tree.specs.inside.Node.{fields_view}
use Rattle.st_tree.specs.Size.{item_count, field_count}
use Rattle.st_schema.specs.Conforms.{verdicts, fields_verdicts, items_verdicts}
use Rattle.st_schema.specs.inside.Conforms.{walk_over}
use Rattle.st_schema.proofs.allows.+walking.Given as goal

abbrev pub invariant-walk_field-loop-item : goal.invariant-walk_field-loop-item
invariant-walk_field-loop-item l = let left = trees_view (drop l.item-index l.item-items) in record {
  number : l.now.next + item_count left ≡ l.fn.walk.next + item_count (trees_view l.item-items);
  walked : walk_over l.now (items_verdicts l.schema l.types left) ≡ walk_over l.fn.walk (items_verdicts l.schema l.types (trees_view l.item-items));
}

abbrev pub invariant-walk_tree-loop-field : goal.invariant-walk_tree-loop-field
invariant-walk_tree-loop-field l = let left = fields_view (drop l.field-index l.field-items) in record {
  number : l.now.next + field_count left ≡ l.fn.walk.next + 1 + field_count (fields_view l.field-items);
  walked : walk_over l.now (fields_verdicts l.schema (option_copied l.form) left) ≡ walk_over l.fn.walk (verdicts l.schema l.types (view l.tree));
}
