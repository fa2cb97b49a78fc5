-- what is copied so far is the front of the list
use Rattle.std.proofs.Common.{◌≡◌, take}
use Rattle.st_tree.proofs.copied.+copying.Given as goal

abbrev pub invariant-copy_field-loop-item : goal.invariant-copy_field-loop-item
invariant-copy_field-loop-item l = l.items ≡ take l.item-index l.item-items

abbrev pub invariant-copy_tree-loop-field : goal.invariant-copy_tree-loop-field
invariant-copy_tree-loop-field l = l.fields ≡ take l.field-index l.field-items
