-- the count so far and what is left make the whole count, up to one above the limit
use Rattle.std.proofs.Common.{◌≡◌, ◌+◌, ◌≤◌, min, drop}
use Rattle.st_tree.specs.Node.{trees_view}
use Rattle.st_tree.specs.inside.Node.{fields_view}
use Rattle.st_tree.specs.Size.{item_count, field_count}
use Rattle.st_tree.proofs.limits.+counting.Given as goal

abbrev pub invariant-count_field-loop-item : goal.invariant-count_field-loop-item
invariant-count_field-loop-item l = (l.count ≤ 1025) × (min (l.count + item_count (trees_view (drop l.item-index l.item-items))) 1025 ≡ min (l.before + item_count (trees_view l.item-items)) 1025)

abbrev pub invariant-count_tree-loop-field : goal.invariant-count_tree-loop-field
invariant-count_tree-loop-field l = (l.count ≤ 1025) × (min (l.count + field_count (fields_view (drop l.field-index l.field-items))) 1025 ≡ min (l.before + 1 + field_count (fields_view l.field-items)) 1025)
