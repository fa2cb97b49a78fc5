-- what is past is low enough, so the whole is exactly where the rest is
use Rattle.std.proofs.Common.{◌≡◌, drop, nat_le, ◌-◌}
use Rattle.st_tree.specs.Node.{trees_view}
use Rattle.st_tree.specs.inside.Node.{fields_view}
use Rattle.st_tree.specs.Size.{items_height, fields_height}
use Rattle.st_tree.proofs.limits.+measuring.Given as goal

abbrev pub invariant-field_is_within-loop-item : goal.invariant-field_is_within-loop-item
invariant-field_is_within-loop-item l = nat_le (items_height (trees_view (drop l.item-index l.item-items))) l.levels ≡ nat_le (items_height (trees_view l.item-items)) l.levels

abbrev pub invariant-tree_is_within-loop-field : goal.invariant-tree_is_within-loop-field
invariant-tree_is_within-loop-field l = nat_le (fields_height (fields_view (drop l.field-index l.field-items))) (l.levels - 1) ≡ nat_le (fields_height (fields_view l.field-items)) (l.levels - 1)
