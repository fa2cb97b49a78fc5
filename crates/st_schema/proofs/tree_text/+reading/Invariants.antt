-- each way down to a tree leaves a level less; what is read so far and what is left make the whole
use Rattle.std.proofs.Common.{◌≡◌, ◌+◌, ◌*◌, ◌++◌, drop, map, List}
use Rattle.std.specs.Option.{option_map}
use Rattle.serde_json.specs.View.{items_view, members_view}
use Rattle.st_tree.specs.Node.{Node, FieldNode, view}
use Rattle.st_tree.specs.inside.Node.{field_view}
use Rattle.st_schema.specs.TreeText.{trees_in, fields_in}
use Rattle.st_schema.proofs.tree_text.+reading.Given as goal

abbrev pub decreases-read_at : goal.decreases-read_at
decreases-read_at l = 4 * l.levels

abbrev pub decreases-read_node : goal.decreases-read_node
decreases-read_node l = 4 * l.levels + 3

abbrev pub decreases-read_body : goal.decreases-read_body
decreases-read_body l = 4 * l.levels + 2

abbrev pub decreases-read_items : goal.decreases-read_items
decreases-read_items l = 4 * l.levels + 1

abbrev pub decreases-read_fields : goal.decreases-read_fields
decreases-read_fields l = 4 * l.levels + 1

abbrev pub invariant-read_items-loop-value : goal.invariant-read_items-loop-value
invariant-read_items-loop-value l = option_map (λ (ts : List Node). map view l.items ++ ts) (trees_in (items_view (drop l.value-index l.value-items)) l.levels) ≡ trees_in (items_view l.value-items) l.levels

abbrev pub invariant-read_fields-loop-key : goal.invariant-read_fields-loop-key
invariant-read_fields-loop-key l = record {
  can : (goal.iterator-read_fields-loop-key).can_next l.key-iterator;
  finite : (goal.iterator-read_fields-loop-key).is_finite l.key-iterator;
  read : option_map (λ (fs : List FieldNode). map field_view l.fields ++ fs) (fields_in (members_view l.key-iterator) l.levels) ≡ fields_in (members_view l.fn.members.entries) l.levels;
}
