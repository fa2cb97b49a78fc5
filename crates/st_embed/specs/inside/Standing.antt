-- Where nodes stand.
use Rattle.std.specs.Prelude.{Bool, false}
use Rattle.st_ids.specs.Order.{same_field, same_node}
use Rattle.st_ids.specs.declared.names.FieldId.{FieldId}
use Rattle.st_ids.specs.declared.names.NodeId.{NodeId}
use Rattle.st_marks.specs.declared.places.Spot.{Spot}

-- whether a place is in a node's row
abbrev pub is_row_of : NodeId → Spot → Bool
is_row_of n Spot.Nowhere = false
is_row_of n (Spot.Row r c) = same_node r n
is_row_of n (Spot.Register f) = false

-- whether a place is that register
abbrev pub is_register_of : FieldId → Spot → Bool
is_register_of f Spot.Nowhere = false
is_register_of f (Spot.Row r c) = false
is_register_of f (Spot.Register g) = same_field g f
