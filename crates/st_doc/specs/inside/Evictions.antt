-- Who stands in a register, and who has to leave one.
use Rattle.std.specs.Prelude.{◌≡◌, ◌↔◌, Bool, false, List, Option, Some, None, if◌then◌else◌}
use Rattle.std.specs.List.{list_any}
use Rattle.std.specs.BTreeMap.{BTreeMap, get}
use Rattle.st_ids.specs.Order.{field_cmp, same_node, same_field}
use Rattle.st_ids.specs.declared.names.FieldId.{FieldId}
use Rattle.st_ids.specs.declared.names.NodeId.{NodeId}
use Rattle.st_marks.specs.declared.places.Spot.{Spot}

-- a register holds the one node whose place it is
abbrev pub IsOneHeld : BTreeMap FieldId NodeId → (NodeId → Spot) → Type 0
IsOneHeld held place = (n : NodeId) (f : FieldId) → (get field_cmp held f ≡ Some n) ↔ (place n ≡ Spot.Register f)

-- whether a place is that register
abbrev pub stands_in : FieldId → Spot → Bool
stands_in f Spot.Nowhere = false
stands_in f (Spot.Row n c) = false
stands_in f (Spot.Register g) = same_field g f

-- whether an occupant is that node
abbrev pub is_held : Option NodeId → NodeId → Bool
is_held None n = false
is_held (Some m) n = same_node m n

-- nowhere, for who stands in one of the cleared registers
abbrev pub spot_if_cleared : List FieldId → Spot → Option Spot
spot_if_cleared clear Spot.Nowhere = None
spot_if_cleared clear (Spot.Row n c) = None
spot_if_cleared clear (Spot.Register f) = if list_any (λ g. same_field g f) clear then Some Spot.Nowhere else None
