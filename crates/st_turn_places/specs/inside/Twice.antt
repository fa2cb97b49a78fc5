-- Nodes that stand elsewhere in one list than in another.
use Rattle.std.specs.Prelude.{Bool, true, false, ◌&&◌, ℕ, List, [], ◌∷◌, ◌++◌, slice_get, Option, Some, None, if◌then◌else◌}
use Rattle.std.specs.List.{flat_map}
use Rattle.st_ids.specs.Order.{same_cell, same_field, same_node}
use Rattle.st_ids.specs.declared.names.FieldId.{FieldId}
use Rattle.st_ids.specs.declared.names.NodeId.{NodeId}
use Rattle.st_marks.specs.declared.places.Spot.{Spot}
use Rattle.st_marks.specs.Agree.{row_field}
use Rattle.st_turn_places.specs.declared.places.Placed.{Placed}

-- whether two places are the same
abbrev pub same_spot : Spot → Spot → Bool
same_spot Spot.Nowhere Spot.Nowhere = true
same_spot Spot.Nowhere (Spot.Row n d) = false
same_spot Spot.Nowhere (Spot.Register g) = false
same_spot (Spot.Row m c) Spot.Nowhere = false
same_spot (Spot.Row m c) (Spot.Row n d) = same_node m n && same_cell c d
same_spot (Spot.Row m c) (Spot.Register g) = false
same_spot (Spot.Register f) Spot.Nowhere = false
same_spot (Spot.Register f) (Spot.Row n d) = false
same_spot (Spot.Register f) (Spot.Register g) = same_field f g

-- the field of a place
abbrev pub fields_of : Spot → List FieldId
fields_of Spot.Nowhere = []
fields_of (Spot.Row n c) = row_field n ∷ []
fields_of (Spot.Register f) = f ∷ []

-- the fields of two places, if they differ
abbrev pub apart_fields : Placed → Option Placed → List FieldId
apart_fields p None = []
apart_fields p (Some q) = if same_spot p.spot q.spot then [] else fields_of p.spot ++ fields_of q.spot

-- the placement of a node in a list, as a table of places in it tells
abbrev pub looked_up : List Placed → Option ℕ → Option Placed
looked_up ps None = None
looked_up ps (Some i) = slice_get ps i

-- the fields of all nodes that others place elsewhere
abbrev pub found_twice : List Placed → List Placed → (NodeId → Option ℕ) → List FieldId
found_twice ps qs at = flat_map (λ (p : Placed). apart_fields p (looked_up qs (at p.node))) ps
