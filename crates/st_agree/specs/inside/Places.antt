-- Where nodes stand, as a change and a step show it before.
use Rattle.std.specs.Prelude.{◌≡◌, ◌≢◌, ℕ, Bool, true, false, ◌&&◌, List, [], ◌∷◌, ◌++◌, map, slice_get, Option, Some, None, MatchOption, if◌then◌else◌}
use Rattle.std.specs.List.{flat_map}
use Rattle.st_ids.specs.Listing.{Has}
use Rattle.st_ids.specs.Order.{same_cell, same_field, same_node}
use Rattle.st_ids.specs.declared.names.FieldId.{FieldId}
use Rattle.st_ids.specs.declared.names.NodeId.{NodeId}
use Rattle.st_marks.specs.declared.changes.Change.{Change}
use Rattle.st_marks.specs.declared.marks.Loose.{Loose}
use Rattle.st_marks.specs.declared.marks.Mark.{Mark}
use Rattle.st_marks.specs.declared.marks.RegMark.{RegMark}
use Rattle.st_marks.specs.declared.marks.RegStep.{RegStep}
use Rattle.st_marks.specs.declared.marks.RowMarks.{RowMarks}
use Rattle.st_marks.specs.declared.places.Spot.{Spot}
use Rattle.st_marks.specs.declared.steps.Step.{Step}
use Rattle.st_marks.specs.Agree.{row_field}
use Rattle.st_agree.specs.declared.places.Placed.{Placed}

-- the node that a mark of a row shows in its cell
abbrev pub placed_by : NodeId → Mark → List Placed
placed_by r (Mark.Skip k) = []
placed_by r (Mark.Gap c) = []
placed_by r (Mark.Touch c n h) = record { node = n; spot = Spot.Row r c } ∷ []
placed_by r (Mark.Make c n b) = []
placed_by r (Mark.Fill c n) = []

-- the nodes that a row shows
abbrev pub row_placed : RowMarks → List Placed
row_placed r = flat_map (placed_by r.node) r.marks

-- the occupant of a register
abbrev pub placed_held : FieldId → Option NodeId → List Placed
placed_held f None = []
placed_held f (Some n) = record { node = n; spot = Spot.Register f } ∷ []

-- a node that is nowhere
abbrev pub placed_loose : Loose → Placed
placed_loose l = record { node = l.node; spot = Spot.Nowhere }

-- where a change shows nodes
abbrev pub placements_of_change : Change → List Placed
placements_of_change C = flat_map row_placed C.rows ++ flat_map (λ (r : RegMark). placed_held r.field r.held) C.regs ++ map placed_loose C.loose

-- where a step shows nodes before it
abbrev pub placements_of_step : Step → List Placed
placements_of_step S = flat_map row_placed S.rows ++ flat_map (λ (r : RegStep). placed_held r.field r.before) S.regs ++ map placed_loose S.loose

-- whether two places are the same
abbrev pub same_spot : Spot → Spot → Bool
same_spot Spot.Nowhere Spot.Nowhere = true
same_spot Spot.Nowhere (Spot.Row n d) = false
same_spot Spot.Nowhere (Spot.Register g) = false
same_spot (Spot.Row m c) Spot.Nowhere = false
same_spot (Spot.Row m c) (Spot.Row n d) = same_node m n && same_cell c d
same_spot (Spot.Row m c) (Spot.Register g) = false
same_spot (Spot.Register f) Spot.Nowhere = false
same_spot (Spot.Register f) (Spot.Row n d) = false
same_spot (Spot.Register f) (Spot.Register g) = same_field f g

-- the field of a place
abbrev pub fields_of : Spot → List FieldId
fields_of Spot.Nowhere = []
fields_of (Spot.Row n c) = row_field n ∷ []
fields_of (Spot.Register f) = f ∷ []

-- the fields of two places, if they differ
abbrev pub apart_fields : Placed → Option Placed → List FieldId
apart_fields p None = []
apart_fields p (Some q) = if same_spot p.spot q.spot then [] else fields_of p.spot ++ fields_of q.spot

-- the placement of a node in a list, as a table of places in it tells
abbrev pub placed_at : List Placed → Option ℕ → Option Placed
placed_at ps None = None
placed_at ps (Some i) = slice_get ps i

-- a table of the places in a list at which nodes are placed
abbrev pub IsTable : List Placed → (NodeId → Option ℕ) → Type 0
IsTable ps at = (n : NodeId) → MatchOption (at n) ((p : Placed) → Has ps p → p.node ≢ n) (λ i. (p : Placed) × (slice_get ps i ≡ Some p) × (p.node ≡ n))

-- the fields of all nodes that others place elsewhere
abbrev pub found_twice : List Placed → List Placed → (NodeId → Option ℕ) → List FieldId
found_twice ps qs at = flat_map (λ (p : Placed). apart_fields p (placed_at qs (at p.node))) ps
