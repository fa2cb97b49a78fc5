-- Where a step shows nodes, before it or after it.
use Rattle.std.specs.Prelude.{◌≡◌, ◌≢◌, ℕ, Bool, true, false, not, List, [], ◌∷◌, ◌++◌, map, slice_get, Option, Some, None, MatchOption, if◌then◌else◌}
use Rattle.std.specs.List.{flat_map}
use Rattle.st_ids.specs.Listing.{Has}
use Rattle.st_ids.specs.declared.names.CellId.{CellId}
use Rattle.st_ids.specs.declared.names.FieldId.{FieldId}
use Rattle.st_ids.specs.declared.names.NodeId.{NodeId}
use Rattle.st_marks.specs.declared.changes.NewNode.{NewNode}
use Rattle.st_marks.specs.declared.marks.How.TheVariants.{Stay}
use Rattle.st_marks.specs.declared.marks.Loose.{Loose}
use Rattle.st_marks.specs.declared.marks.Mark.{Mark}
use Rattle.st_marks.specs.declared.marks.RegStep.{RegStep}
use Rattle.st_marks.specs.declared.marks.RowMarks.{RowMarks}
use Rattle.st_marks.specs.declared.places.Spot.{Spot}
use Rattle.st_marks.specs.declared.steps.Step.{Step}
use Rattle.st_marks.specs.How.{is_leave}
use Rattle.st_turn_places.specs.declared.places.Placed.{Placed}

-- a cell with its node, or empty with its owner
abbrev pub cell_or_empty : CellId → NodeId → Bool → Mark
cell_or_empty c n b = if b then Mark.Touch c n Stay else Mark.Fill c n

-- what a mark leaves, as a mark that finds it
abbrev pub left_by : Mark → Mark
left_by (Mark.Skip k) = Mark.Skip k
left_by (Mark.Gap c) = Mark.Gap c
left_by (Mark.Touch c n h) = cell_or_empty c n (not (is_leave h))
left_by (Mark.Make c n b) = cell_or_empty c n b
left_by (Mark.Fill c n) = cell_or_empty c n true

-- a mark as it finds its cell, or as it leaves it
abbrev pub found_or_left : Bool → Mark → Mark
found_or_left after m = if after then left_by m else m

-- who is in a register, before or after
abbrev pub held_on : Bool → RegStep → Option NodeId
held_on after r = if after then r.after else r.before

-- the node that a mark of a row finds in its cell
abbrev pub placed_by : NodeId → Mark → List Placed
placed_by r (Mark.Skip k) = []
placed_by r (Mark.Gap c) = []
placed_by r (Mark.Touch c n h) = record { node = n; spot = Spot.Row r c } ∷ []
placed_by r (Mark.Make c n b) = []
placed_by r (Mark.Fill c n) = []

-- the node that a mark of a row shows in its cell
abbrev pub placed_on : Bool → NodeId → Mark → List Placed
placed_on after r m = placed_by r (found_or_left after m)

-- the nodes that a row shows
abbrev pub row_placed : Bool → RowMarks → List Placed
row_placed after r = flat_map (placed_on after r.node) r.marks

-- the occupant of a register
abbrev pub placed_held : FieldId → Option NodeId → List Placed
placed_held f None = []
placed_held f (Some n) = record { node = n; spot = Spot.Register f } ∷ []

-- the occupant of a register, before or after
abbrev pub register_placed : Bool → RegStep → List Placed
register_placed after r = placed_held r.field (held_on after r)

-- the nodes that stand in rows and registers, before or after
abbrev pub standing : Bool → Step → List Placed
standing after S = flat_map (row_placed after) S.rows ++ flat_map (register_placed after) S.regs

-- a node that is nowhere
abbrev pub placed_loose : Loose → Placed
placed_loose l = record { node = l.node; spot = Spot.Nowhere }

-- where a step finds nodes
abbrev pub found_by : Step → List Placed
found_by S = standing false S ++ map placed_loose S.loose

-- a table of the places in a list at which nodes are placed
abbrev pub IsTable : List Placed → (NodeId → Option ℕ) → Type 0
IsTable ps at = (n : NodeId) → MatchOption (at n) ((p : Placed) → Has ps p → p.node ≢ n) (λ i. (p : Placed) × (slice_get ps i ≡ Some p) × (p.node ≡ n))

-- a node as nowhere, where a table has it not
abbrev pub free_at : Option ℕ → NodeId → List Placed
free_at None n = record { node = n; spot = Spot.Nowhere } ∷ []
free_at (Some i) n = []

abbrev pub if_free : (NodeId → Option ℕ) → NodeId → List Placed
if_free at n = free_at (at n) n

-- the nodes of a step that a table of those that stand after it has not
abbrev pub set_free : (NodeId → Option ℕ) → Step → List Placed
set_free at S = flat_map (λ (m : NewNode). if_free at m.node) S.new ++ flat_map (λ (p : Placed). if_free at p.node) (found_by S)
