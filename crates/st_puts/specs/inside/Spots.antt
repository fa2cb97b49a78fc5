-- Where nodes stand, as a change or a step shows it.
use Rattle.std.specs.Prelude.{List, [], ◌∷◌, ◌++◌, map, Option, Some, None, if◌then◌else◌}
use Rattle.std.specs.List.{flat_map}
use Rattle.st_ids.specs.declared.names.FieldId.{FieldId}
use Rattle.st_ids.specs.declared.names.NodeId.{NodeId}
use Rattle.st_marks.specs.declared.changes.Change.{Change}
use Rattle.st_marks.specs.declared.changes.NewNode.{NewNode}
use Rattle.st_marks.specs.declared.marks.Loose.{Loose}
use Rattle.st_marks.specs.declared.marks.Mark.{Mark}
use Rattle.st_marks.specs.declared.marks.RegMark.{RegMark}
use Rattle.st_marks.specs.declared.marks.RegStep.{RegStep}
use Rattle.st_marks.specs.declared.marks.RowMarks.{RowMarks}
use Rattle.st_marks.specs.declared.places.Spot.{Spot}
use Rattle.st_marks.specs.declared.steps.Step.{Step}
use Rattle.st_marks.specs.How.{is_leave}
use Rattle.st_puts.specs.declared.spots.Told.{Told}

-- ## The cells of a row

-- who stands in a cell after a mark
abbrev pub stands_by : NodeId → Mark → List (NodeId × Spot)
stands_by r (Mark.Skip k) = []
stands_by r (Mark.Gap c) = []
stands_by r (Mark.Touch c n h) = if is_leave h then [] else (n, Spot.Row r c) ∷ []
stands_by r (Mark.Make c n b) = if b then (n, Spot.Row r c) ∷ [] else []
stands_by r (Mark.Fill c n) = (n, Spot.Row r c) ∷ []

-- who leaves a cell
abbrev pub leaves_by : Mark → List (NodeId × Spot)
leaves_by (Mark.Skip k) = []
leaves_by (Mark.Gap c) = []
leaves_by (Mark.Touch c n h) = if is_leave h then (n, Spot.Nowhere) ∷ [] else []
leaves_by (Mark.Make c n b) = []
leaves_by (Mark.Fill c n) = []

-- who stands in a cell before a mark
abbrev pub stood_by : NodeId → Mark → List (NodeId × Spot)
stood_by r (Mark.Skip k) = []
stood_by r (Mark.Gap c) = []
stood_by r (Mark.Touch c n h) = (n, Spot.Row r c) ∷ []
stood_by r (Mark.Make c n b) = []
stood_by r (Mark.Fill c n) = []

-- one of these
abbrev pub told_by : Told → NodeId → Mark → List (NodeId × Spot)
told_by Told.After r y = stands_by r y
told_by Told.Left r y = leaves_by y
told_by Told.Before r y = stood_by r y

-- the same of a whole row
abbrev pub row_told : Told → RowMarks → List (NodeId × Spot)
row_told w r = flat_map (told_by w r.node) r.marks

-- ## Registers and the rest

-- the occupant of a register
abbrev pub held_spot : FieldId → Option NodeId → List (NodeId × Spot)
held_spot f None = []
held_spot f (Some n) = (n, Spot.Register f) ∷ []

-- an occupant that is nowhere, unless it is told elsewhere
abbrev pub gone_spot : Option NodeId → List (NodeId × Spot)
gone_spot None = []
gone_spot (Some n) = (n, Spot.Nowhere) ∷ []

-- a node that is nowhere
abbrev pub loose_spot : Loose → NodeId × Spot
loose_spot l = (l.node, Spot.Nowhere)

-- a new node that is nowhere, unless it is told elsewhere
abbrev pub new_spot : NewNode → NodeId × Spot
new_spot m = (m.node, Spot.Nowhere)

-- ## Of a whole step and a whole change

-- who stands somewhere after a step
abbrev pub stands_after : Step → List (NodeId × Spot)
stands_after S = flat_map (row_told Told.After) S.rows ++ flat_map (λ (r : RegStep). held_spot r.field r.after) S.regs

-- whom it lists before or makes: they are nowhere after it, unless they stand somewhere
abbrev pub gone_after : Step → List (NodeId × Spot)
gone_after S = flat_map (row_told Told.Left) S.rows ++ flat_map (λ (r : RegStep). gone_spot r.before) S.regs
    ++ map loose_spot S.loose ++ map new_spot S.new

-- whom a change finds, and where
abbrev pub found_before : Change → List (NodeId × Spot)
found_before C = flat_map (row_told Told.Before) C.rows ++ flat_map (λ (r : RegMark). held_spot r.field r.held) C.regs
    ++ map loose_spot C.loose
