-- Where a change puts nodes, as its marks tell.
use Rattle.std.specs.Prelude.{List, [], ◌∷◌, ◌++◌, Option, Some, None, if◌then◌else◌}
use Rattle.std.specs.List.{flat_map}
use Rattle.st_ids.specs.declared.names.FieldId.{FieldId}
use Rattle.st_ids.specs.declared.names.NodeId.{NodeId}
use Rattle.st_marks.specs.declared.changes.Change.{Change}
use Rattle.st_marks.specs.declared.intents.To.{To}
use Rattle.st_marks.specs.declared.marks.Loose.{Loose}
use Rattle.st_marks.specs.declared.marks.Mark.{Mark}
use Rattle.st_marks.specs.declared.marks.RegMark.{RegMark}
use Rattle.st_marks.specs.declared.marks.RowMarks.{RowMarks}
use Rattle.st_marks.specs.How.{is_here, is_leave, is_stay}
use Rattle.st_puts.specs.declared.puts.Fate.{Fate}

-- who is put into a cell
abbrev pub comes_by : Mark → List (NodeId × To)
comes_by (Mark.Skip k) = []
comes_by (Mark.Gap c) = []
comes_by (Mark.Touch c n h) = if is_here h then (n, To.Cell c) ∷ [] else []
comes_by (Mark.Make c n b) = if b then (n, To.Cell c) ∷ [] else []
comes_by (Mark.Fill c n) = (n, To.Cell c) ∷ []

-- who leaves a cell: it is put nowhere, unless it is put somewhere
abbrev pub goes_by : Mark → List (NodeId × To)
goes_by (Mark.Skip k) = []
goes_by (Mark.Gap c) = []
goes_by (Mark.Touch c n h) = if is_leave h then (n, To.Nowhere) ∷ [] else []
goes_by (Mark.Make c n b) = []
goes_by (Mark.Fill c n) = []

-- one of these
abbrev pub fate_by : Fate → Mark → List (NodeId × To)
fate_by Fate.Comes y = comes_by y
fate_by Fate.Goes y = goes_by y

-- the same of a whole row
abbrev pub row_fate : Fate → RowMarks → List (NodeId × To)
row_fate w r = flat_map (fate_by w) r.marks

-- a node, if there is one, is put into a register
abbrev pub into_register : FieldId → Option NodeId → List (NodeId × To)
into_register f None = []
into_register f (Some n) = (n, To.Register f) ∷ []

-- a node, if there is one, is put nowhere
abbrev pub into_nowhere : Option NodeId → List (NodeId × To)
into_nowhere None = []
into_nowhere (Some n) = (n, To.Nowhere) ∷ []

-- the occupant that is set where it is
abbrev pub set_here : RegMark → Option NodeId
set_here r = if is_here r.how then r.held else None

-- the occupant that leaves
abbrev pub leaving : RegMark → Option NodeId
leaving r = if is_leave r.how then r.held else None

-- a node that is nowhere and is put: nowhere, unless it is put somewhere
abbrev pub loose_put : Loose → List (NodeId × To)
loose_put l = if is_stay l.how then [] else (l.node, To.Nowhere) ∷ []

-- who is put into cells and registers
abbrev pub comes_told : Change → List (NodeId × To)
comes_told C = flat_map (row_fate Fate.Comes) C.rows
    ++ flat_map (λ (r : RegMark). into_register r.field r.fill ++ into_register r.field (set_here r)) C.regs

-- who leaves a place, or is set nowhere
abbrev pub goes_told : Change → List (NodeId × To)
goes_told C = flat_map (row_fate Fate.Goes) C.rows ++ flat_map (λ (r : RegMark). into_nowhere (leaving r)) C.regs
    ++ flat_map loose_put C.loose
