-- The nodes that a change's intent names, as its marks tell.
use Rattle.std.specs.Prelude.{List, [], ◌∷◌, ◌++◌, Option, Some, None, if◌then◌else◌}
use Rattle.std.specs.List.{flat_map}
use Rattle.st_ids.specs.declared.names.NodeId.{NodeId}
use Rattle.st_marks.specs.declared.changes.Change.{Change}
use Rattle.st_marks.specs.declared.marks.Loose.{Loose}
use Rattle.st_marks.specs.declared.marks.Mark.{Mark}
use Rattle.st_marks.specs.declared.marks.RegMark.{RegMark}
use Rattle.st_marks.specs.declared.marks.RowMarks.{RowMarks}
use Rattle.st_marks.specs.How.{is_here, is_stay}
use Rattle.st_marks.specs.Listings.{one_or_none}

-- who is put, of those that a mark finds
abbrev pub moved_by : Mark → Option NodeId
moved_by (Mark.Skip k) = None
moved_by (Mark.Gap c) = None
moved_by (Mark.Touch c n h) = if is_stay h then None else Some n
moved_by (Mark.Make c n b) = None
moved_by (Mark.Fill c n) = None

-- the row's node, where a mark makes a cell in the row, or says that a node is put into one
abbrev pub row_named : NodeId → Mark → Option NodeId
row_named r (Mark.Skip k) = None
row_named r (Mark.Gap c) = None
row_named r (Mark.Touch c n h) = if is_here h then Some r else None
row_named r (Mark.Make c n b) = Some r
row_named r (Mark.Fill c n) = Some r

-- both
abbrev pub names_by : NodeId → Mark → List NodeId
names_by r y = one_or_none (moved_by y) ++ one_or_none (row_named r y)

-- those of a row
abbrev pub row_names : RowMarks → List NodeId
row_names r = flat_map (names_by r.node) r.marks

-- the occupant of a register, if it is put
abbrev pub moved_held : RegMark → Option NodeId
moved_held r = if is_stay r.how then None else r.held

-- the node of a register, if that is cleared
abbrev pub node_cleared : RegMark → Option NodeId
node_cleared r = if r.clear then Some r.field.node else None

-- those of a register
abbrev pub register_names : RegMark → List NodeId
register_names r = one_or_none (moved_held r) ++ one_or_none (node_cleared r)

-- a node that is nowhere, if it is put
abbrev pub loose_names : Loose → List NodeId
loose_names l = if is_stay l.how then [] else l.node ∷ []

-- all that the marks of a change tell, and those that it needs
abbrev pub names_told : Change → List NodeId
names_told C = flat_map row_names C.rows ++ flat_map register_names C.regs ++ flat_map loose_names C.loose ++ C.need
