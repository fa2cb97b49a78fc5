-- What a listing of a step tells of the earlier document: which of its nodes differ, and where nodes stand there.
use Rattle.std.specs.Prelude.{Bool, true, false, List, [], ◌++◌, Option, Some, None, if◌then◌else◌}
use Rattle.std.specs.List.{flat_map, list_any}
use Rattle.st_ids.specs.Order.{same_node}
use Rattle.st_ids.specs.declared.names.NodeId.{NodeId}
use Rattle.st_kind.specs.Named.{Nodes}
use Rattle.st_marks.specs.declared.marks.Loose.{Loose}
use Rattle.st_marks.specs.declared.marks.Mark.{Mark}
use Rattle.st_marks.specs.declared.marks.RegStep.{RegStep}
use Rattle.st_marks.specs.declared.marks.RowMarks.{RowMarks}
use Rattle.st_marks.specs.declared.places.Spot.{Spot}
use Rattle.st_marks.specs.declared.steps.Step.{Step}
use Rattle.st_marks.specs.How.{is_leave}
use Rattle.st_marks.specs.Intent.{same_option}
use Rattle.st_marks.specs.Listings.{one_or_none}
use Rattle.st_puts.specs.inside.Spots.{held_spot, stood_by}

-- ## Which nodes differ

-- who leaves a cell
abbrev pub leaver : Mark → Option NodeId
leaver (Mark.Skip k) = None
leaver (Mark.Gap c) = None
leaver (Mark.Touch c n h) = if is_leave h then Some n else None
leaver (Mark.Make c n b) = None
leaver (Mark.Fill c n) = None

-- whether a mark says that its row differs: a cell is made, filled or left
abbrev pub differs : Mark → Bool
differs (Mark.Skip k) = false
differs (Mark.Gap c) = false
differs (Mark.Touch c n h) = is_leave h
differs (Mark.Make c n b) = true
differs (Mark.Fill c n) = true

-- a node, unless it is one of a set
abbrev pub unless_in : Nodes → NodeId → Option NodeId
unless_in new n = if new n then None else Some n

-- the node of a row that differs, unless it is new
abbrev pub row_changed : Nodes → RowMarks → Option NodeId
row_changed new r = if list_any differs r.marks then unless_in new r.node else None

-- those who leave a row, and its node
abbrev pub changes_by_row : Nodes → RowMarks → List NodeId
changes_by_row new r = flat_map (λ (m : Mark). one_or_none (leaver m)) r.marks ++ one_or_none (row_changed new r)

-- the occupant before of a register that differs, and its node, unless that is new
abbrev pub changes_by_register : Nodes → RegStep → List NodeId
changes_by_register new r = if same_option same_node r.before r.after then [] else one_or_none r.before ++ one_or_none (unless_in new r.field.node)

-- a node that was nowhere and is put, unless it is new
abbrev pub loose_leaver : Nodes → Loose → Option NodeId
loose_leaver new l = if is_leave l.how then unless_in new l.node else None

-- all nodes that differ, as the listing tells
abbrev pub changes_told : Nodes → Step → List NodeId
changes_told new G =
    flat_map (changes_by_row new) G.rows ++ flat_map (changes_by_register new) G.regs ++ flat_map (λ (l : Loose). one_or_none (loose_leaver new l)) G.loose

-- ## Where nodes stand

-- who stands in a row's cells
abbrev pub stood_in_row : RowMarks → List (NodeId × Spot)
stood_in_row r = flat_map (stood_by r.node) r.marks

-- who is in a register
abbrev pub stood_in_register : RegStep → List (NodeId × Spot)
stood_in_register r = held_spot r.field r.before

-- who stands where, as the listing tells
abbrev pub stood_before : Step → List (NodeId × Spot)
stood_before G = flat_map stood_in_row G.rows ++ flat_map stood_in_register G.regs
