-- What becomes of places and cells between a document and one that extends it.
use Rattle.std.specs.Prelude.{Bool, false, true, ◌&&◌, not, map, is_some, Option, if◌then◌else◌}
use Rattle.std.specs.Bool.{beq}
use Rattle.st_ids.specs.Order.{same_cell, same_field, same_node}
use Rattle.st_ids.specs.declared.names.NodeId.{NodeId}
use Rattle.st_marks.specs.declared.intents.Owned.{Owned}
use Rattle.st_marks.specs.declared.marks.RowMarks.{RowMarks}
use Rattle.st_marks.specs.declared.places.Spot.{Spot}
use Rattle.st_marks.specs.Document.{Document, is_cell}
use Rattle.st_marks.specs.Embedding.{row_marks}
use Rattle.st_marks.specs.Row.{CellMark, Make, step_cell}

-- whether two places are the same
abbrev pub same_spot : Spot → Spot → Bool
same_spot Spot.Nowhere Spot.Nowhere = true
same_spot Spot.Nowhere (Spot.Row n d) = false
same_spot Spot.Nowhere (Spot.Register g) = false
same_spot (Spot.Row m c) Spot.Nowhere = false
same_spot (Spot.Row m c) (Spot.Row n d) = same_node m n && same_cell c d
same_spot (Spot.Row m c) (Spot.Register g) = false
same_spot (Spot.Register f) Spot.Nowhere = false
same_spot (Spot.Register f) (Spot.Row n d) = false
same_spot (Spot.Register f) (Spot.Register g) = same_field f g

-- whether a cell is full
abbrev pub is_full : Document → Owned → Bool
is_full D o = is_cell o.cell (D.place o.node)

-- what becomes of a cell of E: D has it, or it is new
abbrev pub step_mark : (NodeId → Bool) → Document → Document → Owned → CellMark
step_mark mentioned D E o = if is_some (D.row_of o.cell) then step_cell mentioned o.cell o.node (is_full D o) (is_full E o) else Make o.cell o.node (is_full E o)

-- whether a cell of E is new, or is full in one of both alone
abbrev pub differs : Document → Document → Owned → Bool
differs D E o = not (is_some (D.row_of o.cell) && beq (is_full D o) (is_full E o))

-- what is listed of a node's row
abbrev pub row_in : (NodeId → Bool) → Document → Document → NodeId → Option RowMarks
row_in mentioned D E n = row_marks n (map (step_mark mentioned D E) (E.rows n))
