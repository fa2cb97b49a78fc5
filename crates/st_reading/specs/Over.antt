-- What a change says of a row after a step, read off what the two say of it before, with empty cells named or counted. It is
-- one table: nodes that move, come in or are mentioned anew are told by where the change puts nodes and which it mentions then.
use Rattle.std.specs.Prelude.{◌≡◌, Bool, true, List, Option, map, if◌then◌else◌, ◌⊎◌}
use Rattle.st_ids.specs.declared.names.CellId.{CellId}
use Rattle.st_ids.specs.declared.names.NodeId.{NodeId}
use Rattle.st_kind.specs.Named.{Nodes}
use Rattle.st_marks.specs.declared.intents.To.{To}
use Rattle.st_marks.specs.declared.marks.How.TheVariants.{Leave}
use Rattle.st_marks.specs.declared.places.Slot.{Slot}
use Rattle.st_marks.specs.Extends.{GainsItems, no_more, item_gained, item_kept}
use Rattle.st_marks.specs.How.{is_here}
use Rattle.st_marks.specs.Row.{CellMark, Counted, Gap, Touch, Make, Fill, RowPart, SameCell, how}
use Rattle.st_rows.specs.Walks.{CellPiece, Both, First, Then, beside}
use Rattle.st_read_laws.specs.Reading.{read}

-- a full cell
abbrev pub full_cell : (NodeId → Option To) → Nodes → CellId → NodeId → CellMark
full_cell target_of m c n = if m n then Touch c n (how (target_of n) (To.Cell c)) else Counted

-- an empty cell
abbrev pub empty_cell : Bool → (NodeId → Option To) → CellId → NodeId → CellMark
empty_cell l target_of c n = if is_here (how (target_of n) (To.Cell c)) then Fill c n else read l (Gap c)

-- a cell that the step leaves as it is
abbrev pub read_cell : Bool → (NodeId → Option To) → Nodes → CellMark → CellMark
read_cell l target_of m Counted = Counted
read_cell l target_of m (Gap c) = read l (Gap c)
read_cell l target_of m (Touch c n h) = full_cell target_of m c n
read_cell l target_of m (Make c n b) = Counted
read_cell l target_of m (Fill c n) = Fill c n

-- a cell that both find
abbrev pub found_cell : Bool → (NodeId → Option To) → Nodes → CellMark → CellMark → CellMark
found_cell l target_of m x Counted = read_cell l target_of m x
found_cell l target_of m x (Gap c) = read_cell l target_of m x
found_cell l target_of m x (Touch c n Leave) = empty_cell l target_of c n
found_cell l target_of m x (Touch c n h) = full_cell target_of m c n
found_cell l target_of m x (Make c n b) = read_cell l target_of m x
found_cell l target_of m x (Fill c n) = full_cell target_of m c n

-- a piece of the change and the step, side by side
abbrev pub over_piece : Bool → (NodeId → Option To) → Nodes → CellPiece → CellMark
over_piece l target_of m (Both x y) = found_cell l target_of m x y
over_piece l target_of m (First x) = read l x
over_piece l target_of m (Then (Make c n b)) = if b then full_cell target_of m c n else empty_cell l target_of c n
over_piece l target_of m (Then y) = Counted

-- the change's row after the step
abbrev pub over_row : Bool → (NodeId → Option To) → Nodes → List CellMark → List CellMark → List CellMark
over_row l target_of m xs ys = map (over_piece l target_of m) (beside xs ys)

-- the part, with other nodes mentioned
abbrev pub mentioning : Nodes → RowPart → RowPart
mentioning k p = record { new_cells = p.new_cells; target_of = p.target_of; mentioned = k }

-- what is mentioned later and stands in a cell before and after was mentioned before, or the step names it
abbrev pub AreCovered : Nodes → Nodes → Nodes → {c d : List Slot} → GainsItems SameCell c d → Type 0
AreCovered m before named no_more = Unit {0}
AreCovered m before named (item_gained g) = AreCovered m before named g
AreCovered m before named (item_kept {x} {y} same g) = (x.full ≡ true → y.full ≡ true → m x.node ≡ true → (before x.node ≡ true) ⊎ (named x.node ≡ true)) × AreCovered m before named g
