-- Marks with each empty cell named as a row has it.
use Rattle.std.specs.Prelude.{List, map, if◌then◌else◌}
use Rattle.st_marks.specs.declared.places.Slot.{Slot}
use Rattle.st_marks.specs.Row.{CellMark, Counted, Gap, Touch, Make, Fill}
use Rattle.st_rows.specs.Walks.{CellPiece, Both, First, Then, in_turn}

-- a slot, as it is listed where nothing is said of it
abbrev pub slot_mark : Slot → CellMark
slot_mark s = if s.full then Counted else Gap s.cell

-- what is said of a cell, or else what the row has there
abbrev pub named_mark : CellMark → CellMark → CellMark
named_mark s Counted = s
named_mark s (Gap c) = s
named_mark s (Touch c n h) = Touch c n h
named_mark s (Make c n b) = Make c n b
named_mark s (Fill c n) = Fill c n

-- a piece of the row before and a change of it
abbrev pub change_piece : CellPiece → CellMark
change_piece (Both s x) = named_mark s x
change_piece (First s) = s
change_piece (Then x) = x

-- a piece of a step and the row after it
abbrev pub step_piece : CellPiece → CellMark
step_piece (Both x s) = named_mark s x
step_piece (First x) = x
step_piece (Then s) = s

-- a change's marks, by the row that it finds
abbrev pub named_change : List Slot → List CellMark → List CellMark
named_change c xs = map change_piece (in_turn (map slot_mark c) xs)

-- a step's marks, by the row that it leaves
abbrev pub named_step : List Slot → List CellMark → List CellMark
named_step d xs = map step_piece (in_turn xs (map slot_mark d))
