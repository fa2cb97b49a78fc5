-- What a step leaves of a row, told as a row that is found.
use Rattle.std.specs.Prelude.{Bool, true, not, map, if◌then◌else◌}
use Rattle.st_ids.specs.declared.names.CellId.{CellId}
use Rattle.st_ids.specs.declared.names.NodeId.{NodeId}
use Rattle.st_marks.specs.declared.marks.How.TheVariants.{Stay}
use Rattle.st_marks.specs.declared.marks.Mark.{Mark}
use Rattle.st_marks.specs.declared.marks.RowMarks.{RowMarks}
use Rattle.st_marks.specs.How.{is_leave}

-- a cell with its node, or empty with its owner
abbrev pub left_cell : CellId → NodeId → Bool → Mark
left_cell c n b = if b then Mark.Touch c n Stay else Mark.Fill c n

-- what a mark leaves
abbrev pub left_mark : Mark → Mark
left_mark (Mark.Skip k) = Mark.Skip k
left_mark (Mark.Gap c) = Mark.Gap c
left_mark (Mark.Touch c n h) = left_cell c n (not (is_leave h))
left_mark (Mark.Make c n b) = left_cell c n b
left_mark (Mark.Fill c n) = left_cell c n true

-- what is left of a row
abbrev pub row_left : RowMarks → RowMarks
row_left r = record { node = r.node; marks = map left_mark r.marks }
