-- Marks that are read from the front.
use Rattle.st_marks.specs.declared.marks.Mark.{Mark}
use Rattle.st_marks.specs.Row.{CellMark, Counted, Gap, Touch, Make, Fill}

-- what a mark says of its cell; of a Skip, what it says of each
abbrev pub cell_of : Mark → CellMark
cell_of (Mark.Skip k) = Counted
cell_of (Mark.Gap c) = Gap c
cell_of (Mark.Touch c n h) = Touch c n h
cell_of (Mark.Make c n b) = Make c n b
cell_of (Mark.Fill c n) = Fill c n
