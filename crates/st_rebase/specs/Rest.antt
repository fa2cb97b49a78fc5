-- The rest of a step: from the document between, in which some nodes stand where the step puts them, to the later one.
use Rattle.std.specs.Prelude.{true, false, List, map, if◌then◌else◌}
use Rattle.st_kind.specs.Named.{Nodes}
use Rattle.st_marks.specs.declared.marks.How.TheVariants.{Stay, Here, Leave}
use Rattle.st_marks.specs.Row.{CellMark, Counted, Gap, Touch, Make, Fill}

-- what is left of a step's mark where the given nodes are there already: its cells are there, and of these nodes none moves
abbrev pub rest_mark : Nodes → CellMark → CellMark
rest_mark m Counted = Counted
rest_mark m (Gap c) = Gap c
rest_mark m (Touch c n Stay) = Touch c n Stay
rest_mark m (Touch c n Here) = Touch c n Stay
rest_mark m (Touch c n Leave) = if m n then Gap c else Touch c n Leave
rest_mark m (Make c n true) = if m n then Touch c n Stay else Fill c n
rest_mark m (Make c n false) = Gap c
rest_mark m (Fill c n) = if m n then Touch c n Stay else Fill c n

-- what is left of a step in a row
abbrev pub rest_row : Nodes → List CellMark → List CellMark
rest_row m ys = map (rest_mark m) ys
