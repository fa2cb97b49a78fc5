-- What is left of a step, mark by mark.
use Rattle.std.specs.Prelude.{true, false, if◌then◌else◌}
use Rattle.st_kind.specs.Named.{Nodes}
use Rattle.st_marks.specs.declared.marks.How.TheVariants.{Stay, Here, Leave}
use Rattle.st_marks.specs.declared.marks.Mark.{Mark}

-- what is left of a mark where the given nodes are there already
abbrev pub rest_of : Nodes → Mark → Mark
rest_of m (Mark.Skip k) = Mark.Skip k
rest_of m (Mark.Gap c) = Mark.Gap c
rest_of m (Mark.Touch c n Stay) = Mark.Touch c n Stay
rest_of m (Mark.Touch c n Here) = Mark.Touch c n Stay
rest_of m (Mark.Touch c n Leave) = if m n then Mark.Gap c else Mark.Touch c n Leave
rest_of m (Mark.Make c n true) = if m n then Mark.Touch c n Stay else Mark.Fill c n
rest_of m (Mark.Make c n false) = Mark.Gap c
rest_of m (Mark.Fill c n) = if m n then Mark.Touch c n Stay else Mark.Fill c n
