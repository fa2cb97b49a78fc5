-- Marks that tell something.
use Rattle.std.specs.Prelude.{Bool, true, false}
use Rattle.st_marks.specs.declared.marks.Mark.{Mark}

-- whether a mark tells something
abbrev pub mark_tells : Mark → Bool
mark_tells (Mark.Skip k) = false
mark_tells (Mark.Gap c) = false
mark_tells (Mark.Touch c n h) = true
mark_tells (Mark.Make c n b) = true
mark_tells (Mark.Fill c n) = true
