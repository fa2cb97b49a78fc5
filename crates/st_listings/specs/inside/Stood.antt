-- Who is found before a step, as its marks tell.
use Rattle.std.specs.Prelude.{Option, Some, None}
use Rattle.st_ids.specs.declared.names.NodeId.{NodeId}
use Rattle.st_marks.specs.declared.marks.Mark.{Mark}

-- who is found in the cell of a mark
abbrev pub finds : Mark → Option NodeId
finds (Mark.Skip k) = None
finds (Mark.Gap c) = None
finds (Mark.Touch c n h) = Some n
finds (Mark.Make c n b) = None
finds (Mark.Fill c n) = None
