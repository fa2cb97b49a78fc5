-- Who stands where, before a step or after it, as its marks tell.
use Rattle.std.specs.Prelude.{Bool, ◌&&◌, List, map, Option, Some, None, if◌then◌else◌}
use Rattle.st_ids.specs.declared.names.NodeId.{NodeId}
use Rattle.st_marks.specs.declared.marks.Mark.{Mark}
use Rattle.st_marks.specs.declared.marks.RegStep.{RegStep}
use Rattle.st_marks.specs.declared.marks.RowMarks.{RowMarks}
use Rattle.st_marks.specs.How.{is_leave}
use Rattle.st_marks.specs.Listings.{placed_after, placed_before}

-- in the cell of a mark
abbrev pub stands_by : Bool → Mark → Option NodeId
stands_by after (Mark.Skip k) = None
stands_by after (Mark.Gap c) = None
stands_by after (Mark.Touch c n h) = if after && is_leave h then None else Some n
stands_by after (Mark.Make c n b) = if after && b then Some n else None
stands_by after (Mark.Fill c n) = if after then Some n else None

-- in a register
abbrev pub held_by : Bool → RegStep → Option NodeId
held_by after r = if after then r.after else r.before

-- in rows and registers
abbrev pub placed_at : Bool → List RowMarks → List RegStep → List NodeId
placed_at after rows regs = if after then placed_after rows (map (λ (r : RegStep). r.after) regs) else placed_before rows (map (λ (r : RegStep). r.before) regs)
