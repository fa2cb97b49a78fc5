-- Rows of a change and of a step, by the slots that a forest has of them.
use Rattle.std.specs.Prelude.{◌^◌, nat_lt, length, List, if◌then◌else◌}
use Rattle.st_marks.specs.declared.marks.RowMarks.{RowMarks}
use Rattle.st_marks.specs.declared.places.Slot.{Slot}
use Rattle.st_marks.specs.Row.{merge, spread}
use Rattle.st_listed.specs.Named.{named_change, named_step}

-- too many cells stay as they are
abbrev pub change_row : List Slot → RowMarks → RowMarks
change_row c r = if nat_lt (length (spread r.marks)) (2 ^ 32) then record { node = r.node; marks = merge (named_change c (spread r.marks)) } else r

abbrev pub step_row : List Slot → RowMarks → RowMarks
step_row d r = record { node = r.node; marks = merge (named_step d (spread r.marks)) }
