-- What is read off the changes of a register.
use Rattle.std.specs.Prelude.{◌&&◌, not, Option, None, if◌then◌else◌}
use Rattle.std.specs.Option.{option_or}
use Rattle.st_ids.specs.declared.names.FieldId.{FieldId}
use Rattle.st_ids.specs.declared.names.NodeId.{NodeId}
use Rattle.st_marks.specs.declared.marks.RegMark.{RegMark}
use Rattle.st_marks.specs.declared.marks.RegStep.{RegStep}
use Rattle.st_marks.specs.How.{is_here, is_leave}
use Rattle.st_register.specs.declared.values.RegChange.{RegChange}
use Rattle.st_register.specs.declared.values.RegSwap.{RegSwap}

-- the mark that lists the change in a whole one
abbrev pub as_mark : FieldId → RegChange → RegMark
as_mark f x = record { field = f; held = x.held; how = x.how; clear = x.clear; fill = x.fill }

-- the entry that lists the step in a whole one
abbrev pub as_step : FieldId → RegSwap → RegStep
as_step f s = record { field = f; before = s.before; after = s.after }

-- who is there after the change: the node that comes in; or else the occupant, unless it leaves or is evicted
abbrev pub left_by : RegChange → Option NodeId
left_by x = option_or x.fill (if is_leave x.how then None else if x.clear && not (is_here x.how) then None else x.held)
