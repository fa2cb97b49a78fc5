use Rattle.std.proofs.Common.{◌≡◌, false, take}
use Rattle.std.specs.List.{flat_map, list_any}
use Rattle.st_clash.specs.inside.Made.{cell_of_mark, is_of}
use Rattle.st_clash.proofs.revisions.marks_name.Given as goal

abbrev pub invariant-loop-mark : goal.invariant-loop-mark
invariant-loop-mark l = list_any (is_of l.rev) (flat_map cell_of_mark (take l.mark-index l.marks)) ≡ false
