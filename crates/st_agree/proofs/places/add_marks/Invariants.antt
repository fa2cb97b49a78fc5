use Rattle.std.proofs.Common.{◌≡◌, ◌++◌, take}
use Rattle.std.specs.List.{flat_map}
use Rattle.st_agree.specs.inside.Places.{placed_by}
use Rattle.st_agree.proofs.places.add_marks.Given as goal

abbrev pub invariant-loop-mark : goal.invariant-loop-mark
invariant-loop-mark l = l.list ≡ l.initial.list ++ flat_map (placed_by l.row) (take l.mark-index l.marks)
