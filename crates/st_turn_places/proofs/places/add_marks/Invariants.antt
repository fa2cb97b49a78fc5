use Rattle.std.proofs.Common.{◌≡◌, ◌++◌, take}
use Rattle.std.specs.List.{flat_map}
use Rattle.st_turn_places.specs.inside.Sides.{placed_on}
use Rattle.st_turn_places.proofs.places.add_marks.Given as goal

abbrev pub invariant-loop-mark : goal.invariant-loop-mark
invariant-loop-mark l = l.list ≡ l.initial.list ++ flat_map (placed_on l.after l.row) (take l.mark-index l.marks)
