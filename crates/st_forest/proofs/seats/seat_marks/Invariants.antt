use Rattle.std.proofs.Common.{take}
use Rattle.std.specs.List.{filter_map}
use Rattle.st_forest.specs.inside.Writes.{AreSeated, seat_by}
use Rattle.st_forest.proofs.seats.seat_marks.Given as goal

abbrev pub invariant-loop-mark : goal.invariant-loop-mark
invariant-loop-mark l = AreSeated (filter_map (seat_by l.comes l.row) (take l.mark-index l.marks)) l.initial.nodes l.nodes
