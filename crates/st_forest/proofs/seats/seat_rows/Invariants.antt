use Rattle.std.proofs.Common.{take}
use Rattle.st_forest.specs.inside.Writes.{AreSeated, seats_of_rows}
use Rattle.st_forest.proofs.seats.seat_rows.Given as goal

abbrev pub invariant-loop-row : goal.invariant-loop-row
invariant-loop-row l = AreSeated (seats_of_rows l.comes (take l.row-index l.rows)) l.initial.nodes l.nodes
