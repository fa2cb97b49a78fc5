use Rattle.std.proofs.Common.{take}
use Rattle.std.specs.List.{filter_map}
use Rattle.st_forest.specs.inside.Writes.{AreSeated, seat_in}
use Rattle.st_forest.proofs.seats.seat_registers.Given as goal

abbrev pub invariant-loop-register : goal.invariant-loop-register
invariant-loop-register l = AreSeated (filter_map (seat_in l.comes) (take l.register-index l.registers)) l.initial.nodes l.nodes
