use Rattle.std.proofs.Common.{◌≡◌, ◌++◌, take}
use Rattle.std.specs.List.{flat_map}
use Rattle.st_turn_places.specs.inside.Sides.{register_placed}
use Rattle.st_turn_places.proofs.places.add_registers.Given as goal

abbrev pub invariant-loop-register : goal.invariant-loop-register
invariant-loop-register l = l.list ≡ l.initial.list ++ flat_map (register_placed l.after) (take l.register-index l.registers)
