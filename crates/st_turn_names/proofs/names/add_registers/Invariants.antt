use Rattle.std.proofs.Common.{◌≡◌, ◌++◌, take}
use Rattle.std.specs.List.{flat_map}
use Rattle.st_turn_names.specs.inside.Names.{nodes_of_register}
use Rattle.st_turn_names.proofs.names.add_registers.Given as goal

abbrev pub invariant-loop-register : goal.invariant-loop-register
invariant-loop-register l = l.names ≡ l.initial.names ++ flat_map nodes_of_register (take l.register-index l.registers)
