use Rattle.std.proofs.Common.{◌≡◌, ◌++◌, take}
use Rattle.std.specs.List.{flat_map}
use Rattle.st_agree.specs.inside.Rows.{register_apart}
use Rattle.st_agree.proofs.registers.push_registers.Given as goal

abbrev pub invariant-loop-register : goal.invariant-loop-register
invariant-loop-register l = l.found ≡ l.initial.found ++ flat_map (register_apart l.others) (take l.register-index l.registers)
