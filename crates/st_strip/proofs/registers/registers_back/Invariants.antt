use Rattle.std.proofs.Common.{◌≡◌, map, take}
use Rattle.st_strip.specs.inside.Told.{register_back}
use Rattle.st_strip.proofs.registers.registers_back.Given as goal

abbrev pub invariant-loop-reg : goal.invariant-loop-reg
invariant-loop-reg l = l.list ≡ map register_back (take l.reg-index l.regs)
