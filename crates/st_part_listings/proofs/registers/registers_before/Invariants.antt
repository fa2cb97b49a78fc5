use Rattle.std.proofs.Common.{◌≡◌, None, map, take}
use Rattle.st_part_listings.specs.Together.{goes_of, register_behind}
use Rattle.st_part_listings.proofs.registers.registers_before.Given as goal

abbrev pub invariant-loop-reg : goal.invariant-loop-reg
invariant-loop-reg l = l.regs ≡ map (register_behind (goes_of l.tables) None) (take l.reg-index l.first)
