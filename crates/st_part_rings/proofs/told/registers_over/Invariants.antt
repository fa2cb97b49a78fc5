use Rattle.std.proofs.Common.{◌≡◌, map, take}
use Rattle.st_part_rings.specs.Told.{register_over}
use Rattle.st_part_rings.proofs.told.registers_over.Given as goal

abbrev pub invariant-loop-mark : goal.invariant-loop-mark
invariant-loop-mark l = l.list ≡ map register_over (take l.mark-index l.marks)
