use Rattle.std.proofs.Common.{◌≡◌, ◌++◌, take}
use Rattle.std.specs.List.{flat_map}
use Rattle.st_marks.specs.declared.marks.RegMark.{RegMark}
use Rattle.st_agree.specs.inside.Places.{placed_held}
use Rattle.st_agree.proofs.places.add_registers.Given as goal

abbrev pub invariant-loop-register : goal.invariant-loop-register
invariant-loop-register l = l.list ≡ l.initial.list ++ flat_map (λ (r : RegMark). placed_held r.field r.held) (take l.register-index l.registers)
