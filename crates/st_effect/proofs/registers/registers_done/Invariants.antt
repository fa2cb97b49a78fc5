use Rattle.std.proofs.Common.{take}
use Rattle.st_effect.specs.inside.Done.{AreRegistersDone}
use Rattle.st_effect.proofs.registers.registers_done.Given as goal

abbrev pub invariant-loop-mark : goal.invariant-loop-mark
invariant-loop-mark l = AreRegistersDone l.void l.rev l.new (take l.mark-index l.marks) l.done
