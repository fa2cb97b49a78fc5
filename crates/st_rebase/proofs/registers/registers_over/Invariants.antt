use Rattle.std.proofs.Common.{take}
use Rattle.st_rebase.specs.inside.Over.{AreRegistersOver}
use Rattle.st_rebase.proofs.registers.registers_over.Given as goal

abbrev pub invariant-loop-mark : goal.invariant-loop-mark
invariant-loop-mark l = AreRegistersOver l.rev l.new l.step (take l.mark-index l.marks) l.over
