use Rattle.std.proofs.Common.{◌≡◌, take}
use Rattle.st_step.proofs.schemas.copies.Given as goal

abbrev pub invariant-loop-entry : goal.invariant-loop-entry
invariant-loop-entry l = l.list ≡ take l.entry-index l.entries
