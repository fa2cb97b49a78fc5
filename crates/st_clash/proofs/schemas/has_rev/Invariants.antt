use Rattle.std.proofs.Common.{◌≡◌, false, take}
use Rattle.st_clash.specs.inside.Schemas.{has_rev}
use Rattle.st_clash.proofs.schemas.has_rev.Given as goal

abbrev pub invariant-loop-entry : goal.invariant-loop-entry
invariant-loop-entry l = has_rev (take l.entry-index l.entries) l.rev ≡ false
