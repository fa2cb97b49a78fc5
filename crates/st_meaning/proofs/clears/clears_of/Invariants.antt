use Rattle.std.proofs.Common.{◌≡◌, take}
use Rattle.std.specs.List.{flat_map}
use Rattle.st_meaning.specs.inside.Made.{cleared_at}
use Rattle.st_meaning.proofs.clears.clears_of.Given as goal

abbrev pub invariant-loop-reg : goal.invariant-loop-reg
invariant-loop-reg l = l.fields ≡ flat_map cleared_at (take l.reg-index l.regs)
