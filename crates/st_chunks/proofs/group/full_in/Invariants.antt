use Rattle.std.proofs.Common.{◌≡◌, take}
use Rattle.st_chunks.specs.inside.Groups.{fulls}
use Rattle.st_chunks.proofs.group.full_in.Given as goal

abbrev pub invariant-loop-group : goal.invariant-loop-group
invariant-loop-group l = l.full ≡ fulls (take l.group-index l.groups)
