use Rattle.std.proofs.Common.{◌≡◌, ◌+◌, take}
use Rattle.st_chunks.specs.inside.Groups.{fulls, sizes}
use Rattle.st_chunks.proofs.group.before_full.Given as goal

abbrev pub invariant-loop-i : goal.invariant-loop-i
invariant-loop-i l = record {
  slots : l.slots ≡ sizes (take l.i l.groups);
  before : fulls (take l.i l.groups) + l.rest ≡ l.index;
}
