use Rattle.std.proofs.Common.{◌≡◌, ◌<◌, ◌+◌, take}
use Rattle.st_chunks.specs.inside.Groups.{sizes}
use Rattle.st_chunks.proofs.group.before_gap.Given as goal

abbrev pub invariant-loop-i : goal.invariant-loop-i
invariant-loop-i l = record {
  before : sizes (take l.i l.groups) + l.rest ≡ l.place;
  more : 0 < l.i → 0 < l.rest;
}
