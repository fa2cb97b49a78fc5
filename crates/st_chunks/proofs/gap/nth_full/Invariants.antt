use Rattle.std.proofs.Common.{◌≡◌, ◌≤◌, take}
use Rattle.st_chunks.specs.Slots.{count_full}
use Rattle.st_chunks.proofs.gap.nth_full.Given as goal

abbrev pub invariant-loop-i : goal.invariant-loop-i
invariant-loop-i l = record {
  counted : l.before ≡ count_full (take l.i l.slots);
  within : l.before ≤ l.index;
}
