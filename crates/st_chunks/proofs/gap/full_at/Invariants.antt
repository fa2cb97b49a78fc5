use Rattle.std.proofs.Common.{◌≡◌, ◌+◌, length, take}
use Rattle.st_chunks.specs.Slots.{all_slots, count_full}
use Rattle.st_chunks.proofs.gap.full_at.Given as goal

abbrev pub invariant-loop-block : goal.invariant-loop-block
invariant-loop-block l = record {
  before : l.before ≡ length (all_slots (take l.block-index l.blocks));
  full : count_full (all_slots (take l.block-index l.blocks)) + l.rest ≡ l.index;
}
