use Rattle.std.proofs.Common.{◌≡◌, length, take}
use Rattle.st_chunks.specs.Slots.{all_slots, count_full}
use Rattle.st_chunks.proofs.group.count_of.Given as goal

abbrev pub invariant-loop-block : goal.invariant-loop-block
invariant-loop-block l = record {
  slots : l.slots ≡ length (all_slots (take l.block-index l.blocks));
  full : l.full ≡ count_full (all_slots (take l.block-index l.blocks));
}
