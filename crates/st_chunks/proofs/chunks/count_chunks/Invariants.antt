use Rattle.std.proofs.Common.{◌≡◌, ◌≤◌, ◌+◌, length, drop, take}
use Rattle.st_chunks.specs.Slots.{all_slots, chunk_count}
use Rattle.st_chunks.specs.inside.Breaks.{breaks_from}
use Rattle.st_chunks.proofs.chunks.count_chunks.Given as goal

abbrev pub invariant-loop-block : goal.invariant-loop-block
invariant-loop-block l = record {
  breaks : l.now.count + breaks_from l.now.last (all_slots (drop l.block-index l.blocks)) ≡ chunk_count (all_slots l.blocks);
  few : l.now.count ≤ length (all_slots (take l.block-index l.blocks));
}
