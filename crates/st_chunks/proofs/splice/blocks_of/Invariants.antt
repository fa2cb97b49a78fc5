use Rattle.std.proofs.Common.{◌≡◌, ◌++◌, ◌≤◌, length}
use Rattle.st_chunks.specs.Slots.{all_slots}
use Rattle.st_chunks.proofs.splice.blocks_of.Given as goal

abbrev pub invariant-loop-rest : goal.invariant-loop-rest
invariant-loop-rest l = record {
  whole : all_slots l.blocks.items ++ l.rest ≡ l.slots;
  short : length l.rest ≤ length l.slots;
}

abbrev pub decreases-loop-rest : goal.decreases-loop-rest
decreases-loop-rest l = length l.rest
