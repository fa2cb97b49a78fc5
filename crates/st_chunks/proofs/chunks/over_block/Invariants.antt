use Rattle.std.proofs.Common.{◌≡◌, ◌≤◌, ◌+◌, ◌++◌, List, drop}
use Rattle.st_marks.specs.declared.places.Slot.{Slot}
use Rattle.st_chunks.specs.inside.Breaks.{breaks_from}
use Rattle.st_chunks.proofs.chunks.over_block.Given as goal

abbrev pub invariant-loop-slot : goal.invariant-loop-slot
invariant-loop-slot l = record {
  breaks : (rest : List Slot) → l.now.count + breaks_from l.now.last (drop l.slot-index l.slots ++ rest) ≡ l.fn.before.count + breaks_from l.fn.before.last (l.slots ++ rest);
  few : l.now.count ≤ l.fn.before.count + l.slot-index;
}
