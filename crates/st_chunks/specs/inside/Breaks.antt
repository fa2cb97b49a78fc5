-- Where runs of slots begin, behind a last slot or at the row's beginning.
use Rattle.std.specs.Prelude.{ℕ, List, Option, Some, None}
use Rattle.st_marks.specs.declared.places.Slot.{Slot}
use Rattle.st_chunks.specs.Slots.{breaks_after, chunk_count}

abbrev pub breaks_from : Option Slot → List Slot → ℕ
breaks_from None c = chunk_count c
breaks_from (Some s) c = breaks_after s c
