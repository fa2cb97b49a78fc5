-- Where the marks lead, those that are left lead from what is behind the place.
use Rattle.std.proofs.Common.{◌≡◌, ◌++◌, ◌<◌, ◌≤◌, ◌^◌, drop, length, take}
use Rattle.std.proofs.Common.{List as Seq}
use Rattle.st_marks.specs.declared.places.Slot.{Slot as AnySlot}
use Rattle.st_marks.specs.Row.{spread}
use Rattle.st_forest.specs.RowSteps.{Leads}
use Rattle.st_forest.proofs.row_step.apply_row.Given as goal

abbrev pub invariant-loop-mark : goal.invariant-loop-mark
invariant-loop-mark l = record {
  within : l.place ≤ length l.row;
  leads : (d : Seq AnySlot) → length d < 2 ^ 32 → Leads l.initial.row (spread l.marks) d → (e : Seq AnySlot) × Leads (drop l.place l.row) (spread (drop l.mark-index l.marks)) e × (d ≡ take l.place l.row ++ e);
}
