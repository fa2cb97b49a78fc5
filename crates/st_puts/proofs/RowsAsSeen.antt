-- What the change of a part says of a row is so, and what a step says of the rows before and after it.
use Rattle.st_ids.specs.declared.names.NodeId.{NodeId}
use Rattle.std.proofs.Common.{Bool, List, [], ◌∷◌, Option, Some, None}
use Rattle.st_marks.specs.declared.places.Slot.{Slot}
use Rattle.st_marks.specs.Extends.{GainsItems}
use Rattle.st_marks.specs.Row.{RowPart, SameCell, embed_row, step_row}
use Rattle.st_marks.specs.Listings.{CellView, cells_after, cells_before}
use Rattle.st_puts.specs.Seen.{AreAsSeen, IfTold}
use Rattle.st_rows.proofs.ViewsOfRows as seq

told : {A : Type 0} (o : Option A) (a : A) → seq.IfTold o a → IfTold o a
told None a h = tt
told (Some b) a h = h

as-seen : (c : List Slot) (xs : List CellView) → seq.DescribeAll c xs → AreAsSeen c xs
as-seen [] [] h = tt
as-seen [] (x ∷ xs) h = absurd h
as-seen (s ∷ c) [] h = absurd h
as-seen (s ∷ c) (x ∷ xs) h = ((h.0.0, told x.cell s.cell h.0.1, told x.node s.node h.0.2), as-seen c xs h.1)

pub change_sees : (p : RowPart) (c : List Slot) → AreAsSeen c (cells_before (embed_row p c))
change_sees p c = as-seen c (cells_before (embed_row p c)) (seq.change_finds p c)

pub step_sees_before : (m : NodeId → Bool) {c d : List Slot} (g : GainsItems SameCell c d) → AreAsSeen c (cells_before (step_row m g))
step_sees_before m {c} g = as-seen c (cells_before (step_row m g)) (seq.step_finds m g)

pub step_sees_after : (m : NodeId → Bool) {c d : List Slot} (g : GainsItems SameCell c d) → AreAsSeen d (cells_after (step_row m g))
step_sees_after m {d = d} g = as-seen d (cells_after (step_row m g)) (seq.step_leaves m g)
