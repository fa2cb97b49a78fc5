-- The way back over a row.
use Rattle.std.proofs.Common.{◌≡◌, Bool, true, false, List, ◌∷◌, cond, refl, ◌∙◌}
use Rattle.st_ids.specs.declared.names.CellId.{CellId}
use Rattle.st_ids.specs.declared.names.NodeId.{NodeId}
use Rattle.st_marks.specs.declared.marks.How.TheVariants.{Stay}
use Rattle.st_marks.specs.declared.places.Slot.{Slot}
use Rattle.st_marks.specs.Extends.{GainsItems, no_more, item_gained, item_kept}
use Rattle.st_marks.specs.Row.{Counted, Touch, Make, SameCell, step_cell, step_row}
use Rattle.st_rows.specs.Cells.{inverted_mark, invert_row}
use Rattle.st_rows.specs.Rows.{retreat_row}

abbrev pub backward : {c d : List Slot} (g : GainsItems SameCell c d) → GainsItems SameCell d (retreat_row g)
backward no_more = no_more
backward (item_gained g) = item_kept (refl, refl) (backward g)
backward (item_kept a g) = item_kept (refl, refl) (backward g)

inverted-made : (m : NodeId → Bool) (c : CellId) (n : NodeId) (b : Bool) → inverted_mark (Make c n b) ≡ step_cell m c n b false
inverted-made m c n true = refl
inverted-made m c n false = refl

inverted-step_cell : (m : NodeId → Bool) (c : CellId) (n : NodeId) (a b : Bool) → inverted_mark (step_cell m c n a b) ≡ step_cell m c n b a
inverted-step_cell m c n true true = elim (m n) as (λ b. inverted_mark (cond b (Touch c n Stay) Counted) ≡ cond b (Touch c n Stay) Counted) [ true ↦ refl | false ↦ refl ]
inverted-step_cell m c n true false = refl
inverted-step_cell m c n false true = refl
inverted-step_cell m c n false false = refl

pub invert_row-step_row : (m : NodeId → Bool) {c d : List Slot} (g : GainsItems SameCell c d) → invert_row (step_row m g) ≡ step_row m (backward g)
invert_row-step_row m no_more = refl
invert_row-step_row m (item_gained {y = t} g) = λ i. inverted-made m t.cell t.node t.full i ∷ invert_row-step_row m g i
invert_row-step_row m (item_kept {x = s} {y = t} a g) = λ i. (inverted-step_cell m s.cell s.node s.full t.full ∙ (λ j. step_cell m (a.0 j) (a.1 j) t.full s.full)) i ∷ invert_row-step_row m g i
