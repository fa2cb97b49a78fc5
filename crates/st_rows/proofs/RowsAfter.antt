-- The row after a step.
use Rattle.std.proofs.Common.{◌≡◌, Bool, true, false, List, [], ◌∷◌, cond, refl, ap, ◌∙◌}
use Rattle.st_ids.specs.declared.names.NodeId.{NodeId}
use Rattle.st_marks.specs.declared.marks.How.TheVariants.{Stay}
use Rattle.st_marks.specs.declared.places.Slot.{Slot}
use Rattle.st_marks.specs.Extends.{GainsItems, no_more, item_gained, item_kept}
use Rattle.st_marks.specs.Row.{CellMark, Counted, Touch, SameCell, step_cell, step_row}
use Rattle.st_rows.specs.Views.{row_views}
use Rattle.st_rows.specs.Turns.{after_row}
use Rattle.st_rows.proofs.ViewsOfRows.{DescribeAll}

after-cell : (m : NodeId → Bool) (s t : Slot) (c : List Slot) (xs : List CellMark) → SameCell s t → after_row (s ∷ c) (step_cell m s.cell s.node s.full t.full ∷ xs) ≡ t ∷ after_row c xs
after-cell m s t c xs same = go s.full t.full ∙ (λ i. record { cell = same.0 i; node = same.1 i; full = t.full } ∷ after_row c xs)
  where
    go : (a b : Bool) → after_row (s ∷ c) (step_cell m s.cell s.node a b ∷ xs) ≡ record { cell = s.cell; node = s.node; full = b } ∷ after_row c xs
    go true true = elim (m s.node) as (λ b. after_row (s ∷ c) (cond b (Touch s.cell s.node Stay) Counted ∷ xs) ≡ record { cell = s.cell; node = s.node; full = true } ∷ after_row c xs) [ true ↦ refl | false ↦ refl ]
    go true false = refl
    go false true = refl
    go false false = refl

-- the law of the row after a step
pub after_row-step_row : (m : NodeId → Bool) {c d : List Slot} (g : GainsItems SameCell c d) → after_row c (step_row m g) ≡ d
after_row-step_row m no_more = refl
after_row-step_row m (item_gained {y = t} g) = ap (λ l. t ∷ l) (after_row-step_row m g)
after_row-step_row m (item_kept {x = s} {y = t} {xs = c} a g) = after-cell m s t c (step_row m g) a ∙ ap (λ l. t ∷ l) (after_row-step_row m g)

-- a row shows itself
pub row_itself : (c : List Slot) → DescribeAll c (row_views c)
row_itself [] = tt
row_itself (s ∷ c) = ((refl, refl, refl), row_itself c)
