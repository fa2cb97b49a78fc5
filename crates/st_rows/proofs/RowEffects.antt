-- What a change makes of a row.
use Rattle.std.proofs.Common.{◌≡◌, ◌≢◌, Bool, true, false, List, [], ◌∷◌, ◌++◌, Option, Some, None, cond, refl, sym, ap, ◌∙◌, inl, inr}
use Rattle.st_ids.specs.declared.names.CellId.{CellId}
use Rattle.st_ids.specs.declared.names.NodeId.{NodeId}
use Rattle.st_marks.specs.declared.intents.Owned.{Owned}
use Rattle.st_marks.specs.declared.intents.To.{To}
use Rattle.st_marks.specs.declared.marks.How.TheVariants.{Here, Leave}
use Rattle.st_marks.specs.declared.places.Slot.{Slot}
use Rattle.st_marks.specs.Extends.{GainsItems, no_more, item_gained, item_kept}
use Rattle.st_marks.specs.Row.{CellMark, Counted, Gap, Touch, Make, Fill, RowPart, SameCell, same_to, how, step_cell, step_row, embed_cell, embed_made, embed_cells, embed_row}
use Rattle.st_marks.specs.How.{is_here}
use Rattle.st_rows.specs.Cells.{effected_mark, effect_row}
use Rattle.st_rows.specs.Changes.{StandsIn, full_after, made_cells, carried_cells, carried_row}

-- the cells that are made stand before others
abbrev pub behind_made : (p : RowPart) (os : List Owned) {c d : List Slot} → GainsItems SameCell c d → GainsItems SameCell c (made_cells p os ++ d)
behind_made p [] g = g
behind_made p (o ∷ os) g = item_gained (behind_made p os g)

abbrev pub grown_cells : (p : RowPart) (c : List Slot) → GainsItems SameCell c (carried_cells p c)
grown_cells p [] = no_more
grown_cells p (s ∷ c) = item_kept (refl, refl) (behind_made p (p.new_cells (Some s.cell)) (grown_cells p c))

abbrev pub grown_row : (p : RowPart) (c : List Slot) → GainsItems SameCell c (carried_row p c)
grown_row p c = behind_made p (p.new_cells None) (grown_cells p c)

effect-made : (p : RowPart) (m : NodeId → Bool) (os : List Owned) {c d : List Slot} (g : GainsItems SameCell c d) (xs : List CellMark) → effect_row xs ≡ step_row m g → effect_row (embed_made p os ++ xs) ≡ step_row m (behind_made p os g)
effect-made p m [] g xs e = e
effect-made p m (o ∷ os) g xs e = ap (λ l. Make o.cell o.node (is_here (how (p.target_of o.node) (To.Cell o.cell))) ∷ l) (effect-made p m os g xs e)

effect-cell : (p : RowPart) (c : CellId) (n : NodeId) (b : Bool) → (b ≡ true → p.target_of n ≢ None → p.mentioned n ≡ true) → effected_mark (embed_cell p c n b) ≡ step_cell p.mentioned c n b (full_after (p.target_of n) c b)
effect-cell p c n true h = elim (p.mentioned n) as (λ b. p.mentioned n ≡ b → effected_mark (cond b (Touch c n (how (p.target_of n) (To.Cell c))) Counted) ≡ step_cell p.mentioned c n true (full_after (p.target_of n) c true)) [
  | true ↦ (λ e. touched (p.target_of n) e)
  | false ↦ (λ e. unput (p.target_of n) (h refl) e)
] refl
  where
    touched : (g : Option To) → p.mentioned n ≡ true → effected_mark (Touch c n (how g (To.Cell c))) ≡ step_cell p.mentioned c n true (full_after g c true)
    touched None e = rw e refl
    touched (Some to) e = elim (same_to to (To.Cell c)) as (λ b. effected_mark (Touch c n (cond b Here Leave)) ≡ step_cell p.mentioned c n true b) [ true ↦ rw e refl | false ↦ refl ]

    unput : (g : Option To) → (g ≢ None → p.mentioned n ≡ true) → p.mentioned n ≡ false → Counted ≡ step_cell p.mentioned c n true (full_after g c true)
    unput None k e = rw e refl
    unput (Some to) k e = let q : ◌≡◌ {A = Bool} false true = sym e ∙ k (λ z. cc) in cc
effect-cell p c n false h = free (p.target_of n)
  where
    free : (g : Option To) → effected_mark (cond (is_here (how g (To.Cell c))) (Fill c n) (Gap c)) ≡ step_cell p.mentioned c n false (full_after g c false)
    free None = refl
    free (Some to) = elim (same_to to (To.Cell c)) as (λ b. effected_mark (cond (is_here (cond b Here Leave)) (Fill c n) (Gap c)) ≡ step_cell p.mentioned c n false b) [ true ↦ refl | false ↦ refl ]

effect-cells : (p : RowPart) (c : List Slot) → ((n : NodeId) → StandsIn n c → p.target_of n ≢ None → p.mentioned n ≡ true) → effect_row (embed_cells p c) ≡ step_row p.mentioned (grown_cells p c)
effect-cells p [] h = refl
effect-cells p (s ∷ c) h = λ i. effect-cell p s.cell s.node s.full (λ q. h s.node (inl (refl, q))) i ∷ effect-made p p.mentioned (p.new_cells (Some s.cell)) (grown_cells p c) (embed_cells p c) (effect-cells p c (λ n w. h n (inr w))) i

-- the law of the effect
pub effect_row-embed_row : (p : RowPart) (c : List Slot) → ((n : NodeId) → StandsIn n c → p.target_of n ≢ None → p.mentioned n ≡ true) → effect_row (embed_row p c) ≡ step_row p.mentioned (grown_row p c)
effect_row-embed_row p c h = effect-made p p.mentioned (p.new_cells None) (grown_cells p c) (embed_cells p c) (effect-cells p c h)
