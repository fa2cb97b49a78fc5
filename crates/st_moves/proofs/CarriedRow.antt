-- What a change says of a row of the document between.
use Rattle.std.proofs.Common.{◌≡◌, Bool, true, false, ◌&&◌, List, [], ◌∷◌, ◌++◌, Some, None, cond, if◌then◌else◌, refl, sym, ap, ◌∙◌, inl, inr, ◌⊎◌}
use Rattle.st_ids.specs.declared.names.CellId.{CellId}
use Rattle.st_ids.specs.declared.names.NodeId.{NodeId}
use Rattle.st_marks.specs.declared.intents.Owned.{Owned}
use Rattle.st_marks.specs.declared.intents.To.{To}
use Rattle.st_marks.specs.declared.marks.How.TheVariants.{Stay}
use Rattle.st_marks.specs.declared.places.Slot.{Slot}
use Rattle.st_marks.specs.Extends.{GainsItems, no_more, item_gained, item_kept}
use Rattle.st_marks.specs.Row.{CellMark, Counted, Gap, Touch, Make, Fill, RowPart, SameCell, how, step_cell, step_row, embed_cell, embed_made, embed_cells, embed_row}
use Rattle.st_marks.specs.How.{is_here}
use Rattle.st_moves.specs.Carried.{row_between, full_mark, empty_mark, read_again, carried_found, carried_piece, carry_row, AreCovered}
use Rattle.st_rows.specs.Walks.{Then}
use Rattle.st_rows.proofs.PiecesBeside.{beside-kept, beside-gained}

-- the part, with other nodes mentioned
abbrev pub mentioning : (NodeId → Bool) → RowPart → RowPart
mentioning k p = record { new_cells = p.new_cells; target_of = p.target_of; mentioned = k }

-- no group stands at a cell that is gained
abbrev pub NoGroupAtGained : RowPart → {c d : List Slot} → GainsItems SameCell c d → Type 0
NoGroupAtGained p no_more = Unit {0}
NoGroupAtGained p (item_gained {y} g) = (p.new_cells (Some y.cell) ≡ []) × NoGroupAtGained p g
NoGroupAtGained p (item_kept same g) = NoGroupAtGained p g

module _ (p : RowPart) (before named : NodeId → Bool) where
  abbrev q : RowPart
  q = mentioning before p

  carry-made : (os : List Owned) (xs ys : List CellMark) → carry_row p.target_of p.mentioned (embed_made q os ++ xs) ys ≡ embed_made p os ++ carry_row p.target_of p.mentioned xs ys
  carry-made [] xs ys = refl
  carry-made (o ∷ os) xs ys = ap (λ l. Make o.cell o.node (is_here (how (p.target_of o.node) (To.Cell o.cell))) ∷ l) (carry-made os xs ys)

  gained-found : (c : CellId) (n : NodeId) (b : Bool) → carried_piece p.target_of p.mentioned (Then (Make c n b)) ≡ embed_cell p c n (b && p.mentioned n)
  gained-found c n true = elim (p.mentioned n) as (λ z. p.mentioned n ≡ z → cond z (full_mark p.target_of p.mentioned c n) (empty_mark p.target_of c n) ≡ embed_cell p c n z) [ true ↦ (λ e. refl) | false ↦ (λ e. refl) ] refl
  gained-found c n false = refl

  -- a cell that is full before and after
  stayed : (c : CellId) (n : NodeId) → (p.mentioned n ≡ true → (before n ≡ true) ⊎ (named n ≡ true)) → carried_found p.target_of p.mentioned (embed_cell q c n true) (step_cell named c n true true) ≡ embed_cell p c n true
  stayed c n h = elim (named n) as (λ z. named n ≡ z → carried_found p.target_of p.mentioned (embed_cell q c n true) (cond z (Touch c n Stay) Counted) ≡ embed_cell p c n true) [
    | true ↦ (λ e. refl)
    | false ↦ (λ e. elim (before n) as (λ z. before n ≡ z → read_again p.target_of p.mentioned (cond z (Touch c n (how (p.target_of n) (To.Cell c))) Counted) ≡ embed_cell p c n true) [
      | true ↦ (λ f. refl)
      | false ↦ (λ f. unmentioned f e)
    ] refl)
  ] refl
    where
      neither : before n ≡ false → named n ≡ false → (before n ≡ true) ⊎ (named n ≡ true) → ⊥
      neither f e (inl k) = let r : ◌≡◌ {A = Bool} false true = sym f ∙ k in cc
      neither f e (inr k) = let r : ◌≡◌ {A = Bool} false true = sym e ∙ k in cc

      unmentioned : before n ≡ false → named n ≡ false → Counted ≡ full_mark p.target_of p.mentioned c n
      unmentioned f e = elim (p.mentioned n) as (λ z. p.mentioned n ≡ z → Counted ≡ cond z (Touch c n (how (p.target_of n) (To.Cell c))) Counted) [
        | true ↦ (λ k. absurd (neither f e (h k)))
        | false ↦ (λ k. refl)
      ] refl

  not_full : (c : CellId) (n : NodeId) → read_again p.target_of p.mentioned (embed_cell q c n false) ≡ embed_cell p c n false
  not_full c n = elim (is_here (how (p.target_of n) (To.Cell c))) as (λ z. read_again p.target_of p.mentioned (cond z (Fill c n) (Gap c)) ≡ cond z (Fill c n) (Gap c)) [ true ↦ refl | false ↦ refl ]

  same_or : (z a : Bool) → cond z a a ≡ a
  same_or true a = refl
  same_or false a = refl

  found-between : (c : CellId) (n : NodeId) (a b : Bool) → (a ≡ true → b ≡ true → p.mentioned n ≡ true → (before n ≡ true) ⊎ (named n ≡ true))
      → carried_found p.target_of p.mentioned (embed_cell q c n a) (step_cell named c n a b) ≡ embed_cell p c n (if p.mentioned n then b else a)
  found-between c n true true h = stayed c n (h refl refl) ∙ ap (embed_cell p c n) (sym (same_or (p.mentioned n) true))
  found-between c n true false h = elim (p.mentioned n) as (λ z. p.mentioned n ≡ z → cond z (empty_mark p.target_of c n) Counted ≡ embed_cell p c n (cond z false true)) [ true ↦ (λ e. refl) | false ↦ (λ e. rw e refl) ] refl
  found-between c n false true h = elim (p.mentioned n) as (λ z. p.mentioned n ≡ z → cond z (full_mark p.target_of p.mentioned c n) (embed_cell q c n false) ≡ embed_cell p c n (cond z true false)) [ true ↦ (λ e. refl) | false ↦ (λ e. refl) ] refl
  found-between c n false false h = not_full c n ∙ ap (embed_cell p c n) (sym (same_or (p.mentioned n) false))

  carry-cells : {c d : List Slot} (g : GainsItems SameCell c d) → NoGroupAtGained p g → AreCovered p.mentioned before named g
      → carry_row p.target_of p.mentioned (embed_cells q c) (step_row named g) ≡ embed_cells p (row_between p.mentioned g)
  carry-cells no_more h k = refl
  carry-cells (item_gained {y = s} {xs = c} {ys = d} g) h k =
      rw h.0 (beside-gained (carried_piece p.target_of p.mentioned) q c s.cell s.node s.full (step_row named g) ∙ (λ i. gained-found s.cell s.node s.full i ∷ carry-cells g h.1 k i))
  carry-cells (item_kept {x = s} {y = u} {xs = c} {ys = d} a g) h k =
      beside-kept (carried_piece p.target_of p.mentioned) q named s.cell s.node s.full u.full (embed_made q (p.new_cells (Some s.cell)) ++ embed_cells q c) (step_row named g)
      ∙ (λ i. found-between s.cell s.node s.full u.full k.0 i ∷ (carry-made (p.new_cells (Some s.cell)) (embed_cells q c) (step_row named g) ∙ ap (λ l. embed_made p (p.new_cells (Some s.cell)) ++ l) (carry-cells g h k.1)) i)
      ∙ (λ i. embed_cell p (a.0 i) (a.1 i) (if p.mentioned (a.1 i) then u.full else s.full) ∷ (embed_made p (p.new_cells (Some (a.0 i))) ++ embed_cells p (row_between p.mentioned g)))

  -- what the change says of the row between
  pub carry_row-embed_row : {c d : List Slot} (g : GainsItems SameCell c d) → NoGroupAtGained p g → AreCovered p.mentioned before named g
      → carry_row p.target_of p.mentioned (embed_row q c) (step_row named g) ≡ embed_row p (row_between p.mentioned g)
  carry_row-embed_row {c} g h k = carry-made (p.new_cells None) (embed_cells q c) (step_row named g) ∙ ap (λ l. embed_made p (p.new_cells None) ++ l) (carry-cells g h k)
