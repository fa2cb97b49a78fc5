-- What a change says of a row after a step, with empty cells counted.
use Rattle.std.proofs.Common.{◌≡◌, Bool, true, false, List, [], ◌∷◌, ◌++◌, map, Option, Some, None, cond, refl, sym, ap, ◌∙◌, inl, inr, ◌⊎◌}
use Rattle.std.proofs.lemmas.List.{map-append}
use Rattle.st_ids.specs.declared.names.CellId.{CellId}
use Rattle.st_ids.specs.declared.names.NodeId.{NodeId}
use Rattle.st_kind.specs.Named.{Nodes}
use Rattle.st_marks.specs.declared.intents.Owned.{Owned}
use Rattle.st_marks.specs.declared.intents.To.{To}
use Rattle.st_marks.specs.declared.marks.How.TheVariants.{Stay, Here, Leave}
use Rattle.st_marks.specs.declared.places.Slot.{Slot}
use Rattle.st_marks.specs.Extends.{GainsItems, no_more, item_gained, item_kept}
use Rattle.st_marks.specs.How.{is_here}
use Rattle.st_marks.specs.Row.{CellMark, Counted, Gap, Touch, Make, Fill, RowPart, SameCell, how, step_cell, step_row, embed_cell, embed_made, embed_cells, embed_row}
use Rattle.st_rows.specs.Changes.{NoGroupAtGained}
use Rattle.st_rows.specs.Walks.{Both, First, Then}
use Rattle.st_rows.proofs.PiecesBeside.{beside-kept, beside-gained}
use Rattle.st_reading.specs.Over.{AreCovered, empty_cell, found_cell, full_cell, mentioning, over_piece, over_row, read_cell}
use Rattle.st_reading.specs.Pieces.{AreAlike, IsBlind}
use Rattle.st_read_laws.specs.Reading.{read}
use Rattle.st_read_laws.proofs.Readings.{read-twice}
use Rattle.st_reading.proofs.CountedPieces.{alike_beside}

-- ## The table sees no more than is read

gap-again : (l : Bool) (t : NodeId → Option To) (m : Nodes) (c : CellId) → read_cell l t m (read l (Gap c)) ≡ read l (Gap c)
gap-again true t m c = refl
gap-again false t m c = refl

read-again : (l : Bool) (t : NodeId → Option To) (m : Nodes) (x : CellMark) → read_cell l t m (read l x) ≡ read_cell l t m x
read-again l t m Counted = refl
read-again l t m (Gap c) = gap-again l t m c
read-again l t m (Touch c n h) = refl
read-again l t m (Make c n b) = refl
read-again l t m (Fill c n) = refl

gap-found : (l : Bool) (t : NodeId → Option To) (m : Nodes) (x : CellMark) (c : CellId) → found_cell l t m x (read l (Gap c)) ≡ read_cell l t m x
gap-found true t m x c = refl
gap-found false t m x c = refl

found-again : (l : Bool) (t : NodeId → Option To) (m : Nodes) (x y : CellMark) → found_cell l t m (read l x) (read l y) ≡ found_cell l t m x y
found-again l t m x Counted = read-again l t m x
found-again l t m x (Gap c) = gap-found l t m (read l x) c ∙ read-again l t m x
found-again l t m x (Touch c n Stay) = refl
found-again l t m x (Touch c n Here) = refl
found-again l t m x (Touch c n Leave) = refl
found-again l t m x (Make c n b) = read-again l t m x
found-again l t m x (Fill c n) = refl

gap-then : (l : Bool) (t : NodeId → Option To) (m : Nodes) (c : CellId) → over_piece l t m (Then (read l (Gap c))) ≡ Counted
gap-then true t m c = refl
gap-then false t m c = refl

pub over_blind : (l : Bool) (t : NodeId → Option To) (m : Nodes) → IsBlind l (over_piece l t m)
over_blind l t m (Both x y) = found-again l t m x y
over_blind l t m (First x) = read-twice l x
over_blind l t m (Then Counted) = refl
over_blind l t m (Then (Gap c)) = gap-then l t m c
over_blind l t m (Then (Touch c n h)) = refl
over_blind l t m (Then (Make c n b)) = refl
over_blind l t m (Then (Fill c n)) = refl

-- ## Cell by cell

module _ (l : Bool) (p : RowPart) (before named : Nodes) where
  abbrev q : RowPart
  q = mentioning before p

  full-found : (c : CellId) (n : NodeId) → full_cell p.target_of p.mentioned c n ≡ read l (embed_cell p c n true)
  full-found c n = go (p.mentioned n)
    where
      go : (b : Bool) → cond b (Touch c n (how (p.target_of n) (To.Cell c))) Counted ≡ read l (cond b (Touch c n (how (p.target_of n) (To.Cell c))) Counted)
      go true = refl
      go false = refl

  empty-found : (c : CellId) (n : NodeId) → empty_cell l p.target_of c n ≡ read l (embed_cell p c n false)
  empty-found c n = go (is_here (how (p.target_of n) (To.Cell c)))
    where
      go : (b : Bool) → cond b (Fill c n) (read l (Gap c)) ≡ read l (cond b (Fill c n) (Gap c))
      go true = refl
      go false = refl

  -- a cell that is full before and after
  stayed : (c : CellId) (n : NodeId) → (p.mentioned n ≡ true → (before n ≡ true) ⊎ (named n ≡ true)) → found_cell l p.target_of p.mentioned (embed_cell q c n true) (step_cell named c n true true) ≡ full_cell p.target_of p.mentioned c n
  stayed c n h = elim (named n) as (λ z. named n ≡ z → found_cell l p.target_of p.mentioned (embed_cell q c n true) (cond z (Touch c n Stay) Counted) ≡ full_cell p.target_of p.mentioned c n) [
    | true ↦ (λ e. refl)
    | false ↦ (λ e. elim (before n) as (λ z. before n ≡ z → read_cell l p.target_of p.mentioned (cond z (Touch c n (how (p.target_of n) (To.Cell c))) Counted) ≡ full_cell p.target_of p.mentioned c n) [
      | true ↦ (λ f. refl)
      | false ↦ (λ f. unmentioned f e)
    ] refl)
  ] refl
    where
      neither : before n ≡ false → named n ≡ false → (before n ≡ true) ⊎ (named n ≡ true) → ⊥
      neither f e (inl k) = let r : ◌≡◌ {A = Bool} false true = sym f ∙ k in cc
      neither f e (inr k) = let r : ◌≡◌ {A = Bool} false true = sym e ∙ k in cc

      unmentioned : before n ≡ false → named n ≡ false → Counted ≡ full_cell p.target_of p.mentioned c n
      unmentioned f e = elim (p.mentioned n) as (λ z. p.mentioned n ≡ z → Counted ≡ cond z (Touch c n (how (p.target_of n) (To.Cell c))) Counted) [
        | true ↦ (λ k. absurd (neither f e (h k)))
        | false ↦ (λ k. refl)
      ] refl

  -- a cell that is empty before and after
  unfilled : (c : CellId) (n : NodeId) → read_cell l p.target_of p.mentioned (embed_cell q c n false) ≡ empty_cell l p.target_of c n
  unfilled c n = go (is_here (how (p.target_of n) (To.Cell c)))
    where
      go : (b : Bool) → read_cell l p.target_of p.mentioned (cond b (Fill c n) (Gap c)) ≡ cond b (Fill c n) (read l (Gap c))
      go true = refl
      go false = refl

  found-over : (c : CellId) (n : NodeId) (a b : Bool) → (a ≡ true → b ≡ true → p.mentioned n ≡ true → (before n ≡ true) ⊎ (named n ≡ true))
      → found_cell l p.target_of p.mentioned (embed_cell q c n a) (step_cell named c n a b) ≡ read l (embed_cell p c n b)
  found-over c n true true h = stayed c n (h refl refl) ∙ full-found c n
  found-over c n true false h = empty-found c n
  found-over c n false true h = full-found c n
  found-over c n false false h = unfilled c n ∙ empty-found c n

  gained-over : (c : CellId) (n : NodeId) (b : Bool) → over_piece l p.target_of p.mentioned (Then (Make c n b)) ≡ read l (embed_cell p c n b)
  gained-over c n true = full-found c n
  gained-over c n false = empty-found c n

  over-made : (os : List Owned) (xs ys : List CellMark) → over_row l p.target_of p.mentioned (embed_made q os ++ xs) ys ≡ map (read l) (embed_made p os) ++ over_row l p.target_of p.mentioned xs ys
  over-made [] xs ys = refl
  over-made (o ∷ os) xs ys = ap (λ z. Make o.cell o.node (is_here (how (p.target_of o.node) (To.Cell o.cell))) ∷ z) (over-made os xs ys)

  over-cells : {c d : List Slot} (g : GainsItems SameCell c d) → NoGroupAtGained p g → AreCovered p.mentioned before named g
      → over_row l p.target_of p.mentioned (embed_cells q c) (step_row named g) ≡ map (read l) (embed_cells p d)
  over-cells no_more h k = refl
  over-cells (item_gained {y = s} {xs = c} {ys = d} g) h k =
      rw h.0 (beside-gained (over_piece l p.target_of p.mentioned) q c s.cell s.node s.full (step_row named g) ∙ (λ i. gained-over s.cell s.node s.full i ∷ over-cells g h.1 k i))
  over-cells (item_kept {x = s} {y = u} {xs = c} {ys = d} a g) h k =
      beside-kept (over_piece l p.target_of p.mentioned) q named s.cell s.node s.full u.full (embed_made q (p.new_cells (Some s.cell)) ++ embed_cells q c) (step_row named g)
      ∙ (λ i. found-over s.cell s.node s.full u.full k.0 i ∷ (over-made (p.new_cells (Some s.cell)) (embed_cells q c) (step_row named g) ∙ ap (λ z. map (read l) (embed_made p (p.new_cells (Some s.cell))) ++ z) (over-cells g h k.1)
      ∙ sym (map-append (read l) (embed_made p (p.new_cells (Some s.cell))) (embed_cells p d))) i)
      ∙ (λ i. read l (embed_cell p (a.0 i) (a.1 i) u.full) ∷ map (read l) (embed_made p (p.new_cells (Some (a.0 i))) ++ embed_cells p d))

  -- ## The row

  pub row_over : {c d : List Slot} (g : GainsItems SameCell c d) → NoGroupAtGained p g → AreCovered p.mentioned before named g
      → over_row l p.target_of p.mentioned (embed_row q c) (step_row named g) ≡ map (read l) (embed_row p d)
  row_over {c} {d} g h k =
      over-made (p.new_cells None) (embed_cells q c) (step_row named g) ∙ ap (λ z. map (read l) (embed_made p (p.new_cells None)) ++ z) (over-cells g h k)
      ∙ sym (map-append (read l) (embed_made p (p.new_cells None)) (embed_cells p d))

  pub shown_row_over : {c d : List Slot} (g : GainsItems SameCell c d) (xs ys : List CellMark) → NoGroupAtGained p g → AreCovered p.mentioned before named g
      → AreAlike l xs (embed_row q c) → AreAlike l ys (step_row named g)
      → over_row l p.target_of p.mentioned xs ys ≡ map (read l) (embed_row p d)
  shown_row_over {c} g xs ys h k a b = alike_beside l (over_piece l p.target_of p.mentioned) xs ys (embed_row q c) (step_row named g) (over_blind l p.target_of p.mentioned) a b ∙ row_over g h k
