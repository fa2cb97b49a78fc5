-- Rows of documents that one of two doesn't list: that side tells nothing of them.
use Rattle.std.proofs.Common.{◌≡◌, Bool, true, false, cond, ◌||◌, List, [], ◌∷◌, ◌++◌, Option, Some, None, is_some, refl, sym, ap, ◌∙◌}
use Rattle.std.specs.List.{list_any}
use Rattle.st_ids.specs.declared.names.CellId.{CellId}
use Rattle.st_ids.specs.declared.names.NodeId.{NodeId}
use Rattle.st_marks.specs.declared.intents.Owned.{Owned}
use Rattle.st_marks.specs.declared.intents.To.{To}
use Rattle.st_marks.specs.declared.marks.RowMarks.{RowMarks}
use Rattle.st_marks.specs.declared.places.Slot.{Slot}
use Rattle.st_marks.specs.Embedding.{row_marks, tells}
use Rattle.st_marks.specs.Extends.{GainsItems, no_more, item_gained, item_kept}
use Rattle.st_marks.specs.How.{is_here}
use Rattle.st_marks.specs.Listings.{cells_before}
use Rattle.st_marks.specs.Row.{CellMark, Counted, Gap, Touch, Make, Fill, RowPart, SameCell, embed_cell, embed_cells, embed_made, embed_row, how, merge, step_cell, step_row}
use Rattle.st_rows.specs.Differences.{first_difference}
use Rattle.st_rows.proofs.KindLaws.{spread-merge}
use Rattle.st_rows.proofs.ViewsOfRows.{change_finds, no_difference, step_finds}
use Rattle.st_moves.specs.Carried.{carry_row}
use Rattle.st_moves.specs.inside.Rows.{bare, listed_row, row_both, row_listed}

or_parts : (a b : Bool) → (a || b) ≡ false → (a ≡ false) × (b ≡ false)
or_parts true b e = cc
or_parts false b e = (refl, e)

-- ## A change that tells nothing of a row

module _ (q : RowPart) (named : NodeId → Bool) where
  bare-step : (c : CellId) (n : NodeId) (a b : Bool) (ys : List CellMark) → bare (step_cell named c n a b ∷ ys) ≡ (cond a Counted (Gap c) ∷ bare ys)
  bare-step c n true true ys = elim (named n) as (λ z. bare (cond z (Touch c n Rattle.st_marks.specs.declared.marks.How.TheVariants.Stay) Counted ∷ ys) ≡ Counted ∷ bare ys) [ true ↦ refl | false ↦ refl ]
  bare-step c n true false ys = refl
  bare-step c n false true ys = refl
  bare-step c n false false ys = refl

  silent-cell : (c : CellId) (n : NodeId) (a : Bool) → tells (embed_cell q c n a) ≡ false → embed_cell q c n a ≡ cond a Counted (Gap c)
  silent-cell c n true e = go (q.mentioned n) e
    where
      go : (z : Bool) → tells (cond z (Touch c n (how (q.target_of n) (To.Cell c))) Counted) ≡ false → cond z (Touch c n (how (q.target_of n) (To.Cell c))) Counted ≡ Counted
      go true e = cc
      go false e = refl
  silent-cell c n false e = go (is_here (how (q.target_of n) (To.Cell c))) e
    where
      go : (z : Bool) → tells (cond z (Fill c n) (Gap c)) ≡ false → cond z (Fill c n) (Gap c) ≡ Gap c
      go true e = cc
      go false e = refl

  silent-made : (os : List Owned) (ms : List CellMark) → list_any tells (embed_made q os ++ ms) ≡ false → (embed_made q os ++ ms ≡ ms) × (list_any tells ms ≡ false)
  silent-made [] ms e = (refl, e)
  silent-made (o ∷ os) ms e = cc

  silent-cells : {c d : List Slot} (g : GainsItems SameCell c d) → list_any tells (embed_cells q c) ≡ false → embed_cells q c ≡ bare (step_row named g)
  silent-cells no_more e = refl
  silent-cells (item_gained g) e = silent-cells g e
  silent-cells (item_kept {x = s} {y = t} {xs = c} same g) e =
      let p = or_parts (tells (embed_cell q s.cell s.node s.full)) (list_any tells (embed_made q (q.new_cells (Some s.cell)) ++ embed_cells q c)) e in
      let m = silent-made (q.new_cells (Some s.cell)) (embed_cells q c) p.1 in
      (λ i. silent-cell s.cell s.node s.full p.0 i ∷ (m.0 ∙ silent-cells g m.1) i) ∙ sym (bare-step s.cell s.node s.full t.full (step_row named g))

  pub silent-change : {c d : List Slot} (g : GainsItems SameCell c d) → list_any tells (embed_row q c) ≡ false → embed_row q c ≡ bare (step_row named g)
  silent-change {c} g e = let m = silent-made (q.new_cells None) (embed_cells q c) e in m.0 ∙ silent-cells g m.1

  -- ## A step that tells nothing of a row

  bare-made : (os : List Owned) (ms : List CellMark) → bare (embed_made q os ++ ms) ≡ bare ms
  bare-made [] ms = refl
  bare-made (o ∷ os) ms = bare-made os ms

  bare-cell : (c : CellId) (n : NodeId) (a : Bool) (ms : List CellMark) → bare (embed_cell q c n a ∷ ms) ≡ (cond a Counted (Gap c) ∷ bare ms)
  bare-cell c n true ms = elim (q.mentioned n) as (λ z. bare (cond z (Touch c n (how (q.target_of n) (To.Cell c))) Counted ∷ ms) ≡ Counted ∷ bare ms) [ true ↦ refl | false ↦ refl ]
  bare-cell c n false ms = elim (is_here (how (q.target_of n) (To.Cell c))) as (λ z. bare (cond z (Fill c n) (Gap c) ∷ ms) ≡ Gap c ∷ bare ms) [ true ↦ refl | false ↦ refl ]

  silent-met : (c : CellId) (n : NodeId) (a b : Bool) → tells (step_cell named c n a b) ≡ false → step_cell named c n a b ≡ cond a Counted (Gap c)
  silent-met c n true true e = go (named n) e
    where
      go : (z : Bool) → tells (cond z (Touch c n Rattle.st_marks.specs.declared.marks.How.TheVariants.Stay) Counted) ≡ false → cond z (Touch c n Rattle.st_marks.specs.declared.marks.How.TheVariants.Stay) Counted ≡ Counted
      go true e = cc
      go false e = refl
  silent-met c n true false e = cc
  silent-met c n false true e = cc
  silent-met c n false false e = refl

  silent-steps : {c d : List Slot} (g : GainsItems SameCell c d) → list_any tells (step_row named g) ≡ false → step_row named g ≡ bare (embed_cells q c)
  silent-steps no_more e = refl
  silent-steps (item_gained g) e = cc
  silent-steps (item_kept {x = s} {y = t} {xs = c} same g) e =
      let p = or_parts (tells (step_cell named s.cell s.node s.full t.full)) (list_any tells (step_row named g)) e in
      (λ i. silent-met s.cell s.node s.full t.full p.0 i ∷ (silent-steps g p.1 ∙ sym (bare-made (q.new_cells (Some s.cell)) (embed_cells q c))) i)
      ∙ sym (bare-cell s.cell s.node s.full (embed_made q (q.new_cells (Some s.cell)) ++ embed_cells q c))

  pub silent-step : {c d : List Slot} (g : GainsItems SameCell c d) → list_any tells (step_row named g) ≡ false → step_row named g ≡ bare (embed_row q c)
  silent-step {c} g e = silent-steps g e ∙ sym (bare-made (q.new_cells None) (embed_cells q c))

-- ## Both tell nothing

module _ (target_of : NodeId → Option To) (m : NodeId → Bool) where
  silent-carry : (xs ys : List CellMark) → list_any tells xs ≡ false → list_any tells ys ≡ false → list_any tells (carry_row target_of m xs ys) ≡ false
  silent-carry [] [] e f = refl
  silent-carry [] (Counted ∷ ys) e f = refl
  silent-carry [] (Gap c ∷ ys) e f = refl
  silent-carry [] (Touch c n h ∷ ys) e f = cc
  silent-carry [] (Make c n b ∷ ys) e f = cc
  silent-carry [] (Fill c n ∷ ys) e f = cc
  silent-carry (Touch c n h ∷ xs) ys e f = cc
  silent-carry (Make c n b ∷ xs) ys e f = cc
  silent-carry (Fill c n ∷ xs) ys e f = cc
  silent-carry (Counted ∷ xs) [] e f = refl
  silent-carry (Counted ∷ xs) (Counted ∷ ys) e f = silent-carry xs ys e f
  silent-carry (Counted ∷ xs) (Gap c ∷ ys) e f = silent-carry xs ys e f
  silent-carry (Counted ∷ xs) (Touch c n h ∷ ys) e f = cc
  silent-carry (Counted ∷ xs) (Make c n b ∷ ys) e f = cc
  silent-carry (Counted ∷ xs) (Fill c n ∷ ys) e f = cc
  silent-carry (Gap d ∷ xs) [] e f = refl
  silent-carry (Gap d ∷ xs) (Counted ∷ ys) e f = silent-carry xs ys e f
  silent-carry (Gap d ∷ xs) (Gap c ∷ ys) e f = silent-carry xs ys e f
  silent-carry (Gap d ∷ xs) (Touch c n h ∷ ys) e f = cc
  silent-carry (Gap d ∷ xs) (Make c n b ∷ ys) e f = cc
  silent-carry (Gap d ∷ xs) (Fill c n ∷ ys) e f = cc

  -- ## Of documents

  module _ (n : NodeId) (xs ys : List CellMark) (alike : first_difference (cells_before xs) (cells_before ys) ≡ None)
      (first_silent : list_any tells xs ≡ false → xs ≡ bare ys) (then_silent : list_any tells ys ≡ false → ys ≡ bare xs) where
    abbrev carried : Option RowMarks
    carried = row_marks n (carry_row target_of m xs ys)

    abbrev Row : List CellMark → RowMarks
    Row zs = record { node = n; marks = merge zs }

    both-listed : row_both target_of m n (merge xs) (merge ys) ≡ carried
    both-listed =
        (λ i. cond (is_some (first_difference (cells_before (spread-merge xs i)) (cells_before (spread-merge ys i)))) (listed_row n (merge xs)) (row_marks n (carry_row target_of m (spread-merge xs i) (spread-merge ys i))))
        ∙ ap (λ o. cond (is_some o) (listed_row n (merge xs)) carried) alike

    pub listed-carried : row_listed target_of m n (row_marks n xs) (row_marks n ys) ≡ carried
    listed-carried = go (list_any tells xs) refl (list_any tells ys) refl
      where
        go : (a : Bool) → list_any tells xs ≡ a → (b : Bool) → list_any tells ys ≡ b → row_listed target_of m n (cond a (Some (Row xs)) None) (cond b (Some (Row ys)) None) ≡ carried
        go true e true f = both-listed
        go true e false f = ap (λ l. row_marks n (carry_row target_of m l (bare l))) (spread-merge xs) ∙ ap (λ l. row_marks n (carry_row target_of m xs l)) (sym (then_silent f))
        go false e true f = ap (λ l. row_marks n (carry_row target_of m (bare l) l)) (spread-merge ys) ∙ ap (λ l. row_marks n (carry_row target_of m l ys)) (sym (first_silent e))
        go false e false f = sym (ap (λ b. cond b (Some (Row (carry_row target_of m xs ys))) None) (silent-carry xs ys e f))

-- a row of two documents, where the change and the step list what they tell
pub row_of_documents : (target_of : NodeId → Option To) (m : NodeId → Bool) (n : NodeId) (q : RowPart) (named : NodeId → Bool) {c d : List Slot} (g : GainsItems SameCell c d)
    → row_listed target_of m n (row_marks n (embed_row q c)) (row_marks n (step_row named g)) ≡ row_marks n (carry_row target_of m (embed_row q c) (step_row named g))
row_of_documents target_of m n q named {c} g =
    listed-carried target_of m n (embed_row q c) (step_row named g) (no_difference c (cells_before (embed_row q c)) (cells_before (step_row named g)) (change_finds q c) (step_finds named g))
    (silent-change q named g) (silent-step q named g)
