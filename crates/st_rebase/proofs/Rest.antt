-- The rest of a step, row by row.
use Rattle.std.proofs.Common.{◌≡◌, ◌≢◌, Bool, true, false, ◌&&◌, ◌||◌, List, [], ◌∷◌, ◌++◌, Some, None, cond, if◌then◌else◌, refl, sym, ap, ◌∙◌}
use Rattle.std.specs.List.{list_any}
use Rattle.st_ids.specs.declared.names.CellId.{CellId}
use Rattle.st_ids.specs.declared.names.NodeId.{NodeId}
use Rattle.st_kind.specs.Named.{Nodes}
use Rattle.st_marks.specs.declared.intents.Owned.{Owned}
use Rattle.st_marks.specs.declared.marks.How.TheVariants.{Stay, Leave}
use Rattle.st_marks.specs.declared.places.Slot.{Slot}
use Rattle.st_marks.specs.Embedding.{tells}
use Rattle.st_marks.specs.Extends.{GainsItems, no_more, item_gained, item_kept}
use Rattle.st_marks.specs.Row.{CellMark, Counted, Gap, Touch, Make, Fill, RowPart, SameCell, step_cell, step_row, embed_cell, embed_made, embed_cells, embed_row}
use Rattle.st_rows.specs.Rows.{NamesMoved}
use Rattle.st_moves.specs.Carried.{row_between}
use Rattle.st_rebase.specs.Rest.{rest_mark, rest_row}

-- how the row between grows to the later one: it has the same cells
abbrev pub grow_between : (m : Nodes) {c d : List Slot} (g : GainsItems SameCell c d) → GainsItems SameCell (row_between m g) d
grow_between m no_more = no_more
grow_between m (item_gained g) = item_kept (refl, refl) (grow_between m g)
grow_between m (item_kept same g) = item_kept (refl, refl) (grow_between m g)

-- the rest names what the step names, and whoever comes into a cell or leaves it
abbrev pub NamesRest : Nodes → Nodes → {c d : List Slot} → GainsItems SameCell c d → Type 0
NamesRest named k no_more = Unit {0}
NamesRest named k (item_gained {y} g) = (y.full ≡ true → k y.node ≡ true) × NamesRest named k g
NamesRest named k (item_kept {x} {y} same g) = (x.full ≡ true → y.full ≡ true → k y.node ≡ named x.node) × (x.full ≡ true → y.full ≡ false → k y.node ≡ true) × (x.full ≡ false → y.full ≡ true → k y.node ≡ true) × NamesRest named k g

module _ (m named k : Nodes) where
  -- a cell that the step makes
  made_rest : (c : CellId) (n : NodeId) (b : Bool) → (b ≡ true → k n ≡ true) → rest_mark m (Make c n b) ≡ step_cell k c n (b && m n) b
  made_rest c n true h = elim (m n) as (λ z. cond z (Touch c n Stay) (Fill c n) ≡ step_cell k c n z true) [ true ↦ rw (h refl) refl | false ↦ refl ]
  made_rest c n false h = refl

  -- a cell that it finds
  found_rest : (c : CellId) (n : NodeId) (a b : Bool) → (a ≡ true → b ≡ true → k n ≡ named n) → (a ≡ false → b ≡ true → k n ≡ true) → rest_mark m (step_cell named c n a b) ≡ step_cell k c n (if m n then b else a) b
  found_rest c n true true h j =
      elim (named n) as (λ z. named n ≡ z → rest_mark m (cond z (Touch c n Stay) Counted) ≡ step_cell k c n (cond (m n) true true) true) [
        | true ↦ (λ e. stays true (h refl refl ∙ e))
        | false ↦ (λ e. stays false (h refl refl ∙ e))
      ] refl
    where
      stays : (z : Bool) → k n ≡ z → rest_mark m (cond z (Touch c n Stay) Counted) ≡ step_cell k c n (cond (m n) true true) true
      stays true e = elim (m n) as (λ y. Touch c n Stay ≡ step_cell k c n (cond y true true) true) [ true ↦ rw e refl | false ↦ rw e refl ]
      stays false e = elim (m n) as (λ y. Counted ≡ step_cell k c n (cond y true true) true) [ true ↦ rw e refl | false ↦ rw e refl ]
  found_rest c n true false h j = elim (m n) as (λ z. cond z (Gap c) (Touch c n Leave) ≡ step_cell k c n (cond z false true) false) [ true ↦ refl | false ↦ refl ]
  found_rest c n false true h j = elim (m n) as (λ z. cond z (Touch c n Stay) (Fill c n) ≡ step_cell k c n (cond z true false) true) [ true ↦ rw (j refl refl) refl | false ↦ refl ]
  found_rest c n false false h j = elim (m n) as (λ z. Gap c ≡ step_cell k c n (cond z false false) false) [ true ↦ refl | false ↦ refl ]

  -- the rest of the step of a row is the step from the row between
  pub rest_is_step : {c d : List Slot} (g : GainsItems SameCell c d) → NamesRest named k g → rest_row m (step_row named g) ≡ step_row k (grow_between m g)
  rest_is_step no_more h = refl
  rest_is_step (item_gained {y = t} g) h = λ i. made_rest t.cell t.node t.full h.0 i ∷ rest_is_step g h.1 i
  rest_is_step (item_kept {x = s} {y = t} a g) h = λ i. (ap (rest_mark m) (λ j. step_cell (λ n. named n) (a.0 j) (a.1 j) s.full t.full) ∙ found_rest t.cell t.node s.full t.full (λ p q. h.0 p q ∙ ap named (a.1)) (λ p q. h.2 p q)) i ∷ rest_is_step g h.3 i

  differ : (a b : Bool) → (b && a) ≢ b → (b ≡ true) × (a ≡ false)
  differ true true e = absurd (e refl)
  differ true false e = absurd (e refl)
  differ false true e = (refl, refl)
  differ false false e = absurd (e refl)

  -- which names whoever moves
  pub rest_names_moved : {c d : List Slot} (g : GainsItems SameCell c d) → NamesRest named k g → NamesMoved k (grow_between m g)
  rest_names_moved no_more h = tt
  rest_names_moved (item_gained {y = t} g) h = ((λ e. h.0 (differ (m t.node) t.full e).0), rest_names_moved g h.1)
  rest_names_moved (item_kept {x = s} {y = t} a g) h = ((λ e. moved s.full t.full refl refl e), rest_names_moved g h.3)
    where
      same_or : (z a : Bool) → cond z a a ≡ a
      same_or true a = refl
      same_or false a = refl

      moved : (a b : Bool) → s.full ≡ a → t.full ≡ b → cond (m t.node) t.full s.full ≢ t.full → k t.node ≡ true
      moved true true p q e = absurd (e (rw (p, q) (same_or (m t.node) true)))
      moved true false p q e = h.1 p q
      moved false true p q e = h.2 p q
      moved false false p q e = absurd (e (rw (p, q) (same_or (m t.node) false)))

-- ## A row is listed in both or in neither

module _ (p : RowPart) where
  silent : (c : CellId) (n : NodeId) (b : Bool) → p.mentioned n ≡ false → p.target_of n ≡ None → tells (embed_cell p c n b) ≡ false
  silent c n true e f = rw e refl
  silent c n false e f = rw f refl

  any-made : (os : List Owned) (xs ys : List CellMark) → list_any tells xs ≡ list_any tells ys → list_any tells (embed_made p os ++ xs) ≡ list_any tells (embed_made p os ++ ys)
  any-made [] xs ys e = e
  any-made (o ∷ os) xs ys e = refl

  alike : (c : CellId) (n : NodeId) (a b : Bool) → (p.mentioned n ≡ false → p.target_of n ≡ None) → (p.mentioned n ≡ true → a ≡ b) → tells (embed_cell p c n a) ≡ tells (embed_cell p c n b)
  alike c n a b h j = elim (p.mentioned n) as (λ z. p.mentioned n ≡ z → tells (embed_cell p c n a) ≡ tells (embed_cell p c n b)) [
    | true ↦ (λ e. ap (λ x. tells (embed_cell p c n x)) (j e))
    | false ↦ (λ e. silent c n a e (h e) ∙ sym (silent c n b e (h e)))
  ] refl

  abbrev pub OnlyMentionedGo : List Slot → Type 0
  OnlyMentionedGo [] = Unit {0}
  OnlyMentionedGo (s ∷ d) = (p.mentioned s.node ≡ false → p.target_of s.node ≡ None) × OnlyMentionedGo d

  alike-cells : {c d : List Slot} (g : GainsItems SameCell c d) → OnlyMentionedGo d → list_any tells (embed_cells p (row_between p.mentioned g)) ≡ list_any tells (embed_cells p d)
  alike-cells no_more h = refl
  alike-cells (item_gained {y = t} {ys = d} g) h = λ i. alike t.cell t.node (t.full && p.mentioned t.node) t.full h.0 (λ e. rw e (and_true t.full)) i || any-made (p.new_cells (Some t.cell)) (embed_cells p (row_between p.mentioned g)) (embed_cells p d) (alike-cells g h.1) i
    where
      and_true : (b : Bool) → (b && true) ≡ b
      and_true true = refl
      and_true false = refl
  alike-cells (item_kept {x = s} {y = t} {ys = d} a g) h = λ i. alike t.cell t.node (if p.mentioned t.node then t.full else s.full) t.full h.0 (λ e. rw e refl) i || any-made (p.new_cells (Some t.cell)) (embed_cells p (row_between p.mentioned g)) (embed_cells p d) (alike-cells g h.1) i

  pub alike-row : {c d : List Slot} (g : GainsItems SameCell c d) → OnlyMentionedGo d → list_any tells (embed_row p (row_between p.mentioned g)) ≡ list_any tells (embed_row p d)
  alike-row {d = d} g h = any-made (p.new_cells None) (embed_cells p (row_between p.mentioned g)) (embed_cells p d) (alike-cells g h)

-- ## A row of which the step tells nothing

-- is the later one already
pub silent_between : (m named : Nodes) {c d : List Slot} (g : GainsItems SameCell c d) → list_any tells (step_row named g) ≡ false → row_between m g ≡ d
silent_between m named no_more e = refl
silent_between m named (item_gained g) e = cc
silent_between m named (item_kept {x = s} {y = t} {ys = d} same g) e = go s.full t.full refl refl (step_row named g) e (λ q. silent_between m named g q)
  where
    second : (a b : Bool) → (a || b) ≡ false → b ≡ false
    second true b q = cc
    second false b q = q

    same_or : (z a : Bool) → cond z a a ≡ a
    same_or true a = refl
    same_or false a = refl

    join : (a : Bool) → s.full ≡ a → t.full ≡ a → {l : List Slot} → l ≡ d → record t { full = if m t.node then t.full else s.full } ∷ l ≡ t ∷ d
    join a p q e = λ i. record t { full = (ap (λ z. cond (m t.node) t.full z) (p ∙ sym q) ∙ same_or (m t.node) t.full) i } ∷ e i

    go : (a b : Bool) → s.full ≡ a → t.full ≡ b → (ms : List CellMark) → (tells (step_cell named s.cell s.node s.full t.full) || list_any tells ms) ≡ false → (list_any tells ms ≡ false → row_between m g ≡ d) → row_between m (item_kept {x = s} {y = t} same g) ≡ t ∷ d
    go true true p q ms e rest = join true p q (rest (second _ _ e))
    go true false p q ms e rest = let bad = rw (p, q) at e in cc
    go false true p q ms e rest = let bad = rw (p, q) at e in cc
    go false false p q ms e rest = join false p q (rest (second _ _ e))
