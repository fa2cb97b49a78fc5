-- One row in two documents, alike as far as steps tell of it.
use Rattle.std.proofs.Common.{◌≡◌, Bool, true, false, ◌||◌, not, List, [], ◌∷◌, cond, refl, sym, ap, ◌∙◌, inl, inr}
use Rattle.std.specs.List.{AllZip, list_any}
use Rattle.st_ids.specs.Listing.{Has}
use Rattle.st_ids.specs.declared.names.CellId.{CellId}
use Rattle.st_ids.specs.declared.names.NodeId.{NodeId}
use Rattle.st_lemmas.proofs.Bools.{true-false}
use Rattle.st_marks.specs.declared.marks.How.{How}
use Rattle.st_marks.specs.declared.marks.How.TheVariants.{Stay, Leave}
use Rattle.st_marks.specs.declared.places.Slot.{Slot}
use Rattle.st_marks.specs.Embedding.{tells}
use Rattle.st_marks.specs.Extends.{GainsItems, no_more, item_gained, item_kept}
use Rattle.st_marks.specs.How.{is_leave}
use Rattle.st_marks.specs.Listings.{cells_before}
use Rattle.st_marks.specs.Row.{CellMark, Counted, Gap, Touch, Make, Fill, SameCell, step_cell, step_row}
use Rattle.st_puts.specs.Seen.{AreAsSeen}

-- ## Lists side by side

pub zip-more : {A B : Type 0} (P Q : A → B → Type 0) (xs : List A) (ys : List B) → ((x : A) (y : B) → Has xs x → P x y → Q x y) → AllZip P xs ys → AllZip Q xs ys
zip-more P Q [] [] h z = tt
zip-more P Q [] (y ∷ ys) h z = absurd z
zip-more P Q (x ∷ xs) [] h z = absurd z
zip-more P Q (x ∷ xs) (y ∷ ys) h z = (h x y (inl refl) z.0, zip-more P Q xs ys (λ x y i. h x y (inr i)) z.1)

pub zip-both : {A B : Type 0} (P Q : A → B → Type 0) (xs : List A) (ys : List B) → AllZip P xs ys → AllZip Q xs ys → AllZip (λ x y. P x y × Q x y) xs ys
zip-both P Q [] [] p q = tt
zip-both P Q [] (y ∷ ys) p q = absurd p
zip-both P Q (x ∷ xs) [] p q = absurd p
zip-both P Q (x ∷ xs) (y ∷ ys) p q = ((p.0, q.0), zip-both P Q xs ys p.1 q.1)

-- ## A cell in two documents

-- full in both or empty in both; the name of an empty cell is the same, and so is its owner where that is told; and all is the same of
-- a full cell that is named
pub record AreAlike (Named Filled : Slot → Type 0) (s r : Slot) : Type 0 where
  pub full : s.full ≡ r.full
  pub empty : s.full ≡ false → s.cell ≡ r.cell
  pub named : s.full ≡ true → Named s → SameCell s r
  pub filled : s.full ≡ false → Filled s → s.node ≡ r.node

-- what a step sees of a row before it is so in another document
pub seen-alike : (m : NodeId → Bool) (Filled : Slot → Type 0) {c d : List Slot} (g : GainsItems SameCell c d)
    → ((s t : Slot) → Has d t → SameCell s t → t.full ≡ false → Filled s → ⊥) → (e : List Slot) → AreAsSeen e (cells_before (step_row m g)) → AllZip (AreAlike (λ s. m s.node ≡ true) Filled) c e
seen-alike m Filled no_more q [] h = tt
seen-alike m Filled no_more q (r ∷ e) h = absurd h
seen-alike m Filled (item_gained g) q e h = seen-alike m Filled g (λ s t i. q s t (inr i)) e h
seen-alike m Filled (item_kept {x = s} {y = t} {xs = c} same g) q e h = go s.full t.full refl refl e h (λ e h. seen-alike m Filled g (λ s t i. q s t (inr i)) e h)
  where
    Rest : Type 0
    Rest = (e : List Slot) → AreAsSeen e (cells_before (step_row m g)) → AllZip (AreAlike (λ s. m s.node ≡ true) Filled) c e

    go : (a b : Bool) → s.full ≡ a → t.full ≡ b → (e : List Slot) → AreAsSeen e (cells_before (step_cell m s.cell s.node a b ∷ step_row m g)) → Rest → AllZip (AreAlike (λ s. m s.node ≡ true) Filled) (s ∷ c) e
    go true true f k e h rest = at (m s.node) refl e h
      where
        at : (v : Bool) → m s.node ≡ v → (e : List Slot) → AreAsSeen e (cells_before (cond v (Touch s.cell s.node Stay) Counted ∷ step_row m g)) → AllZip (AreAlike (λ s. m s.node ≡ true) Filled) (s ∷ c) e
        at true p [] h = absurd h
        at true p (r ∷ e) h = (record { full = f ∙ h.0.0; empty = λ i. absurd (true-false f i); named = λ _ _. (h.0.1, h.0.2); filled = λ i _. absurd (true-false f i) }, rest e h.1)
        at false p [] h = absurd h
        at false p (r ∷ e) h = (record { full = f ∙ h.0.0; empty = λ i. absurd (true-false f i); named = λ _ n. absurd (true-false n p); filled = λ i _. absurd (true-false f i) }, rest e h.1)
    go true false f k [] h rest = absurd h
    go true false f k (r ∷ e) h rest = (record { full = f ∙ h.0.0; empty = λ i. absurd (true-false f i); named = λ _ _. (h.0.1, h.0.2); filled = λ i _. absurd (true-false f i) }, rest e h.1)
    go false true f k [] h rest = absurd h
    go false true f k (r ∷ e) h rest = (record { full = f ∙ h.0.0; empty = λ _. h.0.1; named = λ i _. absurd (true-false i f); filled = λ _ _. h.0.2 }, rest e h.1)
    go false false f k [] h rest = absurd h
    go false false f k (r ∷ e) h rest = (record { full = f ∙ h.0.0; empty = λ _. h.0.1; named = λ i _. absurd (true-false i f); filled = λ _ w. absurd (q s t (inl refl) same k w) }, rest e h.1)

-- a row that is so in another document is seen there
pub alike-seen : (m : NodeId → Bool) (Filled : Slot → Type 0) {c d : List Slot} (g : GainsItems SameCell c d)
    → ((s t : Slot) → Has d t → SameCell s t → t.full ≡ true → Filled s) → ((s t : Slot) → Has c s → Has d t → SameCell s t → s.full ≡ true → t.full ≡ false → m s.node ≡ true)
    → (e : List Slot) → AllZip (AreAlike (λ s. m s.node ≡ true) Filled) c e → AreAsSeen e (cells_before (step_row m g))
alike-seen m Filled no_more q l [] z = tt
alike-seen m Filled no_more q l (r ∷ e) z = absurd z
alike-seen m Filled (item_gained g) q l e z = alike-seen m Filled g (λ s t i. q s t (inr i)) (λ s t h i. l s t h (inr i)) e z
alike-seen m Filled (item_kept {x = s} {y = t} {xs = c} same g) q l [] z = absurd z
alike-seen m Filled (item_kept {x = s} {y = t} {xs = c} same g) q l (r ∷ e) z = go s.full t.full refl refl (alike-seen m Filled g (λ s t i. q s t (inr i)) (λ s t h i. l s t (inr h) (inr i)) e z.1)
  where
    go : (a b : Bool) → s.full ≡ a → t.full ≡ b → AreAsSeen e (cells_before (step_row m g)) → AreAsSeen (r ∷ e) (cells_before (step_cell m s.cell s.node a b ∷ step_row m g))
    go true true f k rest = at (m s.node) refl
      where
        at : (v : Bool) → m s.node ≡ v → AreAsSeen (r ∷ e) (cells_before (cond v (Touch s.cell s.node Stay) Counted ∷ step_row m g))
        at true p = ((sym f ∙ z.0.full, (z.0.named f p).0, (z.0.named f p).1), rest)
        at false p = ((sym f ∙ z.0.full, tt, tt), rest)
    go true false f k rest = let w = z.0.named f (l s t (inl refl) (inl refl) same f k) in ((sym f ∙ z.0.full, w.0, w.1), rest)
    go false true f k rest = ((sym f ∙ z.0.full, z.0.empty f, z.0.filled f (q s t (inl refl) same k)), rest)
    go false false f k rest = ((sym f ∙ z.0.full, z.0.empty f, tt), rest)

-- ## Over a step with the same marks

-- whether a mark leaves its cell full
abbrev full_left : CellMark → Bool
full_left Counted = true
full_left (Gap c) = false
full_left (Touch c n h) = not (is_leave h)
full_left (Make c n b) = b
full_left (Fill c n) = true

left-is : (m : NodeId → Bool) (c : CellId) (n : NodeId) (a b : Bool) → full_left (step_cell m c n a b) ≡ b
left-is m c n true true = elim (m n) as (λ v. full_left (cond v (Touch c n Stay) Counted) ≡ true) [ true ↦ refl | false ↦ refl ]
left-is m c n true false = refl
left-is m c n false true = refl
left-is m c n false false = refl

-- a mark of a cell that was there makes none
pub made-not : (m : NodeId → Bool) (c : CellId) (n : NodeId) (a b : Bool) (d : CellId) (k : NodeId) (v : Bool) → Make d k v ≡ step_cell m c n a b → ⊥
made-not m c n true true d k v e = go (m n) e
  where
    go : (w : Bool) → Make d k v ≡ cond w (Touch c n Stay) Counted → ⊥
    go true f = cc
    go false f = cc
made-not m c n true false d k v e = cc
made-not m c n false true d k v e = cc
made-not m c n false false d k v e = cc

touch-is : (m : NodeId → Bool) (c : CellId) (n : NodeId) (a b : Bool) (d : CellId) (k : NodeId) (h : How) → Touch d k h ≡ step_cell m c n a b → (d ≡ c) × (k ≡ n)
touch-is m c n true true d k h e = go (m n) e
  where
    go : (w : Bool) → Touch d k h ≡ cond w (Touch c n Stay) Counted → (d ≡ c) × (k ≡ n)
    go true f = (cc, cc)
    go false f = absurd (let bad : Touch d k h ≡ Counted = f in cc)
touch-is m c n true false d k h e = (cc, cc)
touch-is m c n false true d k h e = absurd (let bad : Touch d k h ≡ Fill c n = e in cc)
touch-is m c n false false d k h e = absurd (let bad : Touch d k h ≡ Gap c = e in cc)

fill-is : (m : NodeId → Bool) (c : CellId) (n : NodeId) (a b : Bool) (d : CellId) (k : NodeId) → Fill d k ≡ step_cell m c n a b → (d ≡ c) × (k ≡ n)
fill-is m c n true true d k e = go (m n) e
  where
    go : (w : Bool) → Fill d k ≡ cond w (Touch c n Stay) Counted → (d ≡ c) × (k ≡ n)
    go true f = absurd (let bad : Fill d k ≡ Touch c n Stay = f in cc)
    go false f = absurd (let bad : Fill d k ≡ Counted = f in cc)
fill-is m c n true false d k e = absurd (let bad : Fill d k ≡ Touch c n Leave = e in cc)
fill-is m c n false true d k e = (cc, cc)
fill-is m c n false false d k e = absurd (let bad : Fill d k ≡ Gap c = e in cc)

pub head-same : {x y : CellMark} {xs ys : List CellMark} → x ∷ xs ≡ y ∷ ys → x ≡ y
head-same e = cc

pub tail-same : {x y : CellMark} {xs ys : List CellMark} → x ∷ xs ≡ y ∷ ys → xs ≡ ys
tail-same e = cc

pub nil-not : {x : CellMark} {xs : List CellMark} → [] ≡ x ∷ xs → ⊥
nil-not e = cc

pub made-same : {c d : CellId} {n k : NodeId} {a b : Bool} → Make c n a ≡ Make d k b → (c ≡ d) × (n ≡ k) × (a ≡ b)
made-same e = (cc, cc, cc)

module _ (m l : NodeId → Bool) (Named Filled Known Full : Slot → Type 0) where
  cell-on : (s t r q : Slot) → SameCell s t → SameCell r q → step_cell m s.cell s.node s.full t.full ≡ step_cell l r.cell r.node r.full q.full
      → (s.full ≡ true → t.full ≡ true → Known t → Named s) → (s.full ≡ false → t.full ≡ false → Full t → Filled s)
      → AreAlike Named Filled s r → AreAlike Known Full t q
  cell-on s t r q a b e up fill z = go s.full t.full refl refl e
    where
      left : t.full ≡ q.full
      left = sym (left-is m s.cell s.node s.full t.full) ∙ ap full_left e ∙ left-is l r.cell r.node r.full q.full

      go : (v w : Bool) → s.full ≡ v → t.full ≡ w → step_cell m s.cell s.node v w ≡ step_cell l r.cell r.node r.full q.full → AreAlike Known Full t q
      go true true f k e = record {
        full = left;
        empty = λ i. absurd (true-false k i);
        named = λ _ n. let y = z.named f (up f k n) in (sym a.0 ∙ y.0 ∙ b.0, sym a.1 ∙ y.1 ∙ b.1);
        filled = λ i _. absurd (true-false k i);
      }
      go true false f k e = let y = touch-is l r.cell r.node r.full q.full s.cell s.node Leave e in record {
        full = left;
        empty = λ _. sym a.0 ∙ y.0 ∙ b.0;
        named = λ i _. absurd (true-false i k);
        filled = λ _ _. sym a.1 ∙ y.1 ∙ b.1;
      }
      go false true f k e = let y = fill-is l r.cell r.node r.full q.full s.cell s.node e in record {
        full = left;
        empty = λ i. absurd (true-false k i);
        named = λ _ _. (sym a.0 ∙ y.0 ∙ b.0, sym a.1 ∙ y.1 ∙ b.1);
        filled = λ i _. absurd (true-false k i);
      }
      go false false f k e = record {
        full = left;
        empty = λ _. sym a.0 ∙ z.empty f ∙ b.0;
        named = λ i _. absurd (true-false i k);
        filled = λ _ w. sym a.1 ∙ z.filled f (fill f k w) ∙ b.1;
      }

  -- two rows that are alike are so over a step that has the same marks of both
  pub rows-on : {c d e f : List Slot} (g : GainsItems SameCell c d) (h : GainsItems SameCell e f) → step_row m g ≡ step_row l h
      → ((s t : Slot) → Has c s → Has d t → SameCell s t → s.full ≡ true → t.full ≡ true → Known t → Named s)
      → ((s t : Slot) → Has c s → Has d t → SameCell s t → s.full ≡ false → t.full ≡ false → Full t → Filled s)
      → AllZip (AreAlike Named Filled) c e → AllZip (AreAlike Known Full) d f
  rows-on no_more no_more e up fill z = tt
  rows-on no_more (item_gained h) e up fill z = absurd (nil-not e)
  rows-on no_more (item_kept b h) e up fill z = absurd (nil-not e)
  rows-on (item_gained g) no_more e up fill z = absurd (nil-not (sym e))
  rows-on (item_kept a g) no_more e up fill z = absurd (nil-not (sym e))
  rows-on (item_gained {y = t} g) (item_gained {y = q} h) e up fill z = let w = made-same (head-same e) in
      (record { full = w.2; empty = λ _. w.0; named = λ _ _. (w.0, w.1); filled = λ _ _. w.1 }, rows-on g h (tail-same e) (λ s t i j. up s t i (inr j)) (λ s t i j. fill s t i (inr j)) z)
  rows-on (item_gained {y = t} g) (item_kept {x = r} {y = q} b h) e up fill z = absurd (made-not l r.cell r.node r.full q.full t.cell t.node t.full (head-same e))
  rows-on (item_kept {x = s} {y = t} a g) (item_gained {y = q} h) e up fill z = absurd (made-not m s.cell s.node s.full t.full q.cell q.node q.full (sym (head-same e)))
  rows-on (item_kept {x = s} {y = t} a g) (item_kept {x = r} {y = q} b h) e up fill z = (
    cell-on s t r q a b (head-same e) (up s t (inl refl) (inl refl) a) (fill s t (inl refl) (inl refl) a) z.0,
    rows-on g h (tail-same e) (λ s t i j. up s t (inr i) (inr j)) (λ s t i j. fill s t (inr i) (inr j)) z.1,
  )

-- ## A row of which a step tells nothing

or-none : (a b : Bool) → (a || b) ≡ false → (a ≡ false) × (b ≡ false)
or-none false b e = (refl, e)
or-none true b e = absurd (true-false refl e)

-- it stays as it is
pub untold-row : (m : NodeId → Bool) {c d : List Slot} (g : GainsItems SameCell c d) → list_any tells (step_row m g) ≡ false → c ≡ d
untold-row m no_more e = refl
untold-row m (item_gained g) e = absurd (true-false refl e)
untold-row m (item_kept {x = s} {y = t} {xs = c} {ys = d} same g) e = go s.full t.full refl refl e (λ k. untold-row m g k)
  where
    Rest : Type 0
    Rest = list_any tells (step_row m g) ≡ false → c ≡ d

    one : s.full ≡ t.full → c ≡ d → s ∷ c ≡ t ∷ d
    one f rest = λ i. record { cell = same.0 i; node = same.1 i; full = f i } ∷ rest i

    go : (a b : Bool) → s.full ≡ a → t.full ≡ b → list_any tells (step_cell m s.cell s.node a b ∷ step_row m g) ≡ false → Rest → s ∷ c ≡ t ∷ d
    go true true f k h rest = one (f ∙ sym k) (rest (or-none (tells (step_cell m s.cell s.node true true)) (list_any tells (step_row m g)) h).1)
    go true false f k h rest = absurd (true-false refl h)
    go false true f k h rest = absurd (true-false refl h)
    go false false f k h rest = one (f ∙ sym k) (rest h)
