-- A row and what it grew to, cell by cell.
use Rattle.std.proofs.Common.{◌≡◌, ◌≢◌, ℕ, zero, suc, ◌+◌, ◌≤◌, ◌<◌, ◌^◌, Bool, true, false, cond, ◌&&◌, ◌||◌, not, List, [], ◌∷◌, length, map, take, get_or, Option, Some, None, is_some, refl, sym, ap, ◌∙◌, subst, arith, inl, inr}
use Rattle.std.specs.Bool.{beq}
use Rattle.std.specs.List.{list_any}
use Rattle.std.specs.Cmp.{booleans_Decides}
use Rattle.st_ids.specs.Listing.{AreDistinct, Has}
use Rattle.st_ids.specs.declared.names.NodeId.{NodeId}
use Rattle.st_lemmas.proofs.Bools.{refuted-false, true-false}
use Rattle.st_lemmas.proofs.FirstItems.{take_one}
use Rattle.st_lemmas.proofs.Lists.{map-append}
use Rattle.st_marks.specs.declared.intents.Owned.{Owned}
use Rattle.st_marks.specs.declared.marks.Mark.{Mark}
use Rattle.st_marks.specs.declared.places.Slot.{Slot}
use Rattle.st_marks.specs.Document.{Document, content, owned_cell, slot}
use Rattle.st_marks.specs.Extends.{GainsItems, IsExtendedBy, item_gained, item_kept, no_more}
use Rattle.st_marks.specs.Row.{CellMark, Counted, Fill, Gap, Make, SameCell, Touch, merge, step_cell, step_row}
use Rattle.st_marks.proofs.Later.{has_later}
use Rattle.st_marks.proofs.Members.{all-has, distinct-has}
use Rattle.st_marks.proofs.NewRows.{KeepsOrder}
use Rattle.st_embed.specs.inside.Marks.{HasRoom, mark_of, with_cell}
use Rattle.st_embed.proofs.Marking.{counted, merge_more, merge_within, within_later}
use Rattle.st_step.specs.inside.Marks.{differs, is_full, step_mark}

-- ## Contents that grow

longer : {xs ys : List Slot} → GainsItems SameCell xs ys → length xs ≤ length ys
longer no_more = omega arith
longer (item_gained g) = omega (arith, longer g)
longer (item_kept e g) = omega (arith, longer g)

module _ (D E : Document) where
  pub grown : {xs ys : List Owned} → KeepsOrder xs ys → GainsItems SameCell (map (slot D) xs) (map (slot E) ys)
  grown no_more = no_more
  grown (item_gained g) = item_gained (grown g)
  grown (item_kept e g) = item_kept (ap (λ (o : Owned). o.cell) e, ap (λ (o : Owned). o.node) e) (grown g)

  -- D has the cells of the shorter row, and of the longer one no others
  pub record HasOld (xs ys : List Owned) : Type 0 where
    pub old : (o : Owned) → Has xs o → is_some (D.row_of o.cell) ≡ true
    pub new : (o : Owned) → Has ys o → is_some (D.row_of o.cell) ≡ true → Has xs o
    pub once : AreDistinct (λ (o : Owned). o.cell) ys

  not_again : (y o : Owned) (ys : List Owned) → AreDistinct (λ (p : Owned). p.cell) (y ∷ ys) → Has ys o → y.cell ≢ o.cell
  not_again y o ys once h e = all-has (λ (p : Owned). p.cell ≢ y.cell) ys o once.0 h (sym e)

  first_new : (y : Owned) (xs ys : List Owned) → KeepsOrder xs ys → HasOld xs (y ∷ ys) → is_some (D.row_of y.cell) ≡ false
  first_new y xs ys g h = refuted-false (is_some (D.row_of y.cell)) (λ e. not_again y y ys h.once (has_later g y (h.new y (inl refl) e)) refl)

  after_new : (y : Owned) (xs ys : List Owned) → HasOld xs (y ∷ ys) → HasOld xs ys
  after_new y xs ys h = record { old = h.old; new = λ o i. h.new o (inr i); once = h.once.1 }

  first_old : (x y : Owned) (xs ys : List Owned) → x ≡ y → HasOld (x ∷ xs) (y ∷ ys) → is_some (D.row_of y.cell) ≡ true
  first_old x y xs ys e h = subst (λ (o : Owned). is_some (D.row_of o.cell) ≡ true) e (h.old x (inl refl))

  after_old : (x y : Owned) (xs ys : List Owned) → x ≡ y → HasOld (x ∷ xs) (y ∷ ys) → HasOld xs ys
  after_old x y xs ys e h = record {
    old = λ o i. h.old o (inr i);
    new = λ o i q. elim (h.new o (inr i) q) [
      | inl s ↦ absurd (not_again y o ys h.once i (ap (λ (p : Owned). p.cell) (sym e ∙ s)))
      | inr j ↦ j
    ];
    once = h.once.1;
  }

  -- ## What a step says of them

  module _ (m : NodeId → Bool) where
    mark_new : (y : Owned) → is_some (D.row_of y.cell) ≡ false → Make y.cell y.node (is_full E y) ≡ step_mark m D E y
    mark_new y e = sym (ap (λ b. cond b (step_cell m y.cell y.node (is_full D y) (is_full E y)) (Make y.cell y.node (is_full E y))) e)

    mark_old : (x y : Owned) → x ≡ y → is_some (D.row_of y.cell) ≡ true → step_cell m x.cell x.node (is_full D x) (is_full E y) ≡ step_mark m D E y
    mark_old x y e old = ap (λ (o : Owned). step_cell m o.cell o.node (is_full D o) (is_full E y)) e ∙ sym (ap (λ b. cond b (step_cell m y.cell y.node (is_full D y) (is_full E y)) (Make y.cell y.node (is_full E y))) old)

    pub marks_are : {xs ys : List Owned} (g : KeepsOrder xs ys) → HasOld xs ys → step_row m (grown g) ≡ map (step_mark m D E) ys
    unfolding grown
    marks_are no_more h = refl
    marks_are (item_gained {y} {xs} {ys} g) h = λ i. mark_new y (first_new y xs ys g h) i ∷ marks_are g (after_new y xs ys h) i
    marks_are (item_kept {x} {y} {xs} {ys} e g) h = λ i. mark_old x y e (first_old x y xs ys e h) i ∷ marks_are g (after_old x y xs ys e h) i

  -- ## Whether they differ

  differs_new : (y : Owned) → is_some (D.row_of y.cell) ≡ false → differs D E y ≡ true
  differs_new y e = ap (λ b. not (b && beq (is_full D y) (is_full E y))) e

  differs_old : (y : Owned) → is_some (D.row_of y.cell) ≡ true → differs D E y ≡ not (beq (is_full D y) (is_full E y))
  differs_old y e = ap (λ b. not (b && beq (is_full D y) (is_full E y))) e

  none : (a b : Bool) → (a || b) ≡ false → (a ≡ false) × (b ≡ false)
  none true b e = cc
  none false b e = (refl, e)

  both_none : (a b : Bool) → a ≡ false → b ≡ false → (a || b) ≡ false
  both_none a b e f = rw (e, f) refl

  unequal : (a b : Bool) → not (beq a b) ≡ false → a ≡ b
  unequal a b e = (booleans_Decides a b).0 (go (beq a b) e)
    where
      go : (c : Bool) → not c ≡ false → c ≡ true
      go true e = refl
      go false e = cc

  equal : (a b : Bool) → a ≡ b → not (beq a b) ≡ false
  equal a b e = ap not ((booleans_Decides a b).1 e)

  pub alike : {xs ys : List Owned} → KeepsOrder xs ys → HasOld xs ys → list_any (differs D E) ys ≡ false → map (slot D) xs ≡ map (slot E) ys
  alike no_more h e = refl
  alike (item_gained {y} {xs} {ys} g) h e = absurd (true-false (differs_new y (first_new y xs ys g h)) (none (differs D E y) (list_any (differs D E) ys) e).0)
  alike (item_kept {x} {y} {xs} {ys} same g) h e =
      let parts = none (differs D E y) (list_any (differs D E) ys) e in
      let full : is_full D y ≡ is_full E y = unequal (is_full D y) (is_full E y) (sym (differs_old y (first_old x y xs ys same h)) ∙ parts.0) in
      let first : slot D x ≡ slot E y = ap (slot D) same ∙ (λ i. record { cell = y.cell; node = y.node; full = full i }) in
      λ i. first i ∷ alike g (after_old x y xs ys same h) parts.1 i

  head_full : (s t : Slot) (ss ts : List Slot) → s ∷ ss ≡ t ∷ ts → (s.full ≡ t.full) × (ss ≡ ts)
  head_full s t ss ts e = let p : s ≡ t = cc in let q : ss ≡ ts = cc in (ap (λ (u : Slot). u.full) p, q)

  pub unlike : {xs ys : List Owned} → KeepsOrder xs ys → HasOld xs ys → map (slot D) xs ≡ map (slot E) ys → list_any (differs D E) ys ≡ false
  unlike no_more h e = refl
  unlike (item_gained {y} {xs} {ys} g) h e = absurd (let l : length (map (slot D) xs) ≡ suc (length (map (slot E) ys)) = ap length e in omega (arith, l, longer (grown g)))
  unlike (item_kept {x} {y} {xs} {ys} same g) h e =
      let parts = head_full (slot D x) (slot E y) (map (slot D) xs) (map (slot E) ys) e in
      both_none (differs D E y) (list_any (differs D E) ys)
      (differs_old y (first_old x y xs ys same h) ∙ equal (is_full D y) (is_full E y) (ap (is_full D) (sym same) ∙ parts.0))
      (unlike g (after_old x y xs ys same h) parts.1)

-- ## Rows of documents

module _ (D E : Document) (x : IsExtendedBy D E) (n : NodeId) where
  row_is : (o : Owned) → Has (E.rows n) o → E.row_of o.cell ≡ Some n
  row_is o h = (x.after.one_row o.cell n).1 (o.node, h)

  had : (o : Owned) → Has (E.rows n) o → (q : Option NodeId) → D.row_of o.cell ≡ q → is_some q ≡ true → Has (D.rows n) o
  had o h None e s = cc
  had o h (Some k) e s =
      let r = (x.before.one_row o.cell k).0 e in
      let kept = has_later (x.rows k) (owned_cell o.cell r.0) r.1 in
      let there : Some k ≡ Some n = sym ((x.after.one_row o.cell k).1 (r.0, kept)) ∙ row_is o h in
      let is_n : k ≡ n = cc in
      let is_o : owned_cell o.cell r.0 ≡ o = distinct-has (λ (p : Owned). p.cell) (E.rows n) (owned_cell o.cell r.0) o (x.after.once n) (subst (λ j. Has (E.rows j) (owned_cell o.cell r.0)) is_n kept) h refl in
      subst (λ j. Has (D.rows j) o) is_n (subst (Has (D.rows k)) is_o r.1)

  pub has_old : HasOld D E (D.rows n) (E.rows n)
  has_old = record {
    old = λ o h. ap is_some ((x.before.one_row o.cell n).1 (o.node, h));
    new = λ o h s. had o h (D.row_of o.cell) refl s;
    once = x.after.once n;
  }

  pub row_grows : GainsItems SameCell (content D n) (content E n)
  row_grows = grown D E (x.rows n)

  pub row_marks_are : (m : NodeId → Bool) → step_row m row_grows ≡ map (step_mark m D E) (E.rows n)
  unfolding row_grows grown
  row_marks_are m = marks_are D E m (x.rows n) has_old

  pub row_alike : list_any (differs D E) (E.rows n) ≡ false → content D n ≡ content E n
  row_alike = alike D E (x.rows n) has_old

  pub row_unlike : content D n ≡ content E n → list_any (differs D E) (E.rows n) ≡ false
  row_unlike = unlike D E (x.rows n) has_old

-- ## Marks that are written one after another

counted_within : (xs : List CellMark) → counted xs ≤ length xs
counted_within [] = omega arith
counted_within (Counted ∷ xs) = omega (arith, counted_within xs)
counted_within (Gap c ∷ xs) = omega (arith, counted_within xs)
counted_within (Touch c n h ∷ xs) = omega (arith, counted_within xs)
counted_within (Make c n b ∷ xs) = omega (arith, counted_within xs)
counted_within (Fill c n ∷ xs) = omega (arith, counted_within xs)

module _ (f : Owned → CellMark) (os : List Owned) (i : ℕ) where
  taken : (ps : List Owned) (k : ℕ) → length (map f (take k ps)) ≤ k
  taken [] zero = omega arith
  taken [] (suc k) = omega arith
  taken (p ∷ ps) zero = omega arith
  taken (p ∷ ps) (suc k) = omega (arith, taken ps k)

  pub room : (before : List Mark) → i < length os → length os < 2 ^ 32 → before ≡ merge (map f (take i os)) → HasRoom before
  room before inside short e =
      let xs = map f (take i os) in
      subst HasRoom (sym e) (within_later (counted xs) 4294967294 (omega (arith, counted_within xs, taken os i, inside, short)) (merge xs) (merge_within xs))

  pub one_more : (d o : Owned) (before now : List Mark) → i < length os → get_or os i d ≡ o → before ≡ merge (map f (take i os)) → now ≡ with_cell before (mark_of (f o)) → now ≡ merge (map f (take (i + 1) os))
  one_more d o before now inside at so_far h =
      h ∙ ap (λ l. with_cell l (mark_of (f o))) so_far ∙ sym (merge_more (map f (take i os)) (f o))
      ∙ ap merge (sym (map-append f (take i os) (o ∷ [])) ∙ ap (map f) (sym (take_one os i d o inside at)))
