-- One more mark, row or register that is gone through.
use Rattle.std.proofs.Common.{◌≡◌, ℕ, zero, suc, ◌+◌, ◌≤◌, ◌<◌, Bool, true, false, cond, ◌&&◌, List, [], ◌∷◌, ◌++◌, length, take, drop, get_or, min, Option, Some, None, unwrap_or, refl, sym, ap, ◌∙◌, inl, inr, ◌⊎◌, append_assoc, arith}
use Rattle.std.proofs.Math.Nat.{min-eq_left, min-eq_right, min-le_right}
use Rattle.std.proofs.lemmas.Bool.Decides.{nat_tests}
use Rattle.std.proofs.lemmas.List.{append-nil}
use Rattle.std.specs.List.{flat_map}
use Rattle.std.specs.Option.{option_to_list}
use Rattle.std.specs.Prelude.{nat_lt}
use Rattle.st_doc.proofs.Look.{drop_one}
use Rattle.st_ids.specs.Order.{same_node}
use Rattle.st_ids.specs.declared.names.CellId.{CellId}
use Rattle.st_ids.specs.declared.names.NodeId.{NodeId}
use Rattle.st_lemmas.proofs.FirstItems.{take_one}
use Rattle.st_marks.specs.declared.intents.Owned.{Owned}
use Rattle.st_marks.specs.declared.marks.Mark.{Mark}
use Rattle.st_marks.specs.Intent.{same_anchor}
use Rattle.st_marks.specs.Row.{CellMark, counted_cells, spread}
use Rattle.st_meaning.specs.inside.Made.{after_mark, at_anchor, at_place, made_by, made_from, next_in}

-- ## Lists of lists

flat-append : {A B : Type 0} (f : A → List B) (xs ys : List A) → flat_map f (xs ++ ys) ≡ flat_map f xs ++ flat_map f ys
flat-append f [] ys = refl
flat-append f (x ∷ xs) ys = ap (λ l. f x ++ l) (flat-append f xs ys) ∙ sym (append_assoc (f x) (flat_map f xs) (flat_map f ys))

pub flat_more : {A B : Type 0} (f : A → List B) (before now : List B) (xs : List A) (i : ℕ) (d x : A) → i < length xs → get_or xs i d ≡ x → before ≡ flat_map f (take i xs) → now ≡ before ++ f x → now ≡ flat_map f (take (i + 1) xs)
flat_more f before now xs i d x inside at so_far pushed =
    pushed ∙ ap (λ l. l ++ f x) so_far ∙ ap (λ l. flat_map f (take i xs) ++ l) (sym (append-nil (f x))) ∙ sym (flat-append f (take i xs) (x ∷ [])) ∙ ap (flat_map f) (sym (take_one xs i d x inside at))

-- ## Places in a row

which : (m n : ℕ) → (m ≤ n) ⊎ (n < m)
which m n = go (nat_lt n m) refl
  where
    go : (b : Bool) → nat_lt n m ≡ b → (m ≤ n) ⊎ (n < m)
    go true e = inr (grind (arith, nat_tests))
    go false e = inl (grind (arith, nat_tests))

passed_twice : (i k n : ℕ) → i ≤ n → min (min (i + 1) n + k) n ≡ min (i + suc k) n
passed_twice i k n h = elim (which (i + 1) n) [
  | inl l ↦ ap (λ j. min (j + k) n) (min-eq_left l) ∙ ap (λ j. min j n) (let e : i + 1 + k ≡ i + suc k = omega arith in e)
  | inr l ↦ (let a : n ≤ i + 1 = omega (arith, l) in
      let b : n ≤ n + k = omega arith in
      let c : n ≤ i + suc k = omega (arith, l) in
      ap (λ j. min (j + k) n) (min-eq_right a) ∙ min-eq_right b ∙ sym (min-eq_right c))
]

made-counted : (cells : List Owned) (i k : ℕ) (ms : List CellMark) → i ≤ length cells → made_from cells i (counted_cells k ms) ≡ made_from cells (next_in cells i k) ms
made-counted cells i zero ms h = ap (λ j. made_from cells j ms) (sym (ap (λ j. min j (length cells)) (let e : i + 0 ≡ i = omega arith in e) ∙ min-eq_left h))
made-counted cells i (suc k) ms h = made-counted cells (next_in cells i 1) k ms (min-le_right (i + 1) (length cells)) ∙ ap (λ j. made_from cells j ms) (passed_twice i k (length cells) h)

made-mark : (cells : List Owned) (i : ℕ) (m : Mark) (ms : List Mark) → i ≤ length cells → made_from cells i (spread (m ∷ ms)) ≡ made_by cells i m ++ made_from cells (after_mark cells i m) (spread ms)
made-mark cells i (Mark.Skip k) ms h = made-counted cells i k (spread ms) h
made-mark cells i (Mark.Gap c) ms h = refl
made-mark cells i (Mark.Touch c n x) ms h = refl
made-mark cells i (Mark.Make c n b) ms h = refl
made-mark cells i (Mark.Fill c n) ms h = refl

pub after-within : (cells : List Owned) (i : ℕ) (m : Mark) → i ≤ length cells → after_mark cells i m ≤ length cells
after-within cells i (Mark.Skip k) h = min-le_right (i + k) (length cells)
after-within cells i (Mark.Gap c) h = min-le_right (i + 1) (length cells)
after-within cells i (Mark.Touch c n x) h = min-le_right (i + 1) (length cells)
after-within cells i (Mark.Make c n b) h = h
after-within cells i (Mark.Fill c n) h = min-le_right (i + 1) (length cells)

-- ## At one place

anchor-append : (a : Option CellId) (ps qs : List (Option CellId × Owned)) → at_anchor a (ps ++ qs) ≡ at_anchor a ps ++ at_anchor a qs
anchor-append a [] qs = refl
anchor-append a (p ∷ ps) qs = go (same_anchor p.0 a) (anchor-append a ps qs)
  where
    go : (b : Bool) → at_anchor a (ps ++ qs) ≡ at_anchor a ps ++ at_anchor a qs → cond b (p.1 ∷ at_anchor a (ps ++ qs)) (at_anchor a (ps ++ qs)) ≡ cond b (p.1 ∷ at_anchor a ps) (at_anchor a ps) ++ at_anchor a qs
    go true e = ap (λ l. p.1 ∷ l) e
    go false e = e

place-append : (r n : NodeId) (a : Option CellId) (ps qs : List (Option CellId × Owned)) → at_place r n a (ps ++ qs) ≡ at_place r n a ps ++ at_place r n a qs
place-append r n a ps qs = go (same_node r n)
  where
    go : (b : Bool) → cond b (at_anchor a (ps ++ qs)) [] ≡ cond b (at_anchor a ps) [] ++ cond b (at_anchor a qs) []
    go true = anchor-append a ps qs
    go false = refl

pub place-none : (r n : NodeId) (a : Option CellId) → at_place r n a [] ≡ []
place-none r n a = go (same_node r n)
  where
    go : (b : Bool) → cond {A = List Owned} b [] [] ≡ []
    go true = refl
    go false = refl

pub place-one : (r n : NodeId) (a b : Option CellId) (o : Owned) → cond (same_node r n && same_anchor b a) (o ∷ []) [] ≡ at_place r n a ((b, o) ∷ [])
place-one r n a b o = go (same_node r n)
  where
    go : (t : Bool) → cond (t && same_anchor b a) (o ∷ []) [] ≡ cond t (cond (same_anchor b a) (o ∷ []) []) []
    go true = refl
    go false = refl

-- ## Kept at one place

pub none_kept : (r n : NodeId) (a : Option CellId) (one : Option (Option CellId × Owned)) (cells : List Owned) → one ≡ None → cells ≡ cells ++ at_place r n a (option_to_list one)
none_kept r n a one cells e = sym (ap (λ o. cells ++ at_place r n a (option_to_list o)) e ∙ ap (λ l. cells ++ l) (place-none r n a) ∙ append-nil cells)

pub one_kept : (r n : NodeId) (a b : Option CellId) (o : Owned) (one : Option (Option CellId × Owned)) (before now : List Owned) → one ≡ Some (b, o) → now ≡ before ++ cond (same_node r n && same_anchor b a) (o ∷ []) []
    → now ≡ before ++ at_place r n a (option_to_list one)
one_kept r n a b o one before now e kept = kept ∙ ap (λ l. before ++ l) (place-one r n a b o) ∙ sym (ap (λ q. before ++ at_place r n a (option_to_list q)) e)

-- a cell is put behind those at its place
pub pushed_at : (there here : Option (List Owned)) (o : Owned) (b : Bool) → (b ≡ true → there ≡ here) → unwrap_or (cond b (Some (unwrap_or there [] ++ o ∷ [])) here) [] ≡ unwrap_or here [] ++ cond b (o ∷ []) []
pushed_at there here o true same = ap (λ q. unwrap_or q [] ++ o ∷ []) (same refl)
pushed_at there here o false same = sym (append-nil (unwrap_or here []))

-- ## One more mark

pub mark_more : (r n : NodeId) (a : Option CellId) (old : List Owned) (marks : List Mark) (at k : ℕ) (d m : Mark) (before now whole : List Owned) → at ≤ length old → k < length marks → get_or marks k d ≡ m
    → now ≡ before ++ at_place r n a (made_by old at m)
    → before ++ at_place r n a (made_from old at (spread (drop k marks))) ≡ whole
    → now ++ at_place r n a (made_from old (after_mark old at m) (spread (drop (k + 1) marks))) ≡ whole
mark_more r n a old marks at k d m before now whole within inside is kept so_far =
    let rest = made_from old (after_mark old at m) (spread (drop (k + 1) marks)) in
    ap (λ l. l ++ at_place r n a rest) kept ∙ append_assoc before (at_place r n a (made_by old at m)) (at_place r n a rest)
    ∙ ap (λ l. before ++ l) (sym (place-append r n a (made_by old at m) rest) ∙ ap (at_place r n a) (sym (made-mark old at m (drop (k + 1) marks) within) ∙ ap (λ l. made_from old at (spread l)) (sym (drop_one marks k d m inside is))))
    ∙ so_far

pub marks_done : (r n : NodeId) (a : Option CellId) (old : List Owned) (marks : List Mark) (at : ℕ) (now whole : List Owned) → marks ≡ []
    → now ++ at_place r n a (made_from old at (spread marks)) ≡ whole → now ≡ whole
marks_done r n a old marks at now whole none so_far =
    sym (append-nil now) ∙ ap (λ l. now ++ l) (sym (place-none r n a)) ∙ ap (λ l. now ++ at_place r n a (made_from old at (spread l))) (sym none) ∙ so_far
