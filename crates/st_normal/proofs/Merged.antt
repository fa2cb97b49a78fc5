-- Marks in normal form, one by one.
use Rattle.std.proofs.Common.{◌≡◌, ◌≢◌, ℕ, zero, suc, Bool, true, false, not, ◌&&◌, List, [], ◌∷◌, refl, sym, ap, ◌∙◌, subst, IsTrue, ◌↔◌}
use Rattle.st_marks.specs.declared.marks.Mark.{Mark}
use Rattle.st_marks.specs.Row.{CellMark, Counted, Gap, Touch, Make, Fill, counted_cells, spread, skip_one, merge}

-- no Skip of 0, and none behind another; whether one stands right before
abbrev pub is_merged : Bool → List Mark → Bool
is_merged b [] = true
is_merged b (Mark.Skip zero ∷ ms) = false
is_merged b (Mark.Skip (suc k) ∷ ms) = not b && is_merged true ms
is_merged b (Mark.Gap c ∷ ms) = is_merged false ms
is_merged b (Mark.Touch c n h ∷ ms) = is_merged false ms
is_merged b (Mark.Make c n f ∷ ms) = is_merged false ms
is_merged b (Mark.Fill c n ∷ ms) = is_merged false ms

-- one counted cell before marks that may stand behind a Skip
skip_one-is_merged : (ms : List Mark) → is_merged true ms ≡ true → skip_one ms ≡ Mark.Skip 1 ∷ ms
skip_one-is_merged [] e = refl
skip_one-is_merged (Mark.Skip zero ∷ ms) e = cc
skip_one-is_merged (Mark.Skip (suc k) ∷ ms) e = cc
skip_one-is_merged (Mark.Gap c ∷ ms) e = refl
skip_one-is_merged (Mark.Touch c n h ∷ ms) e = refl
skip_one-is_merged (Mark.Make c n f ∷ ms) e = refl
skip_one-is_merged (Mark.Fill c n ∷ ms) e = refl

-- a Skip of what is counted
skipped : (k : ℕ) (xs : List CellMark) (ms : List Mark) → merge xs ≡ ms → is_merged true ms ≡ true → merge (counted_cells (suc k) xs) ≡ Mark.Skip (suc k) ∷ ms
skipped zero xs ms e m = ap skip_one e ∙ skip_one-is_merged ms m
skipped (suc k) xs ms e m = ap skip_one (skipped k xs ms e m)

weaker : (ms : List Mark) → is_merged true ms ≡ true → is_merged false ms ≡ true
weaker [] e = refl
weaker (Mark.Skip zero ∷ ms) e = e
weaker (Mark.Skip (suc k) ∷ ms) e = cc
weaker (Mark.Gap c ∷ ms) e = e
weaker (Mark.Touch c n h ∷ ms) e = e
weaker (Mark.Make c n f ∷ ms) e = e
weaker (Mark.Fill c n ∷ ms) e = e

merged-is : (ms : List Mark) → is_merged false ms ≡ true → ms ≡ merge (spread ms)
merged-is [] e = refl
merged-is (Mark.Skip zero ∷ ms) e = cc
merged-is (Mark.Skip (suc k) ∷ ms) e = sym (skipped k (spread ms) ms (sym (merged-is ms (weaker ms e))) e)
merged-is (Mark.Gap c ∷ ms) e = ap (λ xs. Mark.Gap c ∷ xs) (merged-is ms e)
merged-is (Mark.Touch c n h ∷ ms) e = ap (λ xs. Mark.Touch c n h ∷ xs) (merged-is ms e)
merged-is (Mark.Make c n f ∷ ms) e = ap (λ xs. Mark.Make c n f ∷ xs) (merged-is ms e)
merged-is (Mark.Fill c n ∷ ms) e = ap (λ xs. Mark.Fill c n ∷ xs) (merged-is ms e)

one_more-merged : (ms : List Mark) → is_merged false ms ≡ true → is_merged false (skip_one ms) ≡ true
one_more-merged [] e = refl
one_more-merged (Mark.Skip zero ∷ ms) e = cc
one_more-merged (Mark.Skip (suc k) ∷ ms) e = e
one_more-merged (Mark.Gap c ∷ ms) e = e
one_more-merged (Mark.Touch c n h ∷ ms) e = e
one_more-merged (Mark.Make c n f ∷ ms) e = e
one_more-merged (Mark.Fill c n ∷ ms) e = e

merge-merged : (xs : List CellMark) → is_merged false (merge xs) ≡ true
merge-merged [] = refl
merge-merged (Counted ∷ xs) = one_more-merged (merge xs) (merge-merged xs)
merge-merged (Gap c ∷ xs) = merge-merged xs
merge-merged (Touch c n h ∷ xs) = merge-merged xs
merge-merged (Make c n f ∷ xs) = merge-merged xs
merge-merged (Fill c n ∷ xs) = merge-merged xs

pub merged_alone : (ms : List Mark) → IsTrue (is_merged false ms) ↔ (ms ≡ merge (spread ms))
merged_alone ms = (merged-is ms, λ e. subst (λ xs. is_merged false xs ≡ true) (sym e) (merge-merged (spread ms)))

-- where a Skip may not stand
pub may_not_stand : (b r : Bool) (k : ℕ) (ms : List Mark) → (IsTrue r ↔ ((k ≢ 0) × (b ≡ false))) → r ≡ false → is_merged b (Mark.Skip k ∷ ms) ≡ false
may_not_stand b r zero ms h e = refl
may_not_stand true r (suc k) ms h e = refl
may_not_stand false r (suc k) ms h e = let bad : ◌≡◌ {A = Bool} false true = sym e ∙ h.1 (λ f. cc, refl) in cc
