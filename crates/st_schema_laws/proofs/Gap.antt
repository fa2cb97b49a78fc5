-- A list without a middle part, cut at an index.
use Rattle.std.proofs.Common.{◌≡◌, ℕ, zero, suc, ◌+◌, ◌-◌, ◌≤◌, ◌<◌, max, nat_le, Bool, true, false, cond, not, List, [], ◌∷◌, ◌++◌, take, drop, filter, length, refl, sym, ap, ◌∙◌, subst, arith, inl, inr}
use Rattle.std.proofs.lemmas.Bool.{cases_lt}
use Rattle.std.proofs.lemmas.Bool.Decides.{nat_tests}
use Rattle.st_ids.specs.Listing.{Has, AreDistinct}
use Rattle.st_ids.specs.declared.names.NodeId.{NodeId}
use Rattle.st_schema_laws.specs.Moved.{index_after}
use Rattle.st_schema_laws.proofs.Rows.{among, filter_all, filter_joined, filter_none, has-among, left_apart, not-among, right_apart}
use Rattle.st_edits.proofs.Fits.{has_take, has_drop}

-- ## Lists that are joined, cut

pub take_within : {A : Type 0} (i : ℕ) (xs ys : List A) → i ≤ length xs → take i (xs ++ ys) ≡ take i xs
take_within zero xs ys le = refl
take_within (suc i) [] ys le = absurd (omega arith)
take_within (suc i) (x ∷ xs) ys le = ap (λ l. x ∷ l) (take_within i xs ys (omega arith))

pub drop_within : {A : Type 0} (i : ℕ) (xs ys : List A) → i ≤ length xs → drop i (xs ++ ys) ≡ drop i xs ++ ys
drop_within zero xs ys le = refl
drop_within (suc i) [] ys le = absurd (omega arith)
drop_within (suc i) (x ∷ xs) ys le = drop_within i xs ys (omega arith)

pub take_past : {A : Type 0} (i j : ℕ) (xs ys : List A) → i ≡ length xs + j → take i (xs ++ ys) ≡ xs ++ take j ys
take_past i j [] ys e = let q : i ≡ j = omega (arith, e) in ap (λ k. take k ys) q
take_past zero j (x ∷ xs) ys e = absurd (omega (arith, e))
take_past (suc i) j (x ∷ xs) ys e = ap (λ l. x ∷ l) (take_past i j xs ys (omega (arith, e)))

pub drop_past : {A : Type 0} (i j : ℕ) (xs ys : List A) → i ≡ length xs + j → drop i (xs ++ ys) ≡ drop j ys
drop_past i j [] ys e = let q : i ≡ j = omega (arith, e) in ap (λ k. drop k ys) q
drop_past zero j (x ∷ xs) ys e = absurd (omega (arith, e))
drop_past (suc i) j (x ∷ xs) ys e = drop_past i j xs ys (omega (arith, e))

-- ## Without the middle part

module _ (a b c : List NodeId) (once : AreDistinct (λ (x : NodeId). x) (a ++ (b ++ c))) where
  abbrev p : NodeId → Bool
  p x = not (among b x)

  keeps_left : (xs : List NodeId) → ((x : NodeId) → Has xs x → Has a x) → filter p xs ≡ xs
  keeps_left xs inside = filter_all p xs (λ x h. ap not (not-among b x (left_apart a b c once x (inside x h))))

  keeps_right : (xs : List NodeId) → ((x : NodeId) → Has xs x → Has c x) → filter p xs ≡ xs
  keeps_right xs inside = filter_all p xs (λ x h. ap not (not-among b x (right_apart a b c once x (inside x h))))

  leaves : (xs : List NodeId) → ((x : NodeId) → Has xs x → Has b x) → filter p xs ≡ []
  leaves xs inside = filter_none p xs (λ x h. ap not (has-among b x (inside x h)))

  abbrev Cut : ℕ → ℕ → Type 0
  Cut i j = (filter p (take i (a ++ (b ++ c))) ≡ take j (a ++ c)) × (filter p (drop i (a ++ (b ++ c))) ≡ drop j (a ++ c))

  cut_left : (i : ℕ) → i ≤ length a → Cut i i
  cut_left i le = (
    ap (filter p) (take_within i a (b ++ c) le) ∙ keeps_left (take i a) (λ x h. has_take i a x h) ∙ sym (take_within i a c le),
    ap (filter p) (drop_within i a (b ++ c) le) ∙ filter_joined p (drop i a) (b ++ c)
        ∙ (λ k. keeps_left (drop i a) (λ x h. has_drop i a x h) k ++ (filter_joined p b c ∙ (λ l. leaves b (λ x h. h) l ++ keeps_right c (λ x h. h) l)) k) ∙ sym (drop_within i a c le),
  )

  cut_middle : (i j : ℕ) → i ≡ length a + j → j ≤ length b → Cut i (length a)
  cut_middle i j e le = (
    ap (filter p) (take_past i j a (b ++ c) e ∙ ap (λ l. a ++ l) (take_within j b c le)) ∙ filter_joined p a (take j b)
        ∙ (λ k. keeps_left a (λ x h. h) k ++ leaves (take j b) (λ x h. has_take j b x h) k) ∙ sym (take_past (length a) 0 a c (omega arith)),
    ap (filter p) (drop_past i j a (b ++ c) e ∙ drop_within j b c le) ∙ filter_joined p (drop j b) c
        ∙ (λ k. leaves (drop j b) (λ x h. has_drop j b x h) k ++ keeps_right c (λ x h. h) k) ∙ sym (drop_past (length a) 0 a c (omega arith)),
  )

  cut_right : (i j k : ℕ) → i ≡ length a + (length b + j) → k ≡ length a + j → Cut i k
  cut_right i j k e f = (
    ap (filter p) (take_past i (length b + j) a (b ++ c) e ∙ ap (λ l. a ++ l) (take_past (length b + j) j b c refl)) ∙ filter_joined p a (b ++ take j c)
        ∙ (λ l. keeps_left a (λ x h. h) l ++ (filter_joined p b (take j c) ∙ (λ m. leaves b (λ x h. h) m ++ keeps_right (take j c) (λ x h. has_take j c x h) m)) l) ∙ sym (take_past k j a c f),
    ap (filter p) (drop_past i (length b + j) a (b ++ c) e ∙ drop_past (length b + j) j b c refl) ∙ keeps_right (drop j c) (λ x h. has_drop j c x h) ∙ sym (drop_past k j a c f),
  )

  pub cut_at : (i : ℕ) → Cut i (index_after (length a) (length b) i)
  cut_at i = go (nat_le i (length a)) refl
    where
      past : length a < i → Cut i (max (length a) (i - length b))
      past more = elim (cases_lt i (length a + length b)) [
        | inl less ↦ (let q : length a ≡ max (length a) (i - length b) = omega arith in subst (Cut i) q (cut_middle i (i - length a) (omega arith) (omega arith)))
        | inr far ↦ cut_right i (i - (length a + length b)) (max (length a) (i - length b)) (omega arith) (omega arith)
      ]

      go : (t : Bool) → nat_le i (length a) ≡ t → Cut i (cond t i (max (length a) (i - length b)))
      go true e = let le : i ≤ length a = grind (arith, nat_tests) in cut_left i le
      go false e = let more : length a < i = grind (arith, nat_tests) in past more
