-- What is looked for by name in a listing that rises.
use Rattle.std.proofs.Common.{◌≡◌, ◌<◌, ◌≤◌, ◌+◌, ℕ, zero, suc, true, false, ◌||◌, List, [], ◌∷◌, length, get_or, slice_get, nat_lt, Bor, Option, Some, None, IfSome, is_some, cond, refl, sym, ap, ◌∙◌, arith, subst, inl, inr, ◌⊎◌}
use Rattle.std.specs.declared.cmp.Ordering.{Ordering}
use Rattle.std.specs.declared.cmp.Ordering.TheVariants.{Less, Equal, Greater}
use Rattle.std.specs.Cmp.{IsTotalOrder}
use Rattle.std.specs.List.{list_any}
use Rattle.std.specs.List.Sorted.{IsBinarySearchResult, IsNonDecreasingBy}
use Rattle.std.specs.Ordering.{is_lt, ordering_reverse, ordering_index, is_eq}
use Rattle.std.specs.Option.{option_copied}
use Rattle.std.proofs.lemmas.Bool.Decides.{nat_tests}
use Rattle.std.proofs.lemmas.Option.{slice_get-get_or}
use Rattle.std.specs.Prelude.{Result, Ok, Err, MatchResult, is_ok}
use Rattle.std.proofs.lemmas.List.Sorted.{searchable_from_sorted}
use Rattle.std.proofs.lemmas.Map.Lookups.{CmpEqualImpliesEq}
use Rattle.st_ids.specs.Listing.{IsRising, item_of}
use Rattle.st_ids.proofs.Listings.{has-item_of}
use Rattle.st_lemmas.proofs.Bools.{and-second, and-first, or-right}
use Rattle.st_clash.proofs.LeastFields.{there}

turned : (o : Ordering) → is_lt o ≡ true → is_lt (ordering_reverse o) ≡ false
turned Less h = refl
turned Equal h = cc
turned Greater h = cc

turned_apart : (o : Ordering) → (o ≡ Less) ⊎ (o ≡ Greater) → is_eq (ordering_reverse o) ≡ false
turned_apart o (inl e) = ap (λ p. is_eq (ordering_reverse p)) e
turned_apart o (inr e) = ap (λ p. is_eq (ordering_reverse p)) e

not_equal : (o : Ordering) → (o ≡ Less) ⊎ (o ≡ Greater) → is_eq o ≡ false
not_equal o (inl e) = ap is_eq e
not_equal o (inr e) = ap is_eq e

pub order : (k i : ℕ) → (k < i) ⊎ (i ≤ k)
order k zero = inr (omega arith)
order zero (suc i) = inl (omega arith)
order (suc k) (suc i) = elim (order k i) [ inl e ↦ inl (omega (arith, e)) | inr e ↦ inr (omega (arith, e)) ]

-- what is lent of a place
pub copied_at : {A : Type 0} (xs : List A) (i : ℕ) (o : Option (Bor A)) → i < length xs → is_some o ≡ nat_lt i (length xs) → IfSome o (λ x. x.now ≡ get_or xs i x.now) → option_copied o ≡ slice_get xs i
copied_at xs i None l e g = let f : nat_lt i (length xs) ≡ false = sym e in absurd (grind (arith, nat_tests, f, l))
copied_at xs i (Some x) l e g = ap (λ z. Some z) g ∙ sym (slice_get-get_or xs i x.now l)

module _ {K A : Type 0} (R : K → K → Ordering) (t : IsTotalOrder R) (exact : CmpEqualImpliesEq R) (key : A → K) where
  not_after : (a b : K) → is_lt (R a b) ≡ true → is_lt (R b a) ≡ false
  not_after a b h = ap is_lt (t.antisymm b a) ∙ turned (R a b) h

  adjacent : (xs : List A) → IsRising R key xs → (k : ℕ) (d : A) → k + 1 < length xs → is_lt (R (key (get_or xs (k + 1) d)) (key (get_or xs k d))) ≡ false
  adjacent [] h k d l = absurd (omega (arith, l))
  adjacent (x ∷ []) h k d l = absurd (omega (arith, l))
  adjacent (x ∷ (y ∷ zs)) h zero d l = not_after (key x) (key y) (and-first _ _ (and-first _ _ h))
  adjacent (x ∷ (y ∷ zs)) h (suc k) d l =
      let e : suc k + 1 ≡ suc (k + 1) = omega arith in
      subst (λ i. is_lt (R (key (get_or (x ∷ (y ∷ zs)) i d)) (key (get_or (x ∷ (y ∷ zs)) (suc k) d))) ≡ false) (sym e) (adjacent (y ∷ zs) (and-second _ _ h) k d (omega (arith, l)))

  rises : (xs : List A) (q : K) → IsRising R key xs → IsNonDecreasingBy (λ y. ordering_index (R (key y) q)) xs
  rises xs q h = searchable_from_sorted t key xs q (λ k d a b. adjacent xs h k d b)

  none_there : (xs : List A) (q : K) → ((k : ℕ) (d : A) → k < length xs → is_eq (R q (key (get_or xs k d))) ≡ false) → item_of R key xs q ≡ None
  none_there [] q h = refl
  none_there (y ∷ ys) q h = ap (λ b. cond b (Some y) (item_of R key ys q)) (h 0 y (omega arith)) ∙ none_there ys q (λ k d l. h (suc k) d (omega (arith, l)))

  -- what a binary search tells
  pub searched : (xs : List A) (q : K) (r : Result ℕ ℕ) → IsRising R key xs → MatchResult r (λ i. i < length xs) (λ i. i ≤ length xs) → IsBinarySearchResult (λ y. R (key y) q) xs r
      → MatchResult r (λ i. slice_get xs i ≡ item_of R key xs q) (λ i. item_of R key xs q ≡ None)
  searched xs q (Ok i) h b s =
      let x = there xs i b in
      let e : key x.0 ≡ q = exact (key x.0) q (ap (λ z. R (key z) q) (sym (x.3 x.0)) ∙ s x.0) in
      x.1 ∙ sym (has-item_of R t exact key xs x.0 h x.2) ∙ ap (item_of R key xs) e
  searched xs q (Err i) h b s =
      let parts = s (rises xs q h) in
      none_there xs q (λ k d l. ap is_eq (t.antisymm q (key (get_or xs k d))) ∙ turned_apart _ (elim (order k i) [ inl e ↦ inl (parts.0 k d (omega arith) e) | inr e ↦ inr (parts.1 k d e l) ]))

  pub found_at : (xs : List A) (q : K) (r : Result ℕ ℕ) → IsRising R key xs → MatchResult r (λ i. i < length xs) (λ i. i ≤ length xs) → IsBinarySearchResult (λ y. R (key y) q) xs r
      → MatchResult r (λ i. (i < length xs) × (slice_get xs i ≡ item_of R key xs q)) (λ i. item_of R key xs q ≡ None)
  found_at xs q (Ok i) h b s = (b, searched xs q (Ok i) h b s)
  found_at xs q (Err i) h b s = searched xs q (Err i) h b s

  none_so : (xs : List A) (q : K) → ((k : ℕ) (d : A) → k < length xs → is_eq (R (key (get_or xs k d)) q) ≡ false) → list_any (λ y. is_eq (R (key y) q)) xs ≡ false
  none_so [] q h = refl
  none_so (y ∷ ys) q h = ap (λ b. b || list_any (λ z. is_eq (R (key z) q)) ys) (h 0 y (omega arith)) ∙ none_so ys q (λ k d l. h (suc k) d (omega (arith, l)))

  some_so : (xs : List A) (q : K) (i : ℕ) → i < length xs → ((d : A) → is_eq (R (key (get_or xs i d)) q) ≡ true) → list_any (λ y. is_eq (R (key y) q)) xs ≡ true
  some_so [] q i l h = absurd (omega (arith, l))
  some_so (y ∷ ys) q zero l h = ap (λ b. b || list_any (λ z. is_eq (R (key z) q)) ys) (h y)
  some_so (y ∷ ys) q (suc i) l h = or-right (is_eq (R (key y) q)) (list_any (λ z. is_eq (R (key z) q)) ys) (some_so ys q i (omega (arith, l)) h)

  -- whether it is there
  pub found_or_not : (xs : List A) (q : K) (r : Result ℕ ℕ) → IsRising R key xs → MatchResult r (λ i. i < length xs) (λ i. i ≤ length xs) → IsBinarySearchResult (λ y. R (key y) q) xs r
      → is_ok r ≡ list_any (λ y. is_eq (R (key y) q)) xs
  found_or_not xs q (Ok i) h b s = sym (some_so xs q i b (λ d. ap is_eq (s d)))
  found_or_not xs q (Err i) h b s =
      let parts = s (rises xs q h) in
      sym (none_so xs q (λ k d l. not_equal _ (elim (order k i) [ inl e ↦ inl (parts.0 k d (omega arith) e) | inr e ↦ inr (parts.1 k d e l) ])))

  -- ## A search by halves

  -- none before low and none from high on has the name
  pub record IsBetween (xs : List A) (q : K) (low high : ℕ) : Type 0 where
    pub within : high ≤ length xs
    pub before : (k : ℕ) (d : A) → k < low → R (key (get_or xs k d)) q ≡ Less
    pub after : (k : ℕ) (d : A) → high ≤ k → k < length xs → R (key (get_or xs k d)) q ≡ Greater

  pub all_between : (xs : List A) (q : K) → IsBetween xs q 0 (length xs)
  all_between xs q = record { within = omega arith; before = λ k d l. absurd (omega (arith, l)); after = λ k d l m. absurd (omega (arith, l, m)) }

  index_less : (o : Ordering) (p : Ordering) → ordering_index o ≤ ordering_index p → p ≡ Less → o ≡ Less
  index_less Less p l e = refl
  index_less Equal p l e = absurd (omega (arith, subst (λ z. ordering_index Equal ≤ ordering_index z) e l))
  index_less Greater p l e = absurd (omega (arith, subst (λ z. ordering_index Greater ≤ ordering_index z) e l))

  index_greater : (o : Ordering) (p : Ordering) → ordering_index o ≤ ordering_index p → o ≡ Greater → p ≡ Greater
  index_greater o Less l e = absurd (omega (arith, subst (λ z. ordering_index z ≤ ordering_index Less) e l))
  index_greater o Equal l e = absurd (omega (arith, subst (λ z. ordering_index z ≤ ordering_index Equal) e l))
  index_greater o Greater l e = refl

  same_place : (xs : List A) (i : ℕ) (d x : A) → i < length xs → get_or xs i d ≡ get_or xs i x
  same_place xs i d x l = let r = there xs i l in r.3 d ∙ sym (r.3 x)

  pub less_before : (xs : List A) (q : K) (low high m : ℕ) (x : A) → IsRising R key xs → IsBetween xs q low high → m < high → R (key (get_or xs m x)) q ≡ Less → IsBetween xs q (m + 1) high
  less_before xs q low high m x h b l e =
      let within : m < length xs = omega (arith, l, b.within) in
      record {
        within = b.within;
        before = λ k d j. index_less _ _ (rises xs q h k m d (omega (arith, j)) within) (ap (λ z. R (key z) q) (same_place xs m d x within) ∙ e);
        after = b.after;
      }

  pub greater_after : (xs : List A) (q : K) (low high m : ℕ) (x : A) → IsRising R key xs → IsBetween xs q low high → m < high → R (key (get_or xs m x)) q ≡ Greater → IsBetween xs q low m
  greater_after xs q low high m x h b l e =
      let within : m < length xs = omega (arith, l, b.within) in
      record {
        within = omega (arith, within);
        before = b.before;
        after = λ k d j i. index_greater _ _ (rises xs q h m k d j i) (ap (λ z. R (key z) q) (same_place xs m d x within) ∙ e);
      }

  pub found_there : (xs : List A) (q : K) (m : ℕ) (x : A) → IsRising R key xs → m < length xs → R (key (get_or xs m x)) q ≡ Equal → slice_get xs m ≡ item_of R key xs q
  found_there xs q m x h l e =
      let y = there xs m l in
      let f : key y.0 ≡ q = exact (key y.0) q (ap (λ z. R (key z) q) (sym (y.3 x)) ∙ e) in
      y.1 ∙ sym (has-item_of R t exact key xs y.0 h y.2) ∙ ap (item_of R key xs) f

  pub none_between : (xs : List A) (q : K) (low high : ℕ) → IsBetween xs q low high → high ≤ low → item_of R key xs q ≡ None
  none_between xs q low high b l = none_there xs q (λ k d i. ap is_eq (t.antisymm q (key (get_or xs k d))) ∙ turned_apart _ (elim (order k low) [ inl e ↦ inl (b.before k d e) | inr e ↦ inr (b.after k d (omega (arith, l, e)) i) ]))
