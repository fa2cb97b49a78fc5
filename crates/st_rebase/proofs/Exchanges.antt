-- A listing of which each item is exchanged.
use Rattle.std.proofs.Common.{◌≡◌, Bool, true, false, ◌&&◌, List, [], ◌∷◌, Option, Some, None, cond, refl, sym, ap, ◌∙◌, inl, inr, ◌⊎◌}
use Rattle.std.specs.FinMap.Entries.{below_all, is_sorted}
use Rattle.std.specs.Ordering.{is_eq, is_lt}
use Rattle.std.specs.declared.cmp.Ordering.{Ordering}
use Rattle.st_ids.specs.Listing.{IsListing, item_of, key_pairs}
use Rattle.st_rebase.specs.Exchanged.{AreExchanged}

module _ {K A : Type 0} (R : K → K → Ordering) (key : A → K) where
  -- what is found is exchanged
  found : (Becomes : A → A → Type 0) (xs ys : List A) (k : K) → AreExchanged key Becomes xs ys → ((item_of R key xs k ≡ None) × (item_of R key ys k ≡ None)) ⊎ ((x : A) × (y : A) × (item_of R key xs k ≡ Some x) × (item_of R key ys k ≡ Some y) × Becomes x y)
  found Becomes [] [] k h = inl (refl, refl)
  found Becomes [] (y ∷ ys) k h = absurd h
  found Becomes (x ∷ xs) [] k h = absurd h
  found Becomes (x ∷ xs) (y ∷ ys) k h = go (is_eq (R k (key x))) refl (found Becomes xs ys k h.2)
    where
      first : (b : Bool) → is_eq (R k (key x)) ≡ b → item_of R key (x ∷ xs) k ≡ cond b (Some x) (item_of R key xs k)
      first b e = ap (λ z. cond z (Some x) (item_of R key xs k)) e

      then : (b : Bool) → is_eq (R k (key x)) ≡ b → item_of R key (y ∷ ys) k ≡ cond b (Some y) (item_of R key ys k)
      then b e = ap (λ z. cond z (Some y) (item_of R key ys k)) (ap (λ j. is_eq (R k j)) h.0 ∙ e)

      go : (b : Bool) → is_eq (R k (key x)) ≡ b
          → ((item_of R key xs k ≡ None) × (item_of R key ys k ≡ None)) ⊎ ((x : A) × (y : A) × (item_of R key xs k ≡ Some x) × (item_of R key ys k ≡ Some y) × Becomes x y)
          → ((item_of R key (x ∷ xs) k ≡ None) × (item_of R key (y ∷ ys) k ≡ None)) ⊎ ((u : A) × (v : A) × (item_of R key (x ∷ xs) k ≡ Some u) × (item_of R key (y ∷ ys) k ≡ Some v) × Becomes u v)
      go true e r = inr (x, y, first true e, then true e, h.1)
      go false e (inl r) = inl (first false e ∙ r.0, then false e ∙ r.1)
      go false e (inr r) = inr (r.0, r.1, first false e ∙ r.2, then false e ∙ r.3, r.4)

  below_same : (Becomes : A → A → Type 0) (xs ys : List A) (k : K) → AreExchanged key Becomes xs ys → below_all R k (key_pairs key ys) ≡ below_all R k (key_pairs key xs)
  below_same Becomes [] [] k h = refl
  below_same Becomes [] (y ∷ ys) k h = absurd h
  below_same Becomes (x ∷ xs) [] k h = absurd h
  below_same Becomes (x ∷ xs) (y ∷ ys) k h = λ i. is_lt (R k (h.0 i)) && below_same Becomes xs ys k h.2 i

  rising_same : (Becomes : A → A → Type 0) (xs ys : List A) → AreExchanged key Becomes xs ys → is_sorted R (key_pairs key ys) ≡ is_sorted R (key_pairs key xs)
  rising_same Becomes [] [] h = refl
  rising_same Becomes [] (y ∷ ys) h = absurd h
  rising_same Becomes (x ∷ xs) [] h = absurd h
  rising_same Becomes (x ∷ xs) (y ∷ ys) h = λ i. (ap (λ j. below_all R j (key_pairs key ys)) h.0 ∙ below_same Becomes xs ys (key x) h.2) i && rising_same Becomes xs ys h.2 i

  -- the listing of what is looked up, where each item is exchanged for what another look-up has
  pub listing_over : (xs ys : List A) (look then : K → Option A) → IsListing R key xs look
      → AreExchanged key (λ x y. (k : K) → look k ≡ Some x → then k ≡ Some y) xs ys → ((k : K) → look k ≡ None → then k ≡ None) → IsListing R key ys then
  listing_over xs ys look then l h none = record {
    rising = rising_same (λ x y. (k : K) → look k ≡ Some x → then k ≡ Some y) xs ys h ∙ l.rising;
    at_each = λ k. elim (found (λ x y. (k : K) → look k ≡ Some x → then k ≡ Some y) xs ys k h) [
      | inl r ↦ r.1 ∙ sym (none k (sym (l.at_each k) ∙ r.0))
      | inr r ↦ r.3 ∙ sym (r.4 k (sym (l.at_each k) ∙ r.2))
    ];
  }
