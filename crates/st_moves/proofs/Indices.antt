-- Where the items of a list are, by name, as far as the list is gone through.
use Rattle.std.proofs.Common.{◌≡◌, ℕ, ◌+◌, ◌<◌, Bool, true, false, cond, ◌||◌, List, [], ◌∷◌, ◌++◌, length, take, get_or, slice_get, Option, Some, None, option_and_then, refl, sym, ap, ◌∙◌, inl, inr, ◌⊎◌}
use Rattle.std.specs.Cmp.{IsTotalOrder}
use Rattle.std.specs.List.{list_any}
use Rattle.std.specs.Option.{option_or}
use Rattle.std.specs.Ordering.{is_eq, ordering_reverse}
use Rattle.std.specs.declared.cmp.Ordering.{Ordering}
use Rattle.std.specs.declared.cmp.Ordering.TheVariants.{Less, Equal, Greater}
use Rattle.std.proofs.lemmas.Option.{slice_get-get_or}
use Rattle.st_ids.specs.Listing.{item_of}
use Rattle.st_lemmas.proofs.FirstItems.{take_one}

turned : (o : Ordering) → is_eq (ordering_reverse o) ≡ is_eq o
turned Less = refl
turned Equal = refl
turned Greater = refl

module _ {K A : Type 0} (R : K → K → Ordering) (total : IsTotalOrder R) (key : A → K) where
  pub same_both : (a b : K) → is_eq (R a b) ≡ is_eq (R b a)
  same_both a b = ap is_eq (total.antisymm a b) ∙ turned (R b a)

  pub item_of-push : (xs : List A) (x : A) (k : K) → item_of R key (xs ++ x ∷ []) k ≡ option_or (item_of R key xs k) (cond (is_eq (R k (key x))) (Some x) None)
  item_of-push [] x k = refl
  item_of-push (y ∷ xs) x k = go (is_eq (R k (key y))) (item_of-push xs x k)
    where
      go : (b : Bool) → item_of R key (xs ++ x ∷ []) k ≡ option_or (item_of R key xs k) (cond (is_eq (R k (key x))) (Some x) None)
          → cond b (Some y) (item_of R key (xs ++ x ∷ []) k) ≡ option_or (cond b (Some y) (item_of R key xs k)) (cond (is_eq (R k (key x))) (Some x) None)
      go true e = refl
      go false e = e

  -- a name that no item has
  pub not_listed : (xs : List A) (k : K) → list_any (λ (x : A). is_eq (R (key x) k)) xs ≡ false → item_of R key xs k ≡ None
  not_listed [] k e = refl
  not_listed (x ∷ xs) k e = go (is_eq (R (key x) k)) refl e (λ f. not_listed xs k f)
    where
      go : (b : Bool) → is_eq (R (key x) k) ≡ b → (b || list_any (λ (x : A). is_eq (R (key x) k)) xs) ≡ false → (list_any (λ (x : A). is_eq (R (key x) k)) xs ≡ false → item_of R key xs k ≡ None)
          → cond (is_eq (R k (key x))) (Some x) (item_of R key xs k) ≡ None
      go true h e rest = cc
      go false h e rest = ap (λ b. cond b (Some x) (item_of R key xs k)) (same_both k (key x) ∙ h) ∙ rest e

  -- at a name there is a place of its first item, or there is none of that name
  abbrev pub IsIndexed : List A → List A → K → Option ℕ → Type 0
  IsIndexed xs front k o = ((o ≡ None) × (item_of R key front k ≡ None)) ⊎ ((i : ℕ) × (x : A) × (o ≡ Some i) × (slice_get xs i ≡ Some x) × (item_of R key front k ≡ Some x))

  pub indexed_more : (xs : List A) (i : ℕ) (x : A) (k : K) (old new : Option ℕ) → i < length xs → get_or xs i x ≡ x
      → IsIndexed xs (take i xs) k old → new ≡ option_or old (cond (is_eq (R (key x) k)) (Some i) None) → IsIndexed xs (take (i + 1) xs) k new
  indexed_more xs i x k old new inside at so_far h = elim so_far [
    | inr r ↦ inr (r.0, r.1, h ∙ ap (λ o. option_or o (cond (is_eq (R (key x) k)) (Some i) None)) r.2, r.3, front ∙ ap (λ o. option_or o (cond (is_eq (R k (key x))) (Some x) None)) r.4)
    | inl r ↦ go (is_eq (R (key x) k)) refl r.0 r.1
  ]
    where
      front : item_of R key (take (i + 1) xs) k ≡ option_or (item_of R key (take i xs) k) (cond (is_eq (R k (key x))) (Some x) None)
      front = ap (λ l. item_of R key l k) (take_one xs i x x inside at) ∙ item_of-push (take i xs) x k

      go : (b : Bool) → is_eq (R (key x) k) ≡ b → old ≡ None → item_of R key (take i xs) k ≡ None → IsIndexed xs (take (i + 1) xs) k new
      go true e o g = inr (
        i,
        x,
        h ∙ (λ j. option_or (o j) (cond (e j) (Some i) None)),
        slice_get-get_or xs i x inside ∙ ap (λ z. Some z) at,
        front ∙ (λ j. option_or (g j) (cond ((same_both k (key x) ∙ e) j) (Some x) None)),
      )
      go false e o g = inl (h ∙ (λ j. option_or (o j) (cond (e j) (Some i) None)), front ∙ (λ j. option_or (g j) (cond ((same_both k (key x) ∙ e) j) (Some x) None)))

  pub indexed_all : (xs front : List A) (k : K) (o : Option ℕ) → front ≡ xs → IsIndexed xs front k o → option_and_then (slice_get xs) o ≡ item_of R key xs k
  indexed_all xs front k o whole w = elim w [
    | inl r ↦ ap (option_and_then (slice_get xs)) r.0 ∙ sym (ap (λ l. item_of R key l k) (sym whole) ∙ r.1)
    | inr r ↦ ap (option_and_then (slice_get xs)) r.2 ∙ r.3 ∙ sym (ap (λ l. item_of R key l k) (sym whole) ∙ r.4)
  ]
