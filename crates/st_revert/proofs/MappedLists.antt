-- A list of named items, each turned into another one of its name.
use Rattle.std.proofs.Common.{◌≡◌, Bool, true, false, ◌&&◌, List, [], ◌∷◌, map, Some, option_map, cond, refl, ap, sym, ◌∙◌, subst}
use Rattle.std.specs.FinMap.Entries.{below_all, is_sorted}
use Rattle.std.specs.Ordering.{is_eq, is_lt}
use Rattle.std.specs.declared.cmp.Ordering.{Ordering}
use Rattle.st_ids.specs.Listing.{IsListing, IsRising, item_of, key_pairs}

module _ {K A B : Type 0} (R : K → K → Ordering) (key : A → K) (name : B → K) (f : A → B) (keeps : (x : A) → name (f x) ≡ key x) where
  below-map : (xs : List A) (k : K) → below_all R k (key_pairs name (map f xs)) ≡ below_all R k (key_pairs key xs)
  below-map [] k = refl
  below-map (x ∷ xs) k = λ i. is_lt (R k (keeps x i)) && below-map xs k i

  rising-map : (xs : List A) → is_sorted R (key_pairs name (map f xs)) ≡ is_sorted R (key_pairs key xs)
  rising-map [] = refl
  rising-map (x ∷ xs) = λ i. (ap (λ j. below_all R j (key_pairs name (map f xs))) (keeps x) ∙ below-map xs (key x)) i && rising-map xs i

  item_of-map : (xs : List A) (k : K) → item_of R name (map f xs) k ≡ option_map f (item_of R key xs k)
  item_of-map [] k = refl
  item_of-map (x ∷ xs) k = (λ i. cond (is_eq (R k (keeps x i))) (Some (f x)) (item_of-map xs k i)) ∙ go (is_eq (R k (key x)))
    where
      go : (b : Bool) → cond b (Some (f x)) (option_map f (item_of R key xs k)) ≡ option_map f (cond b (Some x) (item_of R key xs k))
      go true = refl
      go false = refl

  pub listing-map : (xs : List A) (ys : List B) → IsRising R key xs → ys ≡ map f xs → IsListing R name ys (λ k. option_map f (item_of R key xs k))
  listing-map xs ys rising e = record {
    rising = subst (IsRising R name) (sym e) (rising-map xs ∙ rising);
    at_each = λ k. ap (λ l. item_of R name l k) e ∙ item_of-map xs k;
  }
