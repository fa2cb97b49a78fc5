-- Look-ups in lists that are mapped, or of which some items are left out.
use Rattle.std.proofs.Common.{◌≡◌, Bool, true, false, ◌&&◌, List, [], ◌∷◌, map, Option, Some, None, option_and_then, option_map, cond, refl, sym, ap, ◌∙◌, inl, inr}
use Rattle.std.proofs.lemmas.Map.Lookups.{CmpEqualImpliesEq}
use Rattle.std.specs.Cmp.{IsTotalOrder}
use Rattle.std.specs.FinMap.Entries.{below_all, is_sorted}
use Rattle.std.specs.List.{filter_map}
use Rattle.std.specs.Ordering.{is_eq, is_lt}
use Rattle.std.specs.declared.cmp.Ordering.{Ordering}
use Rattle.st_ids.specs.Listing.{Has, IsListing, IsRising, item_of, key_pairs}
use Rattle.st_ids.proofs.Listings.{item_of-has}
use Rattle.st_ids.proofs.Orders.{is_eq_equal}

-- ## A list that is mapped

pub item_of-map : {K A : Type 0} (R : K → K → Ordering) (key : A → K) (f : A → A) → ((x : A) → key (f x) ≡ key x) → (xs : List A) (k : K) → item_of R key (map f xs) k ≡ option_map f (item_of R key xs k)
item_of-map R key f keeps [] k = refl
item_of-map R key f keeps (x ∷ xs) k = (λ i. cond (is_eq (R k (keeps x i))) (Some (f x)) (item_of-map R key f keeps xs k i)) ∙ go (is_eq (R k (key x)))
  where
    go : (b : Bool) → cond b (Some (f x)) (option_map f (item_of R key xs k)) ≡ option_map f (cond b (Some x) (item_of R key xs k))
    go true = refl
    go false = refl

pub map-same : {A B : Type 0} (f g : A → B) (xs : List A) → ((x : A) → Has xs x → f x ≡ g x) → map f xs ≡ map g xs
map-same f g [] h = refl
map-same f g (x ∷ xs) h = λ i. h x (inl refl) i ∷ map-same f g xs (λ y w. h y (inr w)) i

module _ {K A : Type 0} (R : K → K → Ordering) (key : A → K) (f : A → A) (keeps : (x : A) → key (f x) ≡ key x) where
  below-map : (xs : List A) (k : K) → below_all R k (key_pairs key (map f xs)) ≡ below_all R k (key_pairs key xs)
  below-map [] k = refl
  below-map (x ∷ xs) k = λ i. is_lt (R k (keeps x i)) && below-map xs k i

  rising-map : (xs : List A) → is_sorted R (key_pairs key (map f xs)) ≡ is_sorted R (key_pairs key xs)
  rising-map [] = refl
  rising-map (x ∷ xs) = λ i. (ap (λ j. below_all R j (key_pairs key (map f xs))) (keeps x) ∙ below-map xs (key x)) i && rising-map xs i

  pub listing-map : (xs : List A) → IsRising R key xs → IsListing R key (map f xs) (λ k. option_map f (item_of R key xs k))
  listing-map xs rising = record { rising = rising-map xs ∙ rising; at_each = λ k. item_of-map R key f keeps xs k }

-- ## A list of which some names are left out

module _ {K A : Type 0} (R : K → K → Ordering) (exact : CmpEqualImpliesEq R) (key : A → K) (f : A → Option A)
    (named : (x y : A) → f x ≡ Some y → key y ≡ key x) (by_name : (x y : A) → key x ≡ key y → f x ≡ None → f y ≡ None) where
  pub item_of-left : (total : IsTotalOrder R) (xs : List A) (k : K) → item_of R key (filter_map f xs) k ≡ option_and_then f (item_of R key xs k)
  item_of-left total [] k = refl
  item_of-left total (x ∷ xs) k = go (f x) refl (is_eq (R k (key x))) refl (item_of-left total xs k)
    where
      gone : f x ≡ None → key x ≡ k → (p : Option A) → item_of R key xs k ≡ p → option_and_then f p ≡ None
      gone e same None h = refl
      gone e same (Some y) h = by_name x y (same ∙ sym (item_of-has R total exact key xs k y h).1) e

      go : (o : Option A) → f x ≡ o → (b : Bool) → is_eq (R k (key x)) ≡ b → item_of R key (filter_map f xs) k ≡ option_and_then f (item_of R key xs k)
          → item_of R key (filter_map f (x ∷ xs)) k ≡ option_and_then f (cond (is_eq (R k (key x))) (Some x) (item_of R key xs k))
      go None e true g rest = rw (e, g) (
          let same : key x ≡ k = sym (exact k (key x) (is_eq_equal (R k (key x)) g)) in
          rest ∙ gone e same (item_of R key xs k) refl ∙ sym e)
      go None e false g rest = rw (e, g) rest
      go (Some y) e true g rest = rw (e, g) (
          let at : is_eq (R k (key y)) ≡ true = ap (λ j. is_eq (R k j)) (named x y e) ∙ g in
          ap (λ b. cond b (Some y) (item_of R key (filter_map f xs) k)) at ∙ sym e)
      go (Some y) e false g rest = rw (e, g) (
          let at : is_eq (R k (key y)) ≡ false = ap (λ j. is_eq (R k j)) (named x y e) ∙ g in
          ap (λ b. cond b (Some y) (item_of R key (filter_map f xs) k)) at ∙ rest)
