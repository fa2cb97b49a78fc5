-- Rising lists of which some items are taken away and others exchanged for items of the same name.
use Rattle.std.proofs.Common.{◌≡◌, Bool, true, false, cond, ◌&&◌, List, [], ◌∷◌, filter, Option, Some, None, option_and_then, refl, sym, ap, ◌∙◌, subst}
use Rattle.std.specs.List.{cons_option, filter_map}
use Rattle.std.specs.FinMap.Entries.{below_all}
use Rattle.std.specs.Ordering.{is_eq, is_lt}
use Rattle.std.specs.declared.cmp.Ordering.{Ordering}
use Rattle.std.specs.declared.cmp.Ordering.TheVariants.{Less, Equal, Greater}
use Rattle.std.proofs.lemmas.Map.Lookups.{CmpEqualImpliesEq}
use Rattle.st_ids.specs.Listing.{IsListing, IsRising, item_of, key_pairs}
use Rattle.st_ids.proofs.Orders.{is_eq_equal}
use Rattle.st_ids.proofs.Rising.{parts_true}

pub filter-map : {A : Type 0} (p : A → Bool) (xs : List A) → filter p xs ≡ filter_map (λ x. cond (p x) (Some x) None) xs
filter-map p [] = refl
filter-map {A} p (x ∷ xs) = go (p x) (filter-map p xs)
  where
    go : (b : Bool) → filter p xs ≡ filter_map (λ x. cond (p x) (Some x) None) xs → cond b (x ∷ filter p xs) (filter p xs) ≡ cons_option (cond {A = Option A} b (Some x) None) (filter_map (λ x. cond (p x) (Some x) None) xs)
    go true e = ap (λ l. x ∷ l) e
    go false e = e

module _ {K A : Type 0} (R : K → K → Ordering) (exact : CmpEqualImpliesEq R) (key : A → K) (f : A → Option A) (named : (x y : A) → f x ≡ Some y → key y ≡ key x) where
  both : (a b : Bool) → a ≡ true → b ≡ true → (a && b) ≡ true
  both a b e g = rw (e, g) refl

  below : (k : K) (xs : List A) → below_all R k (key_pairs key xs) ≡ true → below_all R k (key_pairs key (filter_map f xs)) ≡ true
  below k [] b = refl
  below k (x ∷ xs) b = let p = parts_true _ _ b in go (f x) refl p.0 (below k xs p.1)
    where
      go : (o : Option A) → f x ≡ o → is_lt (R k (key x)) ≡ true → below_all R k (key_pairs key (filter_map f xs)) ≡ true → below_all R k (key_pairs key (filter_map f (x ∷ xs))) ≡ true
      go None e first rest = rw e rest
      go (Some y) e first rest = rw e (both _ _ (ap (λ j. is_lt (R k j)) (named x y e) ∙ first) rest)

  rising : (xs : List A) → IsRising R key xs → IsRising R key (filter_map f xs)
  rising [] r = refl
  rising (x ∷ xs) r = let p = parts_true _ _ r in go (f x) refl p.0 (rising xs p.1)
    where
      go : (o : Option A) → f x ≡ o → below_all R (key x) (key_pairs key xs) ≡ true → IsRising R key (filter_map f xs) → IsRising R key (filter_map f (x ∷ xs))
      go None e first rest = rw e rest
      go (Some y) e first rest = rw e (both _ _ (ap (λ j. below_all R j (key_pairs key (filter_map f xs))) (named x y e) ∙ below (key x) xs first) rest)

  unequal : (o : Ordering) → is_lt o ≡ true → is_eq o ≡ false
  unequal Less e = refl
  unequal Equal e = cc
  unequal Greater e = cc

  none_behind : (k : K) (xs : List A) → below_all R k (key_pairs key xs) ≡ true → item_of R key xs k ≡ None
  none_behind k [] b = refl
  none_behind k (x ∷ xs) b = let p = parts_true _ _ b in ap (λ z. cond z (Some x) (item_of R key xs k)) (unequal (R k (key x)) p.0) ∙ none_behind k xs p.1

  found : (xs : List A) (k : K) → IsRising R key xs → item_of R key (filter_map f xs) k ≡ option_and_then f (item_of R key xs k)
  found [] k r = refl
  found (x ∷ xs) k r = let p = parts_true _ _ r in go (f x) refl (is_eq (R k (key x))) refl p.0 (found xs k p.1)
    where
      go : (o : Option A) → f x ≡ o → (b : Bool) → is_eq (R k (key x)) ≡ b → below_all R (key x) (key_pairs key xs) ≡ true → item_of R key (filter_map f xs) k ≡ option_and_then f (item_of R key xs k)
          → item_of R key (filter_map f (x ∷ xs)) k ≡ option_and_then f (cond (is_eq (R k (key x))) (Some x) (item_of R key xs k))
      go None e true g first rest = rw (e, g) (
          let same : key x ≡ k = sym (exact k (key x) (is_eq_equal (R k (key x)) g)) in
          rest ∙ ap (option_and_then f) (none_behind k xs (ap (λ j. below_all R j (key_pairs key xs)) (sym same) ∙ first)) ∙ sym e)
      go None e false g first rest = rw (e, g) rest
      go (Some y) e true g first rest = rw (e, g) (
          let at : is_eq (R k (key y)) ≡ true = ap (λ j. is_eq (R k j)) (named x y e) ∙ g in
          ap (λ b. cond b (Some y) (item_of R key (filter_map f xs) k)) at ∙ sym e)
      go (Some y) e false g first rest = rw (e, g) (
          let at : is_eq (R k (key y)) ≡ false = ap (λ j. is_eq (R k j)) (named x y e) ∙ g in
          ap (λ b. cond b (Some y) (item_of R key (filter_map f xs) k)) at ∙ rest)

  -- what is left is a listing of what is left of each item
  pub listing_left : (xs ys : List A) → IsRising R key xs → ys ≡ filter_map f xs → IsListing R key ys (λ k. option_and_then f (item_of R key xs k))
  listing_left xs ys r e = record {
    rising = subst (IsRising R key) (sym e) (rising xs r);
    at_each = λ k. ap (λ l. item_of R key l k) e ∙ found xs k r;
  }
