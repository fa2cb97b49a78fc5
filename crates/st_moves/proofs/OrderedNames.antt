-- Lists that are made of the names of an ordered set.
use Rattle.std.proofs.Common.{◌≡◌, Bool, true, false, cond, ◌&&◌, ◌||◌, List, [], ◌∷◌, Option, Some, None, refl, sym, ap, ◌∙◌, subst}
use Rattle.std.specs.List.{AllByRecursion, filter_map, list_any}
use Rattle.std.specs.List.Sorted.{IsStrictlySortedBy}
use Rattle.std.specs.BTreeMap.{is_at}
use Rattle.std.specs.FinMap.Entries.{below_all}
use Rattle.std.specs.Ordering.{is_eq, is_lt}
use Rattle.std.specs.declared.cmp.Ordering.{Ordering}
use Rattle.std.specs.declared.cmp.Ordering.TheVariants.{Less}
use Rattle.std.proofs.lemmas.Map.Lookups.{CmpEqualImpliesEq}
use Rattle.st_ids.specs.Listing.{IsListing, IsRising, item_of, key_pairs}
use Rattle.st_ids.proofs.Orders.{is_eq_equal}

module _ {K A : Type 0} (R : K → K → Ordering) (exact : CmpEqualImpliesEq R) (key : A → K) (f : K → Option A) (named : (k : K) (x : A) → f k ≡ Some x → key x ≡ k) where
  both_true : (a b : Bool) → a ≡ true → b ≡ true → (a && b) ≡ true
  both_true a b e g = rw (e, g) refl

  abbrev is_among : List K → K → Bool
  is_among ks q = list_any (is_at (R q)) ks

  below : (k : K) (ks : List K) → AllByRecursion (λ y. R k y ≡ Less) ks → below_all R k (key_pairs key (filter_map f ks)) ≡ true
  below k [] a = refl
  below k (y ∷ ks) a = go (f y) refl (below k ks a.1)
    where
      go : (o : Option A) → f y ≡ o → below_all R k (key_pairs key (filter_map f ks)) ≡ true → below_all R k (key_pairs key (filter_map f (y ∷ ks))) ≡ true
      go None e rest = rw e rest
      go (Some x) e rest = rw e (both_true _ _ (ap is_lt (ap (R k) (named y x e) ∙ a.0)) rest)

  rising : (ks : List K) → IsStrictlySortedBy R ks → IsRising R key (filter_map f ks)
  unfolding IsStrictlySortedBy
  rising [] s = refl
  rising (y ∷ ks) s = go (f y) refl (rising ks s.1)
    where
      go : (o : Option A) → f y ≡ o → IsRising R key (filter_map f ks) → IsRising R key (filter_map f (y ∷ ks))
      go None e rest = rw e rest
      go (Some x) e rest = rw e (both_true _ _ (subst (λ k. below_all R k (key_pairs key (filter_map f ks)) ≡ true) (sym (named y x e)) (below y ks s.0)) rest)

  found : (ks : List K) (q : K) → item_of R key (filter_map f ks) q ≡ cond (is_among ks q) (f q) None
  found [] q = refl
  found (y ∷ ks) q = go (f y) refl (is_eq (R q y)) refl (is_among ks q) (found ks q)
    where
      is_y : is_eq (R q y) ≡ true → q ≡ y
      is_y e = exact q y (is_eq_equal (R q y) e)

      none : (b : Bool) → f q ≡ None → cond b (f q) None ≡ None
      none true e = e
      none false e = refl

      go : (o : Option A) → f y ≡ o → (b : Bool) → is_eq (R q y) ≡ b → (c : Bool) → item_of R key (filter_map f ks) q ≡ cond c (f q) None
          → item_of R key (filter_map f (y ∷ ks)) q ≡ cond (is_eq (R q y) || c) (f q) None
      go None e true g c rest = rw (e, g) (let none_here : f q ≡ None = ap f (is_y g) ∙ e in rest ∙ none c none_here ∙ sym none_here)
      go None e false g c rest = rw (e, g) rest
      go (Some x) e true g c rest = rw e (
          let at : is_eq (R q (key x)) ≡ true = ap (λ k. is_eq (R q k)) (named y x e) ∙ g in
          let here : f q ≡ Some x = ap f (is_y g) ∙ e in
          ap (λ b. cond b (Some x) (item_of R key (filter_map f ks) q)) at ∙ sym here ∙ sym (ap (λ b. cond (b || c) (f q) None) g))
      go (Some x) e false g c rest = rw e (
          let at : is_eq (R q (key x)) ≡ false = ap (λ k. is_eq (R q k)) (named y x e) ∙ g in
          ap (λ b. cond b (Some x) (item_of R key (filter_map f ks) q)) at ∙ rest ∙ sym (ap (λ b. cond (b || c) (f q) None) g))

  -- what is listed of the names of a set is a listing of what is looked up, where no other name has anything
  pub listing : (ks : List K) (out : List A) (look : K → Option A) → IsStrictlySortedBy R ks → out ≡ filter_map f ks → ((q : K) → list_any (is_at (R q)) ks ≡ true → f q ≡ look q) → ((q : K) → list_any (is_at (R q)) ks ≡ false → look q ≡ None)
      → IsListing R key out look
  listing ks out look sorted made same others = record {
    rising = subst (IsRising R key) (sym made) (rising ks sorted);
    at_each = λ q. ap (λ l. item_of R key l q) made ∙ found ks q ∙ go q (is_among ks q) refl;
  }
    where
      go : (q : K) (b : Bool) → is_among ks q ≡ b → cond (is_among ks q) (f q) None ≡ look q
      go q true e = rw e (same q e)
      go q false e = rw e (sym (others q e))
