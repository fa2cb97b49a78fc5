-- Lists that are made of the entries of an ordered map.
use Rattle.std.proofs.Common.{◌≡◌, Bool, true, false, cond, ◌&&◌, List, [], ◌∷◌, ◌++◌, Option, Some, None, option_and_then, refl, sym, ap, ◌∙◌, subst, append_assoc}
use Rattle.std.specs.BTreeMap.{is_at}
use Rattle.std.specs.Cmp.{IsTotalOrder}
use Rattle.std.specs.FinMap.Entries.{below_all}
use Rattle.std.specs.List.{AllByRecursion, filter_map, find}
use Rattle.std.specs.List.Sorted.{IsStrictlySortedBy}
use Rattle.std.specs.Map.{keys_of, lookup}
use Rattle.std.specs.Option.{option_to_list}
use Rattle.std.specs.Ordering.{is_eq, is_lt}
use Rattle.std.specs.declared.cmp.Ordering.{Ordering}
use Rattle.std.specs.declared.cmp.Ordering.TheVariants.{Less}
use Rattle.std.proofs.lemmas.List.{append-nil}
use Rattle.std.proofs.lemmas.Map.Lookups.{CmpEqualImpliesEq}
use Rattle.st_ids.specs.Listing.{IsRising, item_of, key_pairs}
use Rattle.st_ids.proofs.Orders.{is_eq_equal, self_reverse}
use Rattle.st_lemmas.proofs.Bools.{true-false}

-- ## Gone through

pub listed_left : {A B : Type 0} (f : A → Option B) (before now whole : List B) (items left : List A) (k : A) → items ≡ k ∷ left → now ≡ before ++ option_to_list (f k)
    → before ++ filter_map f items ≡ whole → now ++ filter_map f left ≡ whole
listed_left {B = B} f before now whole items left k opened pushed so_far =
    ap (λ l. l ++ filter_map f left) pushed ∙ append_assoc before (option_to_list (f k)) (filter_map f left) ∙ ap (λ l. before ++ l) (one (f k) refl)
    ∙ ap (λ l. before ++ filter_map f l) (sym opened) ∙ so_far
  where
    one : (o : Option B) → f k ≡ o → option_to_list o ++ filter_map f left ≡ filter_map f (k ∷ left)
    one None e = rw e refl
    one (Some x) e = rw e refl

pub listed_all : {A B : Type 0} (f : A → Option B) (out whole : List B) (items : List A) → items ≡ [] → out ++ filter_map f items ≡ whole → out ≡ whole
listed_all f out whole items none so_far = sym (append-nil out) ∙ ap (λ l. out ++ filter_map f l) (sym none) ∙ so_far

-- ## Listed

module _ {K V A : Type 0} (R : K → K → Ordering) (total : IsTotalOrder R) (exact : CmpEqualImpliesEq R) (key : A → K)
    (f : K × V → Option A) (named : (e : K × V) (x : A) → f e ≡ Some x → key x ≡ e.0) where
  both_true : (a b : Bool) → a ≡ true → b ≡ true → (a && b) ≡ true
  both_true a b e g = rw (e, g) refl

  below : (k : K) (es : List (K × V)) → AllByRecursion (λ y. R k y ≡ Less) (keys_of es) → below_all R k (key_pairs key (filter_map f es)) ≡ true
  below k [] a = refl
  below k (e ∷ es) a = go (f e) refl (below k es a.1)
    where
      go : (o : Option A) → f e ≡ o → below_all R k (key_pairs key (filter_map f es)) ≡ true → below_all R k (key_pairs key (filter_map f (e ∷ es))) ≡ true
      go None q rest = rw q rest
      go (Some x) q rest = rw q (both_true _ _ (ap is_lt (ap (R k) (named e x q) ∙ a.0)) rest)

  pub rising : (es : List (K × V)) → IsStrictlySortedBy R (keys_of es) → IsRising R key (filter_map f es)
  unfolding IsStrictlySortedBy
  rising [] s = refl
  rising (e ∷ es) s = go (f e) refl (rising es s.1)
    where
      go : (o : Option A) → f e ≡ o → IsRising R key (filter_map f es) → IsRising R key (filter_map f (e ∷ es))
      go None q rest = rw q rest
      go (Some x) q rest = rw q (both_true _ _ (subst (λ k. below_all R k (key_pairs key (filter_map f es)) ≡ true) (sym (named e x q)) (below e.0 es s.0)) rest)

  none_above : (k : K) (es : List (K × V)) → AllByRecursion (λ y. R k y ≡ Less) (keys_of es) → lookup (is_at (R k)) es ≡ None
  none_above k [] a = refl
  none_above k (e ∷ es) a = ap (λ b. cond b (Some e.1) (lookup (is_at (R k)) es)) (ap is_eq a.0) ∙ none_above k es a.1

  -- what is listed at a key is made of what the map has there
  abbrev made : K → Option V → Option A
  made q o = option_and_then (λ v. f (q, v)) o

  pub found : (es : List (K × V)) (q : K) → IsStrictlySortedBy R (keys_of es) → item_of R key (filter_map f es) q ≡ made q (lookup (is_at (R q)) es)
  unfolding IsStrictlySortedBy
  found [] q s = refl
  found (e ∷ es) q s = go (f e) refl (is_eq (R q e.0)) refl (found es q s.1)
    where
      is_it : is_eq (R q e.0) ≡ true → q ≡ e.0
      is_it g = exact q e.0 (is_eq_equal (R q e.0) g)

      go : (o : Option A) → f e ≡ o → (b : Bool) → is_eq (R q e.0) ≡ b → item_of R key (filter_map f es) q ≡ made q (lookup (is_at (R q)) es)
          → item_of R key (filter_map f (e ∷ es)) q ≡ made q (cond (is_eq (R q e.0)) (Some e.1) (lookup (is_at (R q)) es))
      go None h true g rest = rw (h, g) (
          let there : q ≡ e.0 = is_it g in
          rest ∙ ap (made q) (ap (λ k. lookup (is_at (R k)) es) there ∙ none_above e.0 es s.0) ∙ sym (ap (λ k. f (k, e.1)) there ∙ h))
      go None h false g rest = rw (h, g) rest
      go (Some x) h true g rest = rw h (
          let at : is_eq (R q (key x)) ≡ true = ap (λ k. is_eq (R q k)) (named e x h) ∙ g in
          ap (λ b. cond b (Some x) (item_of R key (filter_map f es) q)) at ∙ sym (ap (λ k. f (k, e.1)) (is_it g) ∙ h) ∙ sym (ap (λ b. made q (cond b (Some e.1) (lookup (is_at (R q)) es))) g))
      go (Some x) h false g rest = rw h (
          let at : is_eq (R q (key x)) ≡ false = ap (λ k. is_eq (R q k)) (named e x h) ∙ g in
          ap (λ b. cond b (Some x) (item_of R key (filter_map f es) q)) at ∙ rest ∙ sym (ap (λ b. made q (cond b (Some e.1) (lookup (is_at (R q)) es))) g))

-- ## Found by a test

module _ {K A : Type 0} (R : K → K → Ordering) (total : IsTotalOrder R) (exact : CmpEqualImpliesEq R) (key : A → K) where
  -- the first item that passes a test of its name is the item of that name
  pub found_by : (p : A → Bool) (k : K) → ((x : A) → p x ≡ true → key x ≡ k) → ((x : A) → key x ≡ k → p x ≡ true) → (xs : List A) → find p xs ≡ item_of R key xs k
  found_by p k is there [] = refl
  found_by p k is there (x ∷ xs) = go (p x) refl (found_by p k is there xs)
    where
      itself : is_eq (R k k) ≡ true
      itself = self_reverse (R k k) (total.antisymm k k)

      not_it : (b : Bool) → is_eq (R k (key x)) ≡ b → p x ≡ false → b ≡ false
      not_it false e g = refl
      not_it true e g = absurd (true-false (there x (sym (exact k (key x) (is_eq_equal (R k (key x)) e)))) g)

      go : (b : Bool) → p x ≡ b → find p xs ≡ item_of R key xs k → cond (p x) (Some x) (find p xs) ≡ cond (is_eq (R k (key x))) (Some x) (item_of R key xs k)
      go true e rest = rw (e, ap (λ j. is_eq (R k j)) (is x e) ∙ itself) refl
      go false e rest = rw (e, not_it (is_eq (R k (key x))) refl e) rest
