-- Maps of items under their names: the items, in the order of their names, are a listing.
use Rattle.std.proofs.Common.{◌≡◌, ℕ, ◌+◌, ◌<◌, Bool, true, false, cond, ◌&&◌, List, [], ◌∷◌, ◌++◌, length, take, get_or, Option, Some, None, Result, Ok, Err, refl, sym, ap, ◌∙◌, subst, append_assoc}
use Rattle.std.proofs.lemmas.Map.Lookups.{CmpEqualImpliesEq}
use Rattle.std.specs.BTreeMap.{is_at}
use Rattle.std.specs.Cmp.{IsTotalOrder}
use Rattle.std.specs.FinMap.Entries.{below_all, find, is_sorted}
use Rattle.std.specs.List.{AllByRecursion}
use Rattle.std.specs.List.Sorted.{IsStrictlySortedBy}
use Rattle.std.specs.Map.{keys_of, lookup, values_of}
use Rattle.std.specs.Option.{option_or}
use Rattle.std.specs.Prelude.{IfOk, OnOk}
use Rattle.std.specs.Ordering.{is_eq, is_lt, ordering_reverse}
use Rattle.std.specs.declared.cmp.Ordering.{Ordering}
use Rattle.std.specs.declared.cmp.Ordering.TheVariants.{Less, Equal, Greater}
use Rattle.st_ids.specs.Listing.{IsListing, item_of, key_pairs}
use Rattle.st_ids.proofs.Listings.{item_of-has}
use Rattle.st_ids.proofs.Orders.{is_eq_equal}
use Rattle.st_lemmas.proofs.FirstItems.{take_one}
use Rattle.st_lemmas.proofs.Options.{option_or-assoc}

-- ## Items that are gone through

-- what is listed, and what is left of the items
pub values_left : {A : Type 0} (before now whole : List A) (items left : List A) (x : A) → items ≡ x ∷ left → now ≡ before ++ x ∷ []
    → before ++ items ≡ whole → now ++ left ≡ whole
values_left before now whole items left x opened pushed so_far =
    ap (λ l. l ++ left) pushed ∙ append_assoc before (x ∷ []) left ∙ ap (λ l. before ++ l) (sym opened) ∙ so_far

module _ {K A : Type 0} (R : K → K → Ordering) (total : IsTotalOrder R) (key : A → K) where
  same_both : (a b : K) → is_eq (R a b) ≡ is_eq (R b a)
  same_both a b = ap is_eq (total.antisymm a b) ∙ turned (R b a)
    where
      turned : (o : Ordering) → is_eq (ordering_reverse o) ≡ is_eq o
      turned Less = refl
      turned Equal = refl
      turned Greater = refl

  item_of-push : (xs : List A) (x : A) (k : K) → item_of R key (xs ++ x ∷ []) k ≡ option_or (item_of R key xs k) (cond (is_eq (R k (key x))) (Some x) None)
  item_of-push [] x k = refl
  item_of-push (y ∷ xs) x k = go (is_eq (R k (key y))) (item_of-push xs x k)
    where
      go : (b : Bool) → item_of R key (xs ++ x ∷ []) k ≡ option_or (item_of R key xs k) (cond (is_eq (R k (key x))) (Some x) None)
          → cond b (Some y) (item_of R key (xs ++ x ∷ []) k) ≡ option_or (cond b (Some y) (item_of R key xs k)) (cond (is_eq (R k (key x))) (Some x) None)
      go true e = refl
      go false e = e

  -- one item more is kept under its name
  pub kept_more : (old before now : Option A) (xs : List A) (i : ℕ) (x : A) (q : K) → i < length xs → get_or xs i x ≡ x
      → before ≡ option_or old (item_of R key (take i xs) q) → now ≡ option_or before (cond (is_eq (R (key x) q)) (Some x) None) → now ≡ option_or old (item_of R key (take (i + 1) xs) q)
  kept_more old before now xs i x q inside at b h =
      h ∙ (λ j. option_or (b j) (cond (same_both (key x) q j) (Some x) None))
      ∙ option_or-assoc old (item_of R key (take i xs) q) (cond (is_eq (R q (key x))) (Some x) None)
      ∙ ap (option_or old) (sym (item_of-push (take i xs) x q) ∙ ap (λ l. item_of R key l q) (sym (take_one xs i x x inside at)))

-- ## The listing

module _ {K A : Type 0} (R : K → K → Ordering) (total : IsTotalOrder R) (exact : CmpEqualImpliesEq R) (key : A → K) where
  abbrev IsOwn : K × A → Type 0
  IsOwn e = key e.1 ≡ e.0

  not_equal : (o : Ordering) → o ≡ Less → is_eq o ≡ false
  not_equal o e = ap is_eq e

  -- no entry above a name has it
  none_above : (k : K) (es : List (K × A)) → AllByRecursion (λ y. R k y ≡ Less) (keys_of es) → lookup (is_at (R k)) es ≡ None
  none_above k [] a = refl
  none_above k (e ∷ es) a = ap (λ b. cond b (Some e.1) (lookup (is_at (R k)) es)) (not_equal (R k e.0) a.0) ∙ none_above k es a.1

  is_itself : (k : K) → is_eq (R k k) ≡ true
  is_itself k = go (R k k) (total.antisymm k k)
    where
      go : (o : Ordering) → o ≡ ordering_reverse o → is_eq o ≡ true
      go Less e = cc
      go Equal e = refl
      go Greater e = cc

  -- if what is found at a name has that name, each entry has its own
  own : (es : List (K × A)) → IsStrictlySortedBy R (keys_of es) → ((q : K) (x : A) → lookup (is_at (R q)) es ≡ Some x → key x ≡ q) → AllByRecursion IsOwn es
  unfolding IsStrictlySortedBy
  own [] s h = tt
  own (e ∷ es) s h = (h e.0 e.1 (ap (λ b. cond b (Some e.1) (lookup (is_at (R e.0)) es)) (is_itself e.0)), own es s.1 rest)
    where
      rest : (q : K) (x : A) → lookup (is_at (R q)) es ≡ Some x → key x ≡ q
      rest q x l = go (is_eq (R q e.0)) refl
        where
          go : (b : Bool) → is_eq (R q e.0) ≡ b → key x ≡ q
          go false f = h q x (ap (λ b. cond b (Some e.1) (lookup (is_at (R q)) es)) f ∙ l)
          go true f =
              let same : q ≡ e.0 = exact q e.0 (is_eq_equal (R q e.0) f) in
              let bad : ◌≡◌ {A = Option A} None (Some x) = sym (none_above e.0 es s.0) ∙ ap (λ k. lookup (is_at (R k)) es) (sym same) ∙ l in
              cc

  pairs_are : (es : List (K × A)) → AllByRecursion IsOwn es → key_pairs key (values_of es) ≡ es
  pairs_are [] a = refl
  pairs_are (e ∷ es) a = λ i. (a.0 i, e.1) ∷ pairs_are es a.1 i

  both_true : (a b : Bool) → a ≡ true → b ≡ true → (a && b) ≡ true
  both_true a b e g = rw (e, g) refl

  all_below : (k : K) (es : List (K × A)) → AllByRecursion (λ y. R k y ≡ Less) (keys_of es) → below_all R k es ≡ true
  all_below k [] a = refl
  all_below k (e ∷ es) a = both_true _ _ (ap is_lt a.0) (all_below k es a.1)

  sorted : (es : List (K × A)) → IsStrictlySortedBy R (keys_of es) → is_sorted R es ≡ true
  unfolding IsStrictlySortedBy
  sorted [] s = refl
  sorted (e ∷ es) s = both_true _ _ (all_below e.0 es s.0) (sorted es s.1)

  found : (es : List (K × A)) (q : K) → find R q es ≡ lookup (is_at (R q)) es
  found [] q = refl
  found (e ∷ es) q = ap (cond (is_eq (R q e.0)) (Some e.1)) (found es q)

  named : (xs ys : List A) (q : K) (x : A) → option_or (item_of R key xs q) (item_of R key ys q) ≡ Some x → key x ≡ q
  named xs ys q x e = go (item_of R key xs q) refl e
    where
      go : (o : Option A) → item_of R key xs q ≡ o → option_or o (item_of R key ys q) ≡ Some x → key x ≡ q
      go None f h = (item_of-has R total exact key ys q x h).1
      go (Some y) f h = (item_of-has R total exact key xs q x (f ∙ h)).1

  -- a map that has what two lists have
  pub listing_of : (es : List (K × A)) (xs ys out : List A) → IsStrictlySortedBy R (keys_of es) → out ≡ values_of es
      → ((q : K) → lookup (is_at (R q)) es ≡ option_or (item_of R key xs q) (item_of R key ys q))
      → IsListing R key out (λ k. option_or (item_of R key xs k) (item_of R key ys k))
  listing_of es xs ys out s made told =
      let is : key_pairs key out ≡ es = ap (key_pairs key) made ∙ pairs_are es (own es s (λ q x l. named xs ys q x (sym (told q) ∙ l))) in
      record {
        rising = subst (λ ps. is_sorted R ps ≡ true) (sym is) (sorted es s);
        at_each = λ k. ap (find R k) is ∙ found es k ∙ told k;
      }

  pub listing_made : {E : Type 0} (r : Result (List A) E) (es : List (K × A)) (xs ys : List A) → ((q : K) → lookup (is_at (R q)) es ≡ option_or (item_of R key xs q) (item_of R key ys q))
      → IfOk r (λ l. l ≡ values_of es) → OnOk r (IsStrictlySortedBy R (keys_of es)) → IfOk r (λ l. IsListing R key l (λ k. option_or (item_of R key xs k) (item_of R key ys k)))
  listing_made (Ok l) es xs ys told made s = listing_of es xs ys l s made told
  listing_made (Err e) es xs ys told made s = tt

-- a listing of two lists that are these
pub listed_along : {K A E : Type 0} (R : K → K → Ordering) (key : A → K) (r : Result (List A) E) (xs ys us vs : List A) → xs ≡ us → ys ≡ vs
    → IfOk r (λ l. IsListing R key l (λ k. option_or (item_of R key xs k) (item_of R key ys k))) → IfOk r (λ l. IsListing R key l (λ k. option_or (item_of R key us k) (item_of R key vs k)))
listed_along R key r xs ys us vs e f h =
    subst (λ vs. IfOk r (λ l. IsListing R key l (λ k. option_or (item_of R key us k) (item_of R key vs k)))) f (subst (λ us. IfOk r (λ l. IsListing R key l (λ k. option_or (item_of R key us k) (item_of R key ys k)))) e h)

pub listing_along : {K A : Type 0} (R : K → K → Ordering) (key : A → K) (l xs ys us vs : List A) → xs ≡ us → ys ≡ vs
    → IsListing R key l (λ k. option_or (item_of R key xs k) (item_of R key ys k)) → IsListing R key l (λ k. option_or (item_of R key us k) (item_of R key vs k))
listing_along R key l xs ys us vs e f h = record { rising = h.rising; at_each = λ k. h.at_each k ∙ (λ i. option_or (item_of R key (e i) k) (item_of R key (f i) k)) }
