-- What is found under finitely many names has a listing.
use Rattle.std.proofs.Common.{◌≡◌, Bool, true, false, cond, T, List, [], ◌∷◌, map, Option, Some, None, refl, sym, ap, ◌∙◌, inl, inr}
use Rattle.std.specs.Cmp.{IsTotalOrder}
use Rattle.std.proofs.lemmas.Cmp.{tied_itself}
use Rattle.std.specs.List.{AllByRecursion}
use Rattle.std.specs.FinMap.Entries.{by_order, find, find-put, is_sorted, is_sorted-put, put}
use Rattle.std.specs.Ordering.{eq_by_cmp, is_eq}
use Rattle.std.specs.declared.cmp.Ordering.{Ordering}
use Rattle.std.specs.declared.cmp.Ordering.TheVariants.{Less, Equal, Greater}
use Rattle.std.proofs.lemmas.Map.Lookups.{CmpEqualImpliesEq}
use Rattle.st_ids.specs.Listing.{Has, IsListing, key_pairs}
use Rattle.st_ids.proofs.Orders.{is_eq_equal}

is_true : (b : Bool) → T b → b ≡ true
is_true true t = refl
is_true false t = absurd t

module _ {K A : Type 0} (R : K → K → Ordering) (o : IsTotalOrder R) (exact : CmpEqualImpliesEq R) (key : A → K) (look : K → Option A) (named : (k : K) (x : A) → look k ≡ Some x → key x ≡ k) where
  abbrev put_if : K → Option A → List (K × A) → List (K × A)
  put_if k None es = es
  put_if k (Some x) es = put R k x es

  -- what is found under some names, in order
  abbrev gathered : List K → List (K × A)
  gathered [] = []
  gathered (k ∷ ks) = put_if k (look k) (gathered ks)

  sorted_if : (k : K) (x : Option A) (es : List (K × A)) → T (is_sorted R es) → T (is_sorted R (put_if k x es))
  sorted_if k None es s = s
  sorted_if k (Some x) es s = is_sorted-put R o k x es s

  sorted : (ks : List K) → T (is_sorted R (gathered ks))
  sorted [] = tt
  sorted (k ∷ ks) = sorted_if k (look k) (gathered ks) (sorted ks)

  same_key : (q k : K) → eq_by_cmp R q k ≡ true → q ≡ k
  same_key q k e = exact q k (is_eq_equal (R q k) e)

  -- what isn't found under a name isn't there either
  none_if : (k q : K) (x : Option A) (es : List (K × A)) → look k ≡ x → look q ≡ None → find R q es ≡ None → find R q (put_if k x es) ≡ None
  none_if k q None es e none rest = rest
  none_if k q (Some x) es e none rest = find-put R o q k x es ∙ go (eq_by_cmp R q k) refl
    where
      go : (b : Bool) → eq_by_cmp R q k ≡ b → cond b (Some x) (find R q es) ≡ None
      go true is = absurd (let bad : Some x ≡ None = sym e ∙ ap look (sym (same_key q k is)) ∙ none in cc)
      go false is = rest

  none_there : (ks : List K) (q : K) → look q ≡ None → find R q (gathered ks) ≡ None
  none_there [] q none = refl
  none_there (k ∷ ks) q none = none_if k q (look k) (gathered ks) refl none (none_there ks q none)

  -- what is found stays found
  stays_if : (k q : K) (x : Option A) (es : List (K × A)) → look k ≡ x → find R q es ≡ look q → find R q (put_if k x es) ≡ look q
  stays_if k q None es e rest = rest
  stays_if k q (Some x) es e rest = find-put R o q k x es ∙ go (eq_by_cmp R q k) refl
    where
      go : (b : Bool) → eq_by_cmp R q k ≡ b → cond b (Some x) (find R q es) ≡ look q
      go true is = sym e ∙ ap look (sym (same_key q k is))
      go false is = rest

  here_if : (k : K) (x : Option A) (es : List (K × A)) → look k ≡ x → (look k ≡ None → find R k es ≡ None) → find R k (put_if k x es) ≡ look k
  here_if k None es e none = none e ∙ sym e
  here_if k (Some x) es e none = find-put R o k k x es ∙ ap (λ b. cond b (Some x) (find R k es)) (ap is_eq (tied_itself o k)) ∙ sym e

  found_there : (ks : List K) (q : K) → Has ks q → find R q (gathered ks) ≡ look q
  found_there [] q h = absurd h
  found_there (k ∷ ks) q (inl is) =
      let at : find R k (gathered (k ∷ ks)) ≡ look k = here_if k (look k) (gathered ks) refl (none_there ks k) in
      ap (λ x. find R x (gathered (k ∷ ks))) (sym is) ∙ at ∙ ap look is
  found_there (k ∷ ks) q (inr h) = stays_if k q (look k) (gathered ks) refl (found_there ks q h)

  -- each stands under its name
  abbrev AreNamed : List (K × A) → Type 0
  AreNamed es = AllByRecursion (λ e. key e.1 ≡ e.0) es

  put_named : (k : K) (x : A) (es : List (K × A)) → key x ≡ k → AreNamed es → AreNamed (put R k x es)
  put_named k x [] is rest = (is, tt)
  put_named k x (e ∷ es) is rest = go (R k e.0) refl (put_named k x es is rest.1)
    where
      go : (r : Ordering) → R k e.0 ≡ r → AreNamed (put R k x es) → AreNamed (by_order r ((k, x) ∷ e ∷ es) ((e.0, x) ∷ es) (e ∷ put R k x es))
      go Less at later = (is, rest)
      go Equal at later = (is ∙ exact k e.0 at, rest.1)
      go Greater at later = (rest.0, later)

  named_if : (k : K) (x : Option A) (es : List (K × A)) → look k ≡ x → AreNamed es → AreNamed (put_if k x es)
  named_if k None es e rest = rest
  named_if k (Some x) es e rest = put_named k x es (named k x e) rest

  all_named : (ks : List K) → AreNamed (gathered ks)
  all_named [] = tt
  all_named (k ∷ ks) = named_if k (look k) (gathered ks) refl (all_named ks)

  pairs : (es : List (K × A)) → AreNamed es → key_pairs key (map (λ e. e.1) es) ≡ es
  pairs [] a = refl
  pairs (e ∷ es) a = λ i. (a.0 i, e.1) ∷ pairs es a.1 i

  -- where all names are known under which something is found
  pub has_listing : (ks : List K) → ((q : K) (x : A) → look q ≡ Some x → Has ks q) → (xs : List A) × IsListing R key xs look
  has_listing ks all = (map (λ e. e.1) (gathered ks), record { rising = rising; at_each = λ q. ap (find R q) same ∙ at q (look q) refl })
    where
      same : key_pairs key (map (λ e. e.1) (gathered ks)) ≡ gathered ks
      same = pairs (gathered ks) (all_named ks)

      rising : is_sorted R (key_pairs key (map (λ e. e.1) (gathered ks))) ≡ true
      rising = ap (is_sorted R) same ∙ is_true (is_sorted R (gathered ks)) (sorted ks)

      at : (q : K) (x : Option A) → look q ≡ x → find R q (gathered ks) ≡ look q
      at q None e = none_there ks q e ∙ sym e
      at q (Some x) e = found_there ks q (all q x e)
