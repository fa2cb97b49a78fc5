-- The least item of two lists that rise, before a listing of what is left, makes a listing of both.
use Rattle.std.proofs.Common.{◌≡◌, ◌+◌, ◌<◌, ◌↔◌, Bool, true, false, cond, List, [], ◌∷◌, length, Option, Some, None, arith, refl, sym, ap, ◌∙◌, subst, inl, inr}
use Rattle.std.proofs.lemmas.Map.Lookups.{CmpEqualImpliesEq}
use Rattle.std.specs.Cmp.{IsTotalOrder}
use Rattle.std.specs.FinMap.Entries.{below_all}
use Rattle.std.specs.Option.{option_or}
use Rattle.std.specs.Ordering.{is_eq, is_lt, ordering_reverse}
use Rattle.std.specs.declared.cmp.Ordering.{Ordering}
use Rattle.std.specs.declared.cmp.Ordering.TheVariants.{Less, Equal, Greater}
use Rattle.st_ids.specs.Listing.{Has, IsListing, IsRising, item_of, key_pairs}
use Rattle.st_ids.proofs.Listings.{has-item_of}
use Rattle.st_ids.proofs.Orders.{is_eq_equal}
use Rattle.st_lemmas.proofs.Bools.{and-both, and-first, and-second}
use Rattle.st_lemmas.proofs.Options.{one_some}
use Rattle.st_lemmas.proofs.Orders.{is_lt-Less}
use Rattle.st_listings.specs.inside.Merging.{IsNext, of_either}

-- two names are ordered as those that they are
pub ordered : {K : Type 0} (R : K → K → Ordering) (a b k l : K) (o p : Ordering) → a ≡ k → b ≡ l → o ≡ R a b → o ≡ p → R k l ≡ p
ordered R a b k l o p e f is at = (λ i. R (sym e i) (sym f i)) ∙ sym is ∙ at

not_equal : (o : Ordering) → is_lt o ≡ true → is_eq o ≡ false
not_equal o e = ap is_eq (is_lt-Less o e)

module _ {K A : Type 0} (R : K → K → Ordering) (t : IsTotalOrder R) (key : A → K) where
  -- a name is less than those of a list
  abbrev IsBelow : K → List A → Type 0
  IsBelow k xs = below_all R k (key_pairs key xs) ≡ true

  below_less : (a b : K) (xs : List A) → is_lt (R a b) ≡ true → IsBelow b xs → IsBelow a xs
  below_less a b [] h i = refl
  below_less a b (x ∷ xs) h i = and-both _ _ (ap is_lt (t.trans a b (key x) (is_lt-Less _ h) (is_lt-Less _ (and-first _ _ i)))) (below_less a b xs h (and-second _ _ i))

  below_rising : (k : K) (x : A) (xs : List A) → is_lt (R k (key x)) ≡ true → IsRising R key (x ∷ xs) → IsBelow k (x ∷ xs)
  below_rising k x xs h r = and-both _ _ h (below_less k (key x) xs h (and-first _ _ r))

  -- a list with one more before it rises exactly if that is less than the first, and the list rises
  pub rises_on : (x y : A) (others ys : List A) (b : Bool) → others ≡ y ∷ ys → b ≡ is_lt (R (key x) (key y)) → IsRising R key (x ∷ others) ↔ ((b ≡ true) × IsRising R key others)
  rises_on x y others ys b e f = subst (λ zs. IsRising R key (x ∷ zs) ↔ ((b ≡ true) × IsRising R key zs)) (sym e) (
    λ r. (f ∙ and-first _ _ (and-first _ _ r), and-second _ _ r),
    λ h. and-both _ _ (below_rising (key x) y ys (sym f ∙ h.0) h.1) h.1,
  )

  -- what is found in a list that stands above a name
  found_above : (k q : K) (xs : List A) (y : A) → IsBelow k xs → item_of R key xs q ≡ Some y → is_lt (R k (key y)) ≡ true
  found_above k q [] y b e = cc
  found_above k q (x ∷ xs) y b e = go (is_eq (R q (key x))) e (found_above k q xs y (and-second _ _ b))
    where
      go : (c : Bool) → cond c (Some x) (item_of R key xs q) ≡ Some y → (item_of R key xs q ≡ Some y → is_lt (R k (key y)) ≡ true) → is_lt (R k (key y)) ≡ true
      go true f rest = subst (λ z. is_lt (R k (key z)) ≡ true) (one_some x y f) (and-first _ _ b)
      go false f rest = rest f

  none_above : (k : K) (xs : List A) → IsBelow k xs → item_of R key xs k ≡ None
  none_above k [] b = refl
  none_above k (x ∷ xs) b = ap (λ c. cond c (Some x) (item_of R key xs k)) (not_equal _ (and-first _ _ b)) ∙ none_above k xs (and-second _ _ b)

  below_each : (k : K) (xs : List A) → ((y : A) → Has xs y → is_lt (R k (key y)) ≡ true) → IsBelow k xs
  below_each k [] h = refl
  below_each k (x ∷ xs) h = and-both _ _ (h x (inl refl)) (below_each k xs (λ y i. h y (inr i)))

  module _ (exact : CmpEqualImpliesEq R) where
    -- a name below two lists is below a listing of both
    below_both : (k : K) (us vs l : List A) → IsBelow k us → IsBelow k vs → IsListing R key l (of_either R key us vs) → IsBelow k l
    below_both k us vs l a b is = below_each k l (λ y h. go y (item_of R key us (key y)) refl (sym (is.at_each (key y)) ∙ has-item_of R t exact key l y is.rising h))
      where
        go : (y : A) (o : Option A) → item_of R key us (key y) ≡ o → option_or o (item_of R key vs (key y)) ≡ Some y → is_lt (R k (key y)) ≡ true
        go y None e f = found_above k (key y) vs y b f
        go y (Some x) e f = found_above k (key y) us y a (e ∙ f)

    -- an item below what is left of two lists, at whose name they have it, and at all others what is left
    next_of : (xs ys us vs : List A) (x : A) → IsRising R key us → IsRising R key vs → length us + length vs < length xs + length ys → IsBelow (key x) us → IsBelow (key x) vs
        → ((q : K) → cond (is_eq (R q (key x))) (Some x) (of_either R key us vs q) ≡ of_either R key xs ys q)
        → IsNext R key xs ys x us vs
    next_of xs ys us vs x r s fewer a b told = record {
      first_rises = r;
      second_rises = s;
      fewer = fewer;
      listed = λ l is. record {
        rising = and-both _ _ (below_both (key x) us vs l a b is) is.rising;
        at_each = λ q. ap (cond (is_eq (R q (key x))) (Some x)) (is.at_each q) ∙ told q;
      };
    }

    only_first : (x : A) (us vs : List A) (q : K) (c : Bool) → cond c (Some x) (of_either R key us vs q) ≡ option_or (cond c (Some x) (item_of R key us q)) (item_of R key vs q)
    only_first x us vs q true = refl
    only_first x us vs q false = refl

    -- an item of the first list, below the second
    pub next_first : (x : A) (us vs : List A) → IsRising R key (x ∷ us) → IsRising R key vs → IsBelow (key x) vs → IsNext R key (x ∷ us) vs x us vs
    next_first x us vs r s b = next_of (x ∷ us) vs us vs x (and-second _ _ r) s (omega arith) (and-first _ _ r) b (λ q. only_first x us vs q (is_eq (R q (key x))))

    -- an item of the second list, below the first
    pub next_second : (y : A) (us vs : List A) → IsRising R key us → IsRising R key (y ∷ vs) → IsBelow (key y) us → IsNext R key us (y ∷ vs) y us vs
    next_second y us vs r s a = next_of us (y ∷ vs) us vs y r (and-second _ _ s) (omega arith) a (and-first _ _ s) (λ q. go q (is_eq (R q (key y))) refl)
      where
        go : (q : K) (c : Bool) → is_eq (R q (key y)) ≡ c → cond c (Some y) (of_either R key us vs q) ≡ option_or (item_of R key us q) (cond c (Some y) (item_of R key vs q))
        go q true e =
            let same : q ≡ key y = exact q (key y) (is_eq_equal _ e) in
            ap (λ o. option_or o (Some y)) (sym (none_above (key y) us a) ∙ ap (item_of R key us) (sym same))
        go q false e = refl

    -- two items of one name
    pub next_both : (x y : A) (us vs : List A) → R (key x) (key y) ≡ Equal → IsRising R key (x ∷ us) → IsRising R key (y ∷ vs) → IsNext R key (x ∷ us) (y ∷ vs) x us vs
    next_both x y us vs e r s =
        let same : key x ≡ key y = exact (key x) (key y) e in
        next_of (x ∷ us) (y ∷ vs) us vs x (and-second _ _ r) (and-second _ _ s) (omega arith) (and-first _ _ r) (subst (λ k. IsBelow k vs) (sym same) (and-first _ _ s))
        (λ q. go q (is_eq (R q (key x))) ∙ ap (λ k. option_or (cond (is_eq (R q (key x))) (Some x) (item_of R key us q)) (cond (is_eq (R q k)) (Some y) (item_of R key vs q))) same)
      where
        go : (q : K) (c : Bool) → cond c (Some x) (of_either R key us vs q) ≡ option_or (cond c (Some x) (item_of R key us q)) (cond c (Some y) (item_of R key vs q))
        go q true = refl
        go q false = refl

    -- by the order of the first names
    pub next_less : (x y : A) (us vs : List A) → R (key x) (key y) ≡ Less → IsRising R key (x ∷ us) → IsRising R key (y ∷ vs) → IsNext R key (x ∷ us) (y ∷ vs) x us (y ∷ vs)
    next_less x y us vs e r s = next_first x us (y ∷ vs) r s (below_rising (key x) y vs (ap is_lt e) s)

    pub next_greater : (x y : A) (us vs : List A) → R (key x) (key y) ≡ Greater → IsRising R key (x ∷ us) → IsRising R key (y ∷ vs) → IsNext R key (x ∷ us) (y ∷ vs) y (x ∷ us) vs
    next_greater x y us vs e r s = next_second y (x ∷ us) vs r s (below_rising (key y) x us (ap is_lt (t.antisymm (key y) (key x) ∙ ap ordering_reverse e)) r)

-- what holds of two lists that rise, holds of them under other names
pub along_both : {K A : Type 0} (R : K → K → Ordering) (key : A → K) (xs us ys vs : List A) (P : List A → List A → Type 0) → xs ≡ us → ys ≡ vs → IsRising R key xs → IsRising R key ys
    → (IsRising R key us → IsRising R key vs → P us vs) → P xs ys
along_both R key xs us ys vs P e f r s h =
    subst (λ l. P l ys) (sym e) (subst (λ l. P us l) (sym f) (h (subst (IsRising R key) e r) (subst (IsRising R key) f s)))
