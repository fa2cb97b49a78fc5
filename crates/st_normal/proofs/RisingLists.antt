-- A list rises where each of its names is before the next.
use Rattle.std.proofs.Common.{◌≡◌, ◌≤◌, length, get_or, arith, Bool, true, false, ◌&&◌, List, [], ◌∷◌, refl, sym, ap, ◌∙◌}
use Rattle.std.specs.Cmp.{IsTotalOrder}
use Rattle.std.specs.FinMap.Entries.{below_all, is_sorted}
use Rattle.std.specs.Ordering.{is_lt}
use Rattle.std.specs.declared.cmp.Ordering.{Ordering}
use Rattle.std.specs.declared.cmp.Ordering.TheVariants.{Less}
use Rattle.st_ids.specs.Listing.{key_pairs}
use Rattle.st_lemmas.proofs.Bools.{and-both, and-true}
use Rattle.st_lemmas.proofs.Orders.{is_lt-Less}

module _ {K A : Type 0} (R : K → K → Ordering) (t : IsTotalOrder R) (key : A → K) where
  below-lower : (j k : K) (xs : List A) → R j k ≡ Less → below_all R k (key_pairs key xs) ≡ true → below_all R j (key_pairs key xs) ≡ true
  below-lower j k [] e f = refl
  below-lower j k (x ∷ xs) e f = let p = and-true _ _ f in and-both _ _ (ap is_lt (t.trans j k (key x) e (is_lt-Less _ p.0))) (below-lower j k xs e p.1)

  absorbed : (b c d e : Bool) → (b ≡ true → d ≡ true → c ≡ true) → ((b && c) && (d && e)) ≡ (b && (d && e))
  absorbed true true d e h = refl
  absorbed true false true e h = let q = h refl refl in cc
  absorbed true false false e h = refl
  absorbed false c d e h = refl

  pub rising_step : (x y : A) (zs : List A) → is_sorted R (key_pairs key (x ∷ y ∷ zs)) ≡ (is_lt (R (key x) (key y)) && is_sorted R (key_pairs key (y ∷ zs)))
  rising_step x y zs = absorbed (is_lt (R (key x) (key y))) (below_all R (key x) (key_pairs key zs)) (below_all R (key y) (key_pairs key zs)) (is_sorted R (key_pairs key zs)) (λ e f. below-lower (key x) (key y) zs (is_lt-Less _ e) f)

  -- the second by its place
  pub rising_first : (x y : A) (xs : List A) (b : Bool) → 1 ≤ length xs → y ≡ get_or xs 0 y → b ≡ is_lt (R (key x) (key y)) → is_sorted R (key_pairs key (x ∷ xs)) ≡ (b && is_sorted R (key_pairs key xs))
  rising_first x y [] b l e f = absurd (omega (arith, l))
  rising_first x y (z ∷ zs) b l e f = rising_step x z zs ∙ ap (λ c. c && is_sorted R (key_pairs key (z ∷ zs))) (sym (f ∙ ap (λ w. is_lt (R (key x) (key w))) e))
