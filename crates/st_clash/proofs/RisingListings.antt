-- A listing rises where each name is less than the next.
use Rattle.std.proofs.Common.{◌≡◌, ◌<◌, ◌+◌, ◌-◌, ℕ, zero, suc, true, false, List, [], ◌∷◌, length, get_or, refl, sym, ap, ◌∙◌, arith, subst, inl, inr}
use Rattle.std.specs.declared.cmp.Ordering.{Ordering}
use Rattle.std.specs.declared.cmp.Ordering.TheVariants.{Less, Equal, Greater}
use Rattle.std.specs.Cmp.{IsTotalOrder}
use Rattle.std.specs.FinMap.Entries.{below_all}
use Rattle.std.specs.Ordering.{is_lt}
use Rattle.std.specs.Prelude.{IsTrue}
use Rattle.st_ids.specs.Listing.{IsRising, key_pairs}
use Rattle.st_clash.proofs.ItemSearch.{order}
use Rattle.st_clash.proofs.LeastFields.{there}
use Rattle.st_lemmas.proofs.Bools.{and-both, and-second, and-first, true-false}

less : (o : Ordering) → is_lt o ≡ true → o ≡ Less
less Less e = refl
less Equal e = cc
less Greater e = cc

module _ {K A : Type 0} (R : K → K → Ordering) (t : IsTotalOrder R) (key : A → K) where
  -- so many names are each less than the next
  abbrev pub RisesTo : List A → ℕ → Type 0
  RisesTo xs n = (k : ℕ) (d : A) → k + 1 < n → is_lt (R (key (get_or xs k d)) (key (get_or xs (k + 1) d))) ≡ true

  below_less : (a b : K) (xs : List A) → is_lt (R a b) ≡ true → IsTrue (below_all R b (key_pairs key xs)) → IsTrue (below_all R a (key_pairs key xs))
  below_less a b [] h i = refl
  below_less a b (x ∷ xs) h i = and-both _ _ (ap is_lt (t.trans a b (key x) (less _ h) (less _ (and-first _ _ i)))) (below_less a b xs h (and-second _ _ i))

  pub rises_all : (xs : List A) → RisesTo xs (length xs) → IsRising R key xs
  rises_all [] h = refl
  rises_all (x ∷ []) h = refl
  rises_all (x ∷ (y ∷ zs)) h =
      let rest : IsRising R key (y ∷ zs) = rises_all (y ∷ zs) (λ k d l.
      let e : suc k + 1 ≡ suc (k + 1) = omega arith in
      subst (λ i. is_lt (R (key (get_or (x ∷ (y ∷ zs)) (suc k) d)) (key (get_or (x ∷ (y ∷ zs)) i d))) ≡ true) e (h (suc k) d (omega (arith, l)))) in
      let first : is_lt (R (key x) (key y)) ≡ true = h 0 x (omega arith) in
      and-both _ _ (and-both _ _ first (below_less (key x) (key y) zs first (and-first _ _ rest))) rest

  pub all_rise : (xs : List A) → IsRising R key xs → RisesTo xs (length xs)
  all_rise [] h k d l = absurd (omega (arith, l))
  all_rise (x ∷ []) h k d l = absurd (omega (arith, l))
  all_rise (x ∷ (y ∷ zs)) h zero d l = and-first _ _ (and-first _ _ h)
  all_rise (x ∷ (y ∷ zs)) h (suc k) d l =
      let e : suc k + 1 ≡ suc (k + 1) = omega arith in
      subst (λ i. is_lt (R (key (get_or (x ∷ (y ∷ zs)) (suc k) d)) (key (get_or (x ∷ (y ∷ zs)) i d))) ≡ true) (sym e) (all_rise (y ∷ zs) (and-second _ _ h) k d (omega (arith, l)))

  pub one_rises : (xs : List A) → RisesTo xs 1
  one_rises xs k d l = absurd (omega (arith, l))

  at_place : (xs : List A) (i : ℕ) (x d : A) → i < length xs → get_or xs i d ≡ get_or xs i x
  at_place xs i x d l = let r = there xs i l in r.3 d ∙ sym (r.3 x)

  pub more_rises : (xs : List A) (n : ℕ) (x y : A) → 0 < n → n < length xs → is_lt (R (key (get_or xs (n - 1) x)) (key (get_or xs n y))) ≡ true → RisesTo xs n → RisesTo xs (n + 1)
  more_rises xs n x y p within h so_far k d l = elim (order (k + 1) n) [
    | inl e ↦ so_far k d e
    | inr e ↦ (
        let f : n ≡ k + 1 = omega (arith, e, l) in
        let g : n - 1 ≡ k = omega (arith, f) in
        let a : get_or xs k d ≡ get_or xs (n - 1) x = subst (λ i. get_or xs i d ≡ get_or xs (n - 1) x) g (at_place xs (n - 1) x d (omega (arith, within))) in
        let b : get_or xs (k + 1) d ≡ get_or xs n y = subst (λ i. get_or xs i d ≡ get_or xs n y) f (at_place xs n y d within) in
        (λ i. is_lt (R (key (a i)) (key (b i)))) ∙ h
        )
  ]

  pub to_the_end : (xs : List A) (n : ℕ) → (n < length xs → ⊥) → RisesTo xs n → IsRising R key xs
  to_the_end xs n past h = rises_all xs (λ k d l. h k d (elim (order (k + 1) n) [ inl e ↦ e | inr e ↦ absurd (past (omega (arith, e, l))) ]))

  pub falls : (xs : List A) (n : ℕ) (x y : A) → 0 < n → n < length xs → is_lt (R (key (get_or xs (n - 1) x)) (key (get_or xs n y))) ≡ false → IsRising R key xs → ⊥
  falls xs n x y p within f h =
      let e : n - 1 + 1 ≡ n = omega (arith, p) in
      let b : get_or xs (n - 1 + 1) x ≡ get_or xs n y = subst (λ i. get_or xs i x ≡ get_or xs n y) (sym e) (at_place xs n y x within) in
      true-false (all_rise xs h (n - 1) x (omega (arith, p, within))) (ap (λ z. is_lt (R (key (get_or xs (n - 1) x)) (key z))) b ∙ f)
