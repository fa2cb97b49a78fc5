-- Commits whose numbers rise, and those of them whose numbers are above one.
use Rattle.std.proofs.Common.{◌≡◌, ◌≤◌, ◌<◌, ℕ, zero, suc, Bool, true, false, cond, nat_le, nat_lt, List, [], ◌∷◌, ◌++◌, length, get_or, filter, drop, refl, ap, arith}
use Rattle.std.specs.List.{All}
use Rattle.std.specs.List.Sorted.{IsNonDecreasingBy, IsPartitionPoint}
use Rattle.std.proofs.lemmas.Bool.Decides.{nat_tests}
use Rattle.std.proofs.lemmas.List.Elements.{All-head, All-tail}
use Rattle.st_window.specs.Window.{RiseFrom, kept_above}
use Rattle.st_window.specs.declared.kept.Kept.{Kept}

-- ## Numbers that rise

-- each is above the number that they rise from
above_start : (n : ℕ) (ks : List Kept) (i : ℕ) (d : Kept) → RiseFrom n ks → i < length ks → n < (get_or ks i d).n
above_start n [] i d rise h = absurd (omega (arith, h))
above_start n (k ∷ ks) zero d rise h = rise.0
above_start n (k ∷ ks) (suc i) d rise h =
    let later : k.n < (get_or ks i d).n = above_start k.n ks i d rise.1 (omega (arith, h)) in
    omega (arith, rise.0, later)

-- a later one isn't lower
pub in_turn : (n : ℕ) (ks : List Kept) → RiseFrom n ks → IsNonDecreasingBy (λ (k : Kept). k.n) ks
in_turn n [] rise i j d le h = absurd (omega (arith, h))
in_turn n (k ∷ ks) rise zero zero d le h = omega arith
in_turn n (k ∷ ks) rise zero (suc j) d le h =
    let later : k.n < (get_or ks j d).n = above_start k.n ks j d rise.1 (omega (arith, h)) in
    omega (arith, later)
in_turn n (k ∷ ks) rise (suc i) zero d le h = absurd (omega (arith, le))
in_turn n (k ∷ ks) rise (suc i) (suc j) d le h = in_turn k.n ks rise.1 i j d (omega (arith, le)) (omega (arith, h))

-- they rise from a lower number too
rise_lower : (n m : ℕ) (ks : List Kept) → n < m → RiseFrom m ks → RiseFrom n ks
rise_lower n m [] h rise = tt
rise_lower n m (k ∷ ks) h rise = (omega (arith, h, rise.0), rise.1)

-- and so do those that pass a test
passed_rise : (p : Kept → Bool) (n : ℕ) (ks : List Kept) → RiseFrom n ks → RiseFrom n (filter p ks)
passed_rise p n [] rise = tt
passed_rise p n (k ∷ ks) rise = go (p k) (passed_rise p k.n ks rise.1)
  where
    go : (b : Bool) → RiseFrom k.n (filter p ks) → RiseFrom n (cond b (k ∷ filter p ks) (filter p ks))
    go true later = (rise.0, later)
    go false later = rise_lower n k.n (filter p ks) rise.0 later

-- one more, above all
pub pushed_rise : (n : ℕ) (ks : List Kept) (k : Kept) → RiseFrom n ks → n < k.n → All (λ (x : Kept). x.n < k.n) ks → RiseFrom n (ks ++ k ∷ [])
pushed_rise n [] k rise first all = (first, tt)
pushed_rise n (x ∷ xs) k rise first all =
    (rise.0, pushed_rise x.n xs k rise.1 (All-head (λ (y : Kept). y.n < k.n) x xs all) (All-tail (λ (y : Kept). y.n < k.n) x xs all))

-- ## Those above a number

-- they rise from it
pub above_rise : (n m : ℕ) (ks : List Kept) → RiseFrom n ks → RiseFrom m (kept_above m ks)
above_rise n m [] rise = tt
above_rise n m (k ∷ ks) rise = go (nat_lt m k.n) refl (above_rise k.n m ks rise.1)
  where
    go : (b : Bool) → nat_lt m k.n ≡ b → RiseFrom m (kept_above m ks) → RiseFrom m (cond b (k ∷ kept_above m ks) (kept_above m ks))
    go true is later = let above : m < k.n = grind (arith, nat_tests) in (above, passed_rise (λ (x : Kept). nat_lt m x.n) k.n ks rise.1)
    go false is later = later

-- where so many at the front fail a test and all others pass it, the others are what passes
rest_passes : {X : Type 0} (p : X → Bool) (xs : List X) (r : ℕ)
    → ((i : ℕ) (d : X) → i < r → p (get_or xs i d) ≡ false)
    → ((i : ℕ) (d : X) → r ≤ i → i < length xs → p (get_or xs i d) ≡ true)
    → drop r xs ≡ filter p xs
rest_passes p [] zero before after = refl
rest_passes p [] (suc r) before after = refl
rest_passes {X} p (x ∷ xs) zero before after =
    let passes : p x ≡ true = after 0 x (omega arith) (omega arith) in
    rw passes (ap (λ (ys : List X). x ∷ ys) (rest_passes p xs zero (λ i d l. absurd (omega (arith, l))) (λ i d l h. after (suc i) d (omega arith) (omega (arith, h)))))
rest_passes p (x ∷ xs) (suc r) before after =
    let fails : p x ≡ false = before 0 x (omega arith) in
    rw fails (rest_passes p xs r (λ i d l. before (suc i) d (omega (arith, l))) (λ i d l h. after (suc i) d (omega (arith, l)) (omega (arith, h))))

-- they stand behind those that aren't above it
pub rest_above : (n : ℕ) (ks : List Kept) (r : ℕ) → IsPartitionPoint (λ (k : Kept). nat_le k.n n ≡ true) (λ (k : Kept). nat_le k.n n ≡ false) ks r → drop r ks ≡ kept_above n ks
rest_above n ks r point = rest_passes (λ (k : Kept). nat_lt n k.n) ks r low high
  where
    low : (i : ℕ) (d : Kept) → i < r → nat_lt n (get_or ks i d).n ≡ false
    low i d l = let is : nat_le (get_or ks i d).n n ≡ true = point.0 i d (omega arith) l in grind (arith, nat_tests)

    high : (i : ℕ) (d : Kept) → r ≤ i → i < length ks → nat_lt n (get_or ks i d).n ≡ true
    high i d l h = let is : nat_le (get_or ks i d).n n ≡ false = point.1 i d l h in grind (arith, nat_tests)
