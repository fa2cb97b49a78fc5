-- A commit whose number is above those of all that are kept.
use Rattle.std.proofs.Common.{◌≡◌, ◌<◌, ◌-◌, ◌==◌, ◌↔◌, ℕ, Bool, true, false, cond, nat_lt, List, [], ◌∷◌, length, refl, sym, ap, ◌∙◌, arith}
use Rattle.std.specs.List.{All}
use Rattle.std.proofs.lemmas.Bool.Decides.{nat_tests}
use Rattle.std.proofs.lemmas.List.Elements.{All-cons, All-head, All-nil, All-tail}
use Rattle.st_window.specs.Window.{kept_above}
use Rattle.st_window.specs.declared.kept.Kept.{Kept}

none_above : (n : ℕ) (ks : List Kept) → 0 < n → length (kept_above (n - 1) ks) ≡ 0 → All (λ (k : Kept). k.n < n) ks
none_above n [] some e = All-nil (λ (k : Kept). k.n < n)
none_above n (k ∷ ks) some e = go (nat_lt (n - 1) k.n) refl (none_above n ks some) e
  where
    go : (b : Bool) → nat_lt (n - 1) k.n ≡ b → (length (kept_above (n - 1) ks) ≡ 0 → All (λ (k : Kept). k.n < n) ks) → length (cond b (k ∷ kept_above (n - 1) ks) (kept_above (n - 1) ks)) ≡ 0 → All (λ (k : Kept). k.n < n) (k ∷ ks)
    go true is rest e = absurd (omega (arith, e))
    go false is rest e = let low : k.n < n = grind (arith, nat_tests) in All-cons (λ (k : Kept). k.n < n) k ks low (rest e)

above_none : (n : ℕ) (ks : List Kept) → 0 < n → All (λ (k : Kept). k.n < n) ks → length (kept_above (n - 1) ks) ≡ 0
above_none n [] some all = refl
above_none n (k ∷ ks) some all =
    let low : k.n < n = All-head (λ (k : Kept). k.n < n) k ks all in
    let fails : nat_lt (n - 1) k.n ≡ false = grind (arith, nat_tests) in
    rw fails (above_none n ks some (All-tail (λ (k : Kept). k.n < n) k ks all))

-- told by those above the number before it
pub behind_all : (n floor : ℕ) (ks later : List Kept) (none : Bool) → 0 < n → later ≡ kept_above (n - 1) ks → (n - 1 < floor → false ≡ true) → none ≡ (length later == 0) → (none ≡ true) ↔ ((floor < n) × All (λ (k : Kept). k.n < n) ks)
behind_all n floor ks later none some is within told = (forth, back)
  where
    low : floor < n
    low = go (nat_lt (n - 1) floor) refl
      where
        go : (b : Bool) → nat_lt (n - 1) floor ≡ b → floor < n
        go true e = let less : n - 1 < floor = grind (arith, nat_tests) in let bad = within less in cc
        go false e = grind (arith, nat_tests)

    forth : none ≡ true → (floor < n) × All (λ (k : Kept). k.n < n) ks
    forth e = let empty : length later ≡ 0 = grind (arith, nat_tests) in (low, none_above n ks some (sym (ap length is) ∙ empty))

    back : (floor < n) × All (λ (k : Kept). k.n < n) ks → none ≡ true
    back h = let empty : length later ≡ 0 = ap length is ∙ above_none n ks some h.1 in grind (arith, nat_tests)
