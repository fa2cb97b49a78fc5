-- What is written is read back.
use Rattle.std.proofs.Common.{◌≡◌, ◌<◌, ◌^◌, ℕ, true, refl, arith, inl, inr, sym, ap, ◌∙◌, Option, Some, None}
use Rattle.std.proofs.lemmas.Bool.{cases_Bool}
use Rattle.std.proofs.lemmas.Bool.Decides.{nat_tests}
use Rattle.std.specs.Option.{option_map}
use Rattle.std.specs.Prelude.{ℤ, pos, negsuc, nat_lt}
use Rattle.st_idcodec.specs.OpText.{rev_data, atom_data, rev_number, place_number, atom_numbers, IsShort}
use Rattle.st_idcodec.specs.TableText.{plain_number}
use Rattle.st_idcodec.proofs.Sound.{from_some, from_map, place_is}

pub rev_back : (z : ℤ) → IsShort z → rev_number (rev_data z) ≡ Some z
rev_back (pos n) h = let test : nat_lt n (2 ^ 63) ≡ true = grind (arith, nat_tests, h) in rw test refl
rev_back (negsuc n) h = refl

pub atom_back : (z : ℤ) (n : ℕ) → IsShort z → n < 2 ^ 32 → ◌≡◌ {A = Option (ℤ × ℕ)} (atom_numbers (atom_data z n)) (Some (z, n))
atom_back (pos m) n h k =
    let test : nat_lt m (2 ^ 63) ≡ true = grind (arith, nat_tests, h) in
    let place : nat_lt n (2 ^ 32) ≡ true = grind (arith, nat_tests, k) in
    rw (test, place) refl
atom_back (negsuc m) n h k =
    let place : nat_lt n (2 ^ 32) ≡ true = grind (arith, nat_tests, k) in
    rw place refl

-- nothing else is read
pub rev_only : (z w : ℤ) → rev_number (rev_data z) ≡ Some w → w ≡ z
rev_only (pos n) w e = elim (cases_Bool (nat_lt n (2 ^ 63))) [
  | inl t ↦ let read : ◌≡◌ {A = Option ℤ} (Some (pos n)) (Some w) = rw t at e in cc read
  | inr t ↦ let none : ◌≡◌ {A = Option ℤ} None (Some w) = rw t at e in absurd (cc none)
]
rev_only (negsuc n) w e = let read : ◌≡◌ {A = Option ℤ} (Some (negsuc n)) (Some w) = e in cc read

plain_same : (m n : ℕ) → plain_number m ≡ plain_number n → m ≡ n
plain_same m n e = cc e

pub atom_only : (z w : ℤ) (n m : ℕ) → ◌≡◌ {A = Option (ℤ × ℕ)} (atom_numbers (atom_data z n)) (Some (w, m)) → (w ≡ z) × (m ≡ n)
atom_only z w n m e =
    let x = from_some (rev_number (rev_data z)) (λ (z : ℤ). option_map (λ (n : ℕ). (z, n)) (place_number (plain_number n))) (w, m) e in
    let y = from_map (place_number (plain_number n)) (λ (n : ℕ). (x.0, n)) (w, m) x.2 in
    let number : y.0 ≡ n = sym (plain_same n y.0 (place_is (plain_number n) y.0 y.1)) in
    (ap (λ (p : ℤ × ℕ). p.0) (sym y.2) ∙ rev_only z x.0 x.1, ap (λ (p : ℤ × ℕ). p.1) (sym y.2) ∙ number)
