-- Rows that list few enough cells, as a test tells.
use Rattle.std.proofs.Common.{◌≡◌, ◌<◌, ℕ, true, List, [], ◌∷◌, length, min, nat_lt, refl, arith}
use Rattle.std.proofs.lemmas.Bool.Decides.{nat_tests}
use Rattle.std.specs.List.{AllByRecursion, list_all}
use Rattle.st_lemmas.proofs.Bools.{and-both, and-true}
use Rattle.st_marks.specs.Row.{CellMark}
use Rattle.st_marks.specs.Listings.{cells_after}
use Rattle.st_rows.proofs.ShortRows.{all_after}

pub short_row : (n : ℕ) (xs : List CellMark) → n ≡ min (length (cells_after xs)) 4294967296 → nat_lt n 4294967296 ≡ nat_lt (length xs) 4294967296
short_row n xs e = let a = all_after xs in grind (arith, nat_tests, a, e)

below : (n k : ℕ) → nat_lt n k ≡ true → n < k
below n k e = grind (arith, nat_tests, e)

tested : (n k : ℕ) → n < k → nat_lt n k ≡ true
tested n k e = grind (arith, nat_tests, e)

-- a number of each item is below a bound, and the test tells it
pub all_tested : {A : Type 0} (f : A → ℕ) (k : ℕ) (xs : List A) → (list_all (λ x. nat_lt (f x) k) xs ≡ true → AllByRecursion (λ x. f x < k) xs) × (AllByRecursion (λ x. f x < k) xs → list_all (λ x. nat_lt (f x) k) xs ≡ true)
all_tested f k [] = (λ e. tt, λ a. refl)
all_tested f k (x ∷ xs) =
    let rest = all_tested f k xs in
    (λ e. let p = and-true (nat_lt (f x) k) (list_all (λ x. nat_lt (f x) k) xs) e in (below (f x) k p.0, rest.0 p.1), λ a. and-both (nat_lt (f x) k) (list_all (λ x. nat_lt (f x) k) xs) (tested (f x) k a.0) (rest.1 a.1))
