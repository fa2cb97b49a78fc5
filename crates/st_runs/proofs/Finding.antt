-- Where a place stands among the kept runs.
use Rattle.std.proofs.Common.{◌≡◌, ◌<◌, ◌≤◌, ◌+◌, ℕ, List, true, false, length, get_or, take, sym, ap, arith}
use Rattle.std.specs.List.{flat_map}
use Rattle.std.proofs.lemmas.List.Folds.{length-flat_map-take}

-- the runs before one and a part of its items are fewer than the whole list
pub stands_inside : {R A : Type 0} (f : R → List A) (xs : List R) (i rest place size : ℕ) (x : R) → i < length xs → x ≡ get_or xs i x → length (flat_map f (take i xs)) + rest ≡ place → size ≡ length (f x) → rest < size → place < length (flat_map f xs)
stands_inside {R = R} f xs i rest place size x within is before sized inside =
    let upto : length (flat_map f (take i xs)) + length (f (get_or xs i x)) ≤ length (flat_map f xs) = length-flat_map-take f xs i x within in
    let same : length (f (get_or xs i x)) ≡ length (f x) = ap (λ (r : R). length (f r)) (sym is) in
    omega (arith, upto, same, before, sized, inside)

pub not_past : (total place : ℕ) → place < total → (false ≡ true → total ≤ place) × (total ≤ place → false ≡ true)
not_past total place h = (λ e. grind (arith, e), λ p. absurd (omega (arith, h, p)))
