-- How many cells a row lists.
use Rattle.std.proofs.Common.{◌≡◌, ◌+◌, ◌<◌, ◌≤◌, ℕ, min, List, [], ◌∷◌, length, arith}
use Rattle.st_marks.specs.Row.{CellMark, Counted, Gap, Touch, Make, Fill}
use Rattle.st_marks.specs.Listings.{cells_before, cells_after}
use Rattle.st_rows.specs.Changes.{may_list}
use Rattle.st_rows.proofs.KindLaws.{made_or_found}

pub all_after : (xs : List CellMark) → length (cells_after xs) ≡ length xs
all_after [] = omega arith
all_after (Counted ∷ xs) = omega (arith, all_after xs)
all_after (Gap c ∷ xs) = omega (arith, all_after xs)
all_after (Touch c n h ∷ xs) = omega (arith, all_after xs)
all_after (Make c n b ∷ xs) = omega (arith, all_after xs)
all_after (Fill c n ∷ xs) = omega (arith, all_after xs)

pub is_short : (n : ℕ) (xs : List CellMark) → n ≡ min (length (cells_after xs)) 4294967296 → n ≤ 4294967295 → length xs < 4294967296
is_short n xs e h = let a = all_after xs in omega (arith, a, e, h)

pub are_short : (n m : ℕ) (xs ys : List CellMark) → n ≡ min (length (cells_after xs)) 4294967296 → m ≡ min (length (cells_after ys)) 4294967296 → n + m ≤ 4294967295 → may_list xs ys < 4294967296
are_short n m xs ys e f h =
    let a = all_after xs in
    let b = all_after ys in
    let c = made_or_found xs in
    let d = made_or_found ys in
    omega (arith, a, b, c, d, e, f, h)

pub finds_few : (n : ℕ) (xs : List CellMark) → n ≡ min (length (cells_before xs)) 4294967296 → n ≤ 4294967295 → length (cells_before xs) < 4294967296
finds_few n xs e h = omega (arith, e, h)
