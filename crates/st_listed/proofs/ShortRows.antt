-- Whether a row lists few enough cells, as a test tells.
use Rattle.std.proofs.Common.{◌≡◌, ◌<◌, ℕ, List, true, length, min, nat_lt, arith}
use Rattle.std.proofs.lemmas.Bool.Decides.{nat_tests}
use Rattle.st_marks.specs.Row.{CellMark}
use Rattle.st_marks.specs.Listings.{cells_after}
use Rattle.st_rows.proofs.ShortRows.{all_after}

pub short_row : (n : ℕ) (xs : List CellMark) → n ≡ min (length (cells_after xs)) 4294967296 → nat_lt n 4294967296 ≡ nat_lt (length xs) 4294967296
short_row n xs e = let a = all_after xs in grind (arith, nat_tests, a, e)

pub below : (n k : ℕ) → nat_lt n k ≡ true → n < k
below n k e = grind (arith, nat_tests, e)
