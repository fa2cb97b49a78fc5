-- Rows that only one side lists.
use Rattle.std.proofs.Common.{false, ◌≡◌, ℕ, zero, suc, ◌+◌, List, [], ◌∷◌, refl, sym, ap, ◌∙◌, arith, length}
use Rattle.st_marks.specs.Listings.{cells_before, cells_made}
use Rattle.st_marks.specs.Row.{CellMark, Counted, Gap, Touch, Make, Fill, counted_cells}
use Rattle.st_passing.specs.Passing.{raised, raised_beside}
use Rattle.st_passing.proofs.CountsRaised.{counts_raised}
use Rattle.st_passing.proofs.Seats.{counts_passed}

counted-found : (k : ℕ) → length (cells_before (counted_cells k [])) ≡ k
counted-found zero = refl
counted-found (suc k) = ap suc (counted-found k)

pub silent_change : (k : ℕ) (xs : List CellMark) → length (cells_before xs) ≡ k → raised xs (counted_cells k []) ≡ xs
silent_change k xs h = sym (counts_raised xs (counted_cells k []) (h ∙ sym (counted-found k))) ∙ counts_passed false 0 k xs []

pub silent_step : (k : ℕ) (ys : List CellMark) → length (cells_before ys) ≡ k → raised_beside (counted_cells k []) ys ≡ ys
silent_step zero [] h = refl
silent_step (suc k) [] h = absurd (omega (arith, h))
silent_step zero (Counted ∷ ys) h = absurd (omega (arith, h))
silent_step zero (Gap c ∷ ys) h = absurd (omega (arith, h))
silent_step zero (Touch c n i ∷ ys) h = absurd (omega (arith, h))
silent_step zero (Make c n b ∷ ys) h = ap (λ l. Make c n b ∷ l) (silent_step zero ys h)
silent_step zero (Fill c n ∷ ys) h = absurd (omega (arith, h))
silent_step (suc k) (Counted ∷ ys) h = ap (λ l. Counted ∷ l) (silent_step k ys (omega (arith, h)))
silent_step (suc k) (Gap c ∷ ys) h = ap (λ l. Gap c ∷ l) (silent_step k ys (omega (arith, h)))
silent_step (suc k) (Touch c n i ∷ ys) h = ap (λ l. Touch c n i ∷ l) (silent_step k ys (omega (arith, h)))
silent_step (suc k) (Make c n b ∷ ys) h = ap (λ l. Make c n b ∷ l) (silent_step (suc k) ys h)
silent_step (suc k) (Fill c n ∷ ys) h = ap (λ l. Fill c n ∷ l) (silent_step k ys (omega (arith, h)))

counted-one : (j k : ℕ) → j ≡ suc k → counted_cells j [] ≡ Counted ∷ counted_cells k []
counted-one j k e = ap (λ i. counted_cells i []) e

pub silent_counts : (k : ℕ) (ys : List CellMark) → length (cells_before ys) ≡ k → raised (counted_cells k []) ys ≡ counted_cells (k + length (cells_made ys)) []
silent_counts zero [] h = refl
silent_counts (suc k) [] h = absurd (omega (arith, h))
silent_counts zero (Counted ∷ ys) h = absurd (omega (arith, h))
silent_counts zero (Gap c ∷ ys) h = absurd (omega (arith, h))
silent_counts zero (Touch c n i ∷ ys) h = absurd (omega (arith, h))
silent_counts zero (Make c n b ∷ ys) h = ap (λ l. Counted ∷ l) (silent_counts zero ys h) ∙ sym (counted-one _ _ (omega arith))
silent_counts zero (Fill c n ∷ ys) h = absurd (omega (arith, h))
silent_counts (suc k) (Counted ∷ ys) h = ap (λ l. Counted ∷ l) (silent_counts k ys (omega (arith, h))) ∙ sym (counted-one _ _ (omega arith))
silent_counts (suc k) (Gap c ∷ ys) h = ap (λ l. Counted ∷ l) (silent_counts k ys (omega (arith, h))) ∙ sym (counted-one _ _ (omega arith))
silent_counts (suc k) (Touch c n i ∷ ys) h = ap (λ l. Counted ∷ l) (silent_counts k ys (omega (arith, h))) ∙ sym (counted-one _ _ (omega arith))
silent_counts (suc k) (Make c n b ∷ ys) h = ap (λ l. Counted ∷ l) (silent_counts (suc k) ys h) ∙ sym (counted-one _ _ (omega arith))
silent_counts (suc k) (Fill c n ∷ ys) h = ap (λ l. Counted ∷ l) (silent_counts k ys (omega (arith, h))) ∙ sym (counted-one _ _ (omega arith))
