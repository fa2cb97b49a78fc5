-- Counting what a raised change makes is raising the step's row.
use Rattle.std.proofs.Common.{◌≡◌, ℕ, suc, true, List, [], ◌∷◌, ◌++◌, refl, sym, ap, ◌∙◌, arith, length, append_assoc, length-append, map}
use Rattle.st_marks.specs.Listings.{cells_before}
use Rattle.st_marks.specs.Row.{CellMark, Counted, Gap, Touch, Make, Fill}
use Rattle.st_rows.specs.Walks.{beside, meeting_piece}
use Rattle.st_passing.specs.Passing.{first_kept, raised, raised_beside, then_kept}
use Rattle.st_passing.specs.Raising.{with_count_at, with_counts_beside, with_counts_by}

abbrev found : List CellMark → ℕ
found xs = length (cells_before xs)

at_place : (done xs : List CellMark) → with_count_at (length done) (done ++ xs) ≡ done ++ Counted ∷ xs
at_place [] xs = refl
at_place (x ∷ done) xs = ap (λ l. x ∷ l) (at_place done xs)

-- what is done and what is left
abbrev Goes : List CellMark → List CellMark → Type 0
Goes xs ys = (done : List CellMark) → with_counts_by true (length done) (done ++ ys) (raised xs ys) ≡ done ++ raised_beside xs ys

-- one cell more is done
one_more : (done ys rs zs : List CellMark) (y : CellMark) → with_counts_by true (length (done ++ y ∷ [])) ((done ++ y ∷ []) ++ ys) rs ≡ (done ++ y ∷ []) ++ zs
    → with_counts_by true (suc (length done)) (done ++ y ∷ ys) rs ≡ done ++ y ∷ zs
one_more done ys rs zs y e =
    let n : suc (length done) ≡ length (done ++ y ∷ []) = omega (arith, length-append done (y ∷ [])) in
    (λ i. with_counts_by true (n i) (sym (append_assoc done (y ∷ []) ys) i) rs) ∙ e ∙ append_assoc done (y ∷ []) zs

-- a cell of the change that it doesn't make
module _ (x : CellMark) (xs : List CellMark) (goes_on : (p : ℕ) (zs rs : List CellMark) → with_counts_by true p zs (x ∷ rs) ≡ with_counts_by true (suc p) zs rs) (rest : (ys : List CellMark) → found xs ≡ found ys → Goes xs ys) where
  meets : (ys : List CellMark) → suc (found xs) ≡ found ys → (done : List CellMark)
      → with_counts_by true (length done) (done ++ ys) (map first_kept (meeting_piece x (beside xs) ys)) ≡ done ++ map then_kept (meeting_piece x (beside xs) ys)
  meets [] h done = absurd (omega (arith, h))
  meets (Make c n b ∷ ys) h done =
      one_more done ys (map first_kept (meeting_piece x (beside xs) ys)) (map then_kept (meeting_piece x (beside xs) ys)) (Make c n b) (meets ys h (done ++ Make c n b ∷ []))
  meets (Counted ∷ ys) h done = goes_on (length done) (done ++ Counted ∷ ys) (raised xs ys) ∙ one_more done ys (raised xs ys) (raised_beside xs ys) Counted (rest ys (omega (arith, h)) (done ++ Counted ∷ []))
  meets (Gap c ∷ ys) h done = goes_on (length done) (done ++ Gap c ∷ ys) (raised xs ys) ∙ one_more done ys (raised xs ys) (raised_beside xs ys) (Gap c) (rest ys (omega (arith, h)) (done ++ Gap c ∷ []))
  meets (Touch c n i ∷ ys) h done = goes_on (length done) (done ++ Touch c n i ∷ ys) (raised xs ys) ∙ one_more done ys (raised xs ys) (raised_beside xs ys) (Touch c n i) (rest ys (omega (arith, h)) (done ++ Touch c n i ∷ []))
  meets (Fill c n ∷ ys) h done = goes_on (length done) (done ++ Fill c n ∷ ys) (raised xs ys) ∙ one_more done ys (raised xs ys) (raised_beside xs ys) (Fill c n) (rest ys (omega (arith, h)) (done ++ Fill c n ∷ []))

goes : (xs ys : List CellMark) → found xs ≡ found ys → Goes xs ys
goes [] [] h done = refl
goes [] (Make c n b ∷ ys) h done = one_more done ys (raised [] ys) (raised_beside [] ys) (Make c n b) (goes [] ys h (done ++ Make c n b ∷ []))
goes [] (Counted ∷ ys) h done = absurd (omega (arith, h))
goes [] (Gap c ∷ ys) h done = absurd (omega (arith, h))
goes [] (Touch c n i ∷ ys) h done = absurd (omega (arith, h))
goes [] (Fill c n ∷ ys) h done = absurd (omega (arith, h))
goes (Counted ∷ xs) ys h done = meets Counted xs (λ p zs rs. refl) (goes xs) ys h done
goes (Gap c ∷ xs) ys h done = meets (Gap c) xs (λ p zs rs. refl) (goes xs) ys h done
goes (Touch c n i ∷ xs) ys h done = meets (Touch c n i) xs (λ p zs rs. refl) (goes xs) ys h done
goes (Make c n b ∷ xs) ys h done =
    ap (λ l. with_counts_by true (suc (length done)) l (raised xs ys)) (at_place done ys)
    ∙ one_more done ys (raised xs ys) (raised_beside xs ys) Counted (goes xs ys h (done ++ Counted ∷ []))
goes (Fill c n ∷ xs) ys h done = meets (Fill c n) xs (λ p zs rs. refl) (goes xs) ys h done

pub counts_beside : (xs ys : List CellMark) → found xs ≡ found ys → with_counts_beside 0 ys (raised xs ys) ≡ raised_beside xs ys
counts_beside xs ys h = goes xs ys h []
