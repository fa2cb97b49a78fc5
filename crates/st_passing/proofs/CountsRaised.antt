-- Counting what a step makes is raising the row.
use Rattle.std.proofs.Common.{◌≡◌, ℕ, zero, suc, ◌+◌, List, [], ◌∷◌, ◌++◌, refl, sym, ap, ◌∙◌, arith, length, append_assoc, map}
use Rattle.st_marks.specs.Listings.{cells_before}
use Rattle.st_marks.specs.Row.{CellMark, Counted, Gap, Touch, Make, Fill}
use Rattle.st_rows.specs.Walks.{beside, meeting_piece}
use Rattle.st_passing.specs.Passing.{first_kept, raised}
use Rattle.st_passing.specs.Raising.{with_count, with_counts}

abbrev found : List CellMark → ℕ
found xs = length (cells_before xs)

found_more : (xs : List CellMark) (y : CellMark) → found (xs ++ y ∷ []) ≡ found xs + found (y ∷ [])
found_more [] y = omega arith
found_more (Counted ∷ xs) y = omega (arith, found_more xs y)
found_more (Gap c ∷ xs) y = omega (arith, found_more xs y)
found_more (Touch c n h ∷ xs) y = omega (arith, found_more xs y)
found_more (Make c n b ∷ xs) y = found_more xs y
found_more (Fill c n ∷ xs) y = omega (arith, found_more xs y)

behind : (done xs : List CellMark) → with_count (found done) (done ++ xs) ≡ done ++ with_count zero xs
behind [] xs = refl
behind (Counted ∷ done) xs = ap (λ l. Counted ∷ l) (behind done xs)
behind (Gap c ∷ done) xs = ap (λ l. Gap c ∷ l) (behind done xs)
behind (Touch c n h ∷ done) xs = ap (λ l. Touch c n h ∷ l) (behind done xs)
behind (Make c n b ∷ done) xs = ap (λ l. Make c n b ∷ l) (behind done xs)
behind (Fill c n ∷ done) xs = ap (λ l. Fill c n ∷ l) (behind done xs)

-- what is done and what is left
abbrev Goes : List CellMark → List CellMark → Type 0
Goes xs ys = (done : List CellMark) → with_counts (found done) (done ++ xs) ys ≡ done ++ raised xs ys

-- one cell more is done
one_more : (done xs ys zs : List CellMark) (x : CellMark) (p : ℕ) → found (done ++ x ∷ []) ≡ p → with_counts (found (done ++ x ∷ [])) ((done ++ x ∷ []) ++ xs) ys ≡ (done ++ x ∷ []) ++ zs
    → with_counts p (done ++ x ∷ xs) ys ≡ done ++ x ∷ zs
one_more done xs ys zs x p f e =
    (λ i. with_counts (sym f i) (sym (append_assoc done (x ∷ []) xs) i) ys) ∙ e ∙ append_assoc done (x ∷ []) zs

counted_more : (done : List CellMark) → found (done ++ Counted ∷ []) ≡ suc (found done)
counted_more done = omega (arith, found_more done Counted)

module _ (x : CellMark) (xs : List CellMark) (first : with_count zero (x ∷ xs) ≡ Counted ∷ (x ∷ xs)) (one : found (x ∷ []) ≡ 1) (rest : (ys : List CellMark) → found xs ≡ found ys → Goes xs ys) where
  is_one : (done : List CellMark) → found (done ++ x ∷ []) ≡ suc (found done)
  is_one done = omega (arith, found_more done x, one)

  meets : (ys : List CellMark) → suc (found xs) ≡ found ys → (done : List CellMark) → with_counts (found done) (done ++ x ∷ xs) ys ≡ done ++ map first_kept (meeting_piece x (beside xs) ys)
  meets [] h done = absurd (omega (arith, h))
  meets (Make c n b ∷ ys) h done =
      (ap (λ l. with_counts (suc (found done)) l ys) (behind done (x ∷ xs) ∙ ap (λ l. done ++ l) first))
      ∙ one_more done (x ∷ xs) ys (map first_kept (meeting_piece x (beside xs) ys)) Counted (suc (found done)) (counted_more done) (meets ys h (done ++ Counted ∷ []))
  meets (Counted ∷ ys) h done = one_more done xs ys (raised xs ys) x (suc (found done)) (is_one done) (rest ys (omega (arith, h)) (done ++ x ∷ []))
  meets (Gap c ∷ ys) h done = one_more done xs ys (raised xs ys) x (suc (found done)) (is_one done) (rest ys (omega (arith, h)) (done ++ x ∷ []))
  meets (Touch c n i ∷ ys) h done = one_more done xs ys (raised xs ys) x (suc (found done)) (is_one done) (rest ys (omega (arith, h)) (done ++ x ∷ []))
  meets (Fill c n ∷ ys) h done = one_more done xs ys (raised xs ys) x (suc (found done)) (is_one done) (rest ys (omega (arith, h)) (done ++ x ∷ []))

goes : (xs ys : List CellMark) → found xs ≡ found ys → Goes xs ys
goes [] [] h done = refl
goes [] (Make c n b ∷ ys) h done =
    ap (λ l. with_counts (suc (found done)) l ys) (behind done [])
    ∙ one_more done [] ys (raised [] ys) Counted (suc (found done)) (counted_more done) (goes [] ys h (done ++ Counted ∷ []))
goes [] (Counted ∷ ys) h done = absurd (omega (arith, h))
goes [] (Gap c ∷ ys) h done = absurd (omega (arith, h))
goes [] (Touch c n i ∷ ys) h done = absurd (omega (arith, h))
goes [] (Fill c n ∷ ys) h done = absurd (omega (arith, h))
goes (Counted ∷ xs) ys h done = meets Counted xs refl refl (goes xs) ys h done
goes (Gap c ∷ xs) ys h done = meets (Gap c) xs refl refl (goes xs) ys h done
goes (Touch c n i ∷ xs) ys h done = meets (Touch c n i) xs refl refl (goes xs) ys h done
goes (Make c n b ∷ xs) ys h done =
    one_more done xs ys (raised xs ys) (Make c n b) (found done) (omega (arith, found_more done (Make c n b))) (goes xs ys h (done ++ Make c n b ∷ []))
goes (Fill c n ∷ xs) ys h done = meets (Fill c n) xs refl refl (goes xs) ys h done

pub counts_raised : (xs ys : List CellMark) → found xs ≡ found ys → with_counts 0 xs ys ≡ raised xs ys
counts_raised xs ys h = goes xs ys h []
