-- A row laid before counts of all that it leaves comes out with its empty cells counted.
use Rattle.std.proofs.Common.{◌≡◌, ◌<◌, ◌≤◌, ◌^◌, ℕ, zero, suc, Bool, true, false, nat_lt, List, [], ◌∷◌, map, length, min, cond, refl, ap, arith}
use Rattle.std.specs.List.{AllByRecursion}
use Rattle.std.proofs.lemmas.Bool.Decides.{nat_tests}
use Rattle.st_marks.specs.declared.marks.RowMarks.{RowMarks}
use Rattle.st_marks.specs.Listings.{cells_after}
use Rattle.st_marks.specs.Row.{CellMark, counted_cells, spread}
use Rattle.st_mention_laws.specs.Shown.{thin_row, unnamed}
use Rattle.st_rows.specs.Walks.{in_turn}
use Rattle.st_rows.proofs.ShortRows.{all_after}
use Rattle.st_thin.specs.inside.Thinning.{row_thinned, thinned}

pub laid : (k : ℕ) (xs : List CellMark) → length xs ≡ k → map thinned (in_turn xs (counted_cells k [])) ≡ map unnamed xs
laid zero [] e = refl
laid zero (x ∷ xs) e = cc
laid (suc k) [] e = cc
laid (suc k) (x ∷ xs) e = ap (λ l. unnamed x ∷ l) (laid k xs (let q : length xs ≡ k = omega (arith, e) in q))

-- as many cells are left as are listed, where they are counted at all
pub counted_all : (n : ℕ) (xs : List CellMark) → n ≡ min (length (cells_after xs)) 4294967296 → n < 4294967296 → length xs ≡ n
counted_all n xs e l = let a = all_after xs in omega (arith, a, e, l)

pub too_many : (n : ℕ) (xs : List CellMark) → n ≡ min (length (cells_after xs)) 4294967296 → 4294967296 ≤ n → nat_lt (length xs) 4294967296 ≡ false
too_many n xs e l = let a = all_after xs in grind (arith, nat_tests, a, e, l)

pub few : (n : ℕ) {A : Type 0} (x y : A) → n < 2 ^ 32 → cond (nat_lt n (2 ^ 32)) x y ≡ x
few n x y h = go (nat_lt n (2 ^ 32)) refl
  where
    over : nat_lt n (2 ^ 32) ≡ false → ⊥
    over e = grind (arith, nat_tests, e, h)

    go : (b : Bool) → nat_lt n (2 ^ 32) ≡ b → cond b x y ≡ x
    go true e = refl
    go false e = absurd (over e)

pub all_thinned : (rs : List RowMarks) → AllByRecursion (λ (r : RowMarks). length (spread r.marks) < 2 ^ 32) rs → map row_thinned rs ≡ map thin_row rs
all_thinned [] h = refl
all_thinned (r ∷ rs) h = λ i. few (length (spread r.marks)) (thin_row r) r h.0 i ∷ all_thinned rs h.1 i
