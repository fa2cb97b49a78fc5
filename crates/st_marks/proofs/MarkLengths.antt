-- The cells of marks that are listed one after another.
use Rattle.std.proofs.Common.{◌≡◌, ◌+◌, ◌<◌, min, ℕ, zero, suc, true, false, not, List, [], ◌∷◌, ◌++◌, length, take, get_or, refl, ap, ◌∙◌, arith, length-append}
use Rattle.std.proofs.lemmas.List.{take_more, get_or_default}
use Rattle.st_marks.specs.declared.marks.Mark.{Mark}
use Rattle.st_marks.specs.Row.{CellMark, Counted, Gap, Touch, Make, Fill, counted_cells, spread}
use Rattle.st_marks.specs.Listings.{cell_view, counted_view, empty_view, cells_before, cells_after}
use Rattle.st_marks.specs.How.{is_leave}

counted-append : (k : ℕ) (xs ys : List CellMark) → counted_cells k (xs ++ ys) ≡ counted_cells k xs ++ ys
counted-append zero xs ys = refl
counted-append (suc k) xs ys = ap (λ l. Counted ∷ l) (counted-append k xs ys)

pub spread-append : (xs ys : List Mark) → spread (xs ++ ys) ≡ spread xs ++ spread ys
spread-append [] ys = refl
spread-append (Mark.Skip k ∷ xs) ys = ap (counted_cells k) (spread-append xs ys) ∙ counted-append k (spread xs) (spread ys)
spread-append (Mark.Gap c ∷ xs) ys = ap (λ l. Gap c ∷ l) (spread-append xs ys)
spread-append (Mark.Touch c n h ∷ xs) ys = ap (λ l. Touch c n h ∷ l) (spread-append xs ys)
spread-append (Mark.Make c n b ∷ xs) ys = ap (λ l. Make c n b ∷ l) (spread-append xs ys)
spread-append (Mark.Fill c n ∷ xs) ys = ap (λ l. Fill c n ∷ l) (spread-append xs ys)

pub before-append : (xs ys : List CellMark) → cells_before (xs ++ ys) ≡ cells_before xs ++ cells_before ys
before-append [] ys = refl
before-append (Counted ∷ xs) ys = ap (λ l. counted_view ∷ l) (before-append xs ys)
before-append (Gap c ∷ xs) ys = ap (λ l. empty_view c ∷ l) (before-append xs ys)
before-append (Touch c n h ∷ xs) ys = ap (λ l. cell_view c n true ∷ l) (before-append xs ys)
before-append (Make c n b ∷ xs) ys = before-append xs ys
before-append (Fill c n ∷ xs) ys = ap (λ l. cell_view c n false ∷ l) (before-append xs ys)

pub after-append : (xs ys : List CellMark) → cells_after (xs ++ ys) ≡ cells_after xs ++ cells_after ys
after-append [] ys = refl
after-append (Counted ∷ xs) ys = ap (λ l. counted_view ∷ l) (after-append xs ys)
after-append (Gap c ∷ xs) ys = ap (λ l. empty_view c ∷ l) (after-append xs ys)
after-append (Touch c n h ∷ xs) ys = ap (λ l. cell_view c n (not (is_leave h)) ∷ l) (after-append xs ys)
after-append (Make c n b ∷ xs) ys = ap (λ l. cell_view c n b ∷ l) (after-append xs ys)
after-append (Fill c n ∷ xs) ys = ap (λ l. cell_view c n true ∷ l) (after-append xs ys)

pub counted_before : (k : ℕ) → k ≡ length (cells_before (counted_cells k []))
counted_before zero = refl
counted_before (suc k) = ap suc (counted_before k)

pub counted_after : (k : ℕ) → k ≡ length (cells_after (counted_cells k []))
counted_after zero = refl
counted_after (suc k) = ap suc (counted_after k)

-- one mark more
pub before_more : (ms : List Mark) (i : ℕ) (m : Mark) → i < length ms → get_or ms i m ≡ m → length (cells_before (spread (take (i + 1) ms))) ≡ length (cells_before (spread (take i ms))) + length (cells_before (spread (m ∷ [])))
before_more ms i m l e =
    ap (λ xs. length (cells_before (spread xs))) (take_more ms i m l ∙ ap (λ y. take i ms ++ y ∷ []) e)
    ∙ ap (λ xs. length (cells_before xs)) (spread-append (take i ms) (m ∷ []))
    ∙ ap length (before-append (spread (take i ms)) (spread (m ∷ [])))
    ∙ length-append (cells_before (spread (take i ms))) (cells_before (spread (m ∷ [])))

pub after_more : (ms : List Mark) (i : ℕ) (m : Mark) → i < length ms → get_or ms i m ≡ m → length (cells_after (spread (take (i + 1) ms))) ≡ length (cells_after (spread (take i ms))) + length (cells_after (spread (m ∷ [])))
after_more ms i m l e =
    ap (λ xs. length (cells_after (spread xs))) (take_more ms i m l ∙ ap (λ y. take i ms ++ y ∷ []) e)
    ∙ ap (λ xs. length (cells_after xs)) (spread-append (take i ms) (m ∷ []))
    ∙ ap length (after-append (spread (take i ms)) (spread (m ∷ [])))
    ∙ length-append (cells_after (spread (take i ms))) (cells_after (spread (m ∷ [])))

-- a count that stands still at 2^32, with the cells of one mark more
counted_more : (count one sum next so_far more : ℕ) → count ≡ min so_far 4294967296 → one ≡ more → sum ≡ min (count + one) 18446744073709551615 → next ≡ min 4294967296 sum → next ≡ min (so_far + more) 4294967296
counted_more count one sum next so_far more a b c d = omega arith

pub before_step : (ms : List Mark) (i count one sum next : ℕ) (d : Mark) → i < length ms → count ≡ min (length (cells_before (spread (take i ms)))) 4294967296 → one ≡ length (cells_before (spread (get_or ms i d ∷ [])))
    → sum ≡ min (count + one) 18446744073709551615 → next ≡ min 4294967296 sum → next ≡ min (length (cells_before (spread (take (i + 1) ms)))) 4294967296
before_step ms i count one sum next d l a b e f =
    rw (before_more ms i (get_or ms i d) l (get_or_default ms i (get_or ms i d) d l)) (counted_more count one sum next (length (cells_before (spread (take i ms)))) (length (cells_before (spread (get_or ms i d ∷ [])))) a b e f)

pub after_step : (ms : List Mark) (i count one sum next : ℕ) (d : Mark) → i < length ms → count ≡ min (length (cells_after (spread (take i ms)))) 4294967296 → one ≡ length (cells_after (spread (get_or ms i d ∷ [])))
    → sum ≡ min (count + one) 18446744073709551615 → next ≡ min 4294967296 sum → next ≡ min (length (cells_after (spread (take (i + 1) ms)))) 4294967296
after_step ms i count one sum next d l a b e f =
    rw (after_more ms i (get_or ms i d) l (get_or_default ms i (get_or ms i d) d l)) (counted_more count one sum next (length (cells_after (spread (take i ms)))) (length (cells_after (spread (get_or ms i d ∷ [])))) a b e f)
