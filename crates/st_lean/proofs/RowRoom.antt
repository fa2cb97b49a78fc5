-- Whether what a change and a step list of a row fits.
use Rattle.std.proofs.Common.{◌≡◌, ◌+◌, ◌<◌, min, ℕ, zero, suc, List, [], ◌∷◌, ◌++◌, length, take, get_or, refl, ap, ◌∙◌, arith, length-append}
use Rattle.std.proofs.lemmas.List.{take_more}
use Rattle.st_marks.proofs.MarkLengths.{spread-append}
use Rattle.st_marks.specs.declared.marks.Mark.{Mark}
use Rattle.st_marks.specs.Listings.{cells_made}
use Rattle.st_marks.specs.Row.{CellMark, Counted, Gap, Touch, Make, Fill, counted_cells, spread}

-- ## How many cells marks make

pub counted_made : (k : ℕ) → 0 ≡ length (cells_made (counted_cells k []))
counted_made zero = refl
counted_made (suc k) = counted_made k

pub made-append : (xs ys : List CellMark) → cells_made (xs ++ ys) ≡ cells_made xs ++ cells_made ys
made-append [] ys = refl
made-append (Counted ∷ xs) ys = made-append xs ys
made-append (Gap c ∷ xs) ys = made-append xs ys
made-append (Touch c n h ∷ xs) ys = made-append xs ys
made-append (Make c n b ∷ xs) ys = ap (λ l. c ∷ l) (made-append xs ys)
made-append (Fill c n ∷ xs) ys = made-append xs ys

made_more : (ms : List Mark) (i : ℕ) (d : Mark) → i < length ms → length (cells_made (spread (take (i + 1) ms))) ≡ length (cells_made (spread (take i ms))) + length (cells_made (spread (get_or ms i d ∷ [])))
made_more ms i d l =
    ap (λ xs. length (cells_made (spread xs))) (take_more ms i d l)
    ∙ ap (λ xs. length (cells_made xs)) (spread-append (take i ms) (get_or ms i d ∷ []))
    ∙ ap length (made-append (spread (take i ms)) (spread (get_or ms i d ∷ [])))
    ∙ length-append (cells_made (spread (take i ms))) (cells_made (spread (get_or ms i d ∷ [])))

-- a count that stands still at 2^32, with the cells of one mark more
counted_more : (count one sum next so_far more : ℕ) → count ≡ min so_far 4294967296 → one ≡ more → sum ≡ min (count + one) 18446744073709551615 → next ≡ min 4294967296 sum → next ≡ min (so_far + more) 4294967296
counted_more count one sum next so_far more a b c d = omega arith

pub made_step : (ms : List Mark) (i count one sum next : ℕ) (d : Mark) → i < length ms → count ≡ min (length (cells_made (spread (take i ms)))) 4294967296 → one ≡ length (cells_made (spread (get_or ms i d ∷ [])))
    → sum ≡ min (count + one) 18446744073709551615 → next ≡ min 4294967296 sum → next ≡ min (length (cells_made (spread (take (i + 1) ms)))) 4294967296
made_step ms i count one sum next d l a b e f =
    rw (made_more ms i d l) (counted_more count one sum next (length (cells_made (spread (take i ms)))) (length (cells_made (spread (get_or ms i d ∷ [])))) a b e f)

-- ## Of each row
