-- A row that one of two doesn't list, and rows that are listed by both.
use Rattle.std.proofs.Common.{◌≡◌, ℕ, zero, suc, ◌+◌, ◌<◌, take, get_or, Bool, true, false, cond, ◌&&◌, option_map, List, [], ◌∷◌, ◌++◌, length, Option, Some, None, is_some, refl, sym, ap, ◌∙◌, arith}
use Rattle.std.specs.List.{list_any}
use Rattle.st_ids.specs.declared.names.NodeId.{NodeId}
use Rattle.st_marks.specs.declared.intents.To.{To}
use Rattle.st_marks.specs.declared.marks.Mark.{Mark}
use Rattle.st_marks.specs.Embedding.{row_marks, tells}
use Rattle.st_ids.specs.Order.{same_cell}
use Rattle.st_ids.proofs.Orders.{same_cell-itself}
use Rattle.st_marks.specs.Listings.{CellView, cell_view, cells_before, cells_made, counted_view, empty_view}
use Rattle.st_marks.specs.Row.{CellMark, Counted, Gap, Touch, Make, Fill, counted_cells, merge, spread}
use Rattle.st_rows.specs.Changes.{may_list}
use Rattle.st_rows.specs.Differences.{agree, first_difference}
use Rattle.st_marks.proofs.MarkLengths.{spread-append}
use Rattle.std.proofs.lemmas.Grind.{flat_map-append}
use Rattle.st_lemmas.proofs.FirstItems.{take_one}
use Rattle.st_moves.specs.Carried.{carry_row}
use Rattle.st_moves.specs.inside.Rows.{bare, bare_cell, listed_row, row_both, row_first, row_then}

-- ## What is bare

pub bare_counted : (k : ℕ) (xs : List CellMark) → bare (counted_cells k xs) ≡ counted_cells k (bare xs)
bare_counted zero xs = refl
bare_counted (suc k) xs = ap (λ l. Counted ∷ l) (bare_counted k xs)

pub bare_makes : (xs : List CellMark) → length (cells_made (bare xs)) ≡ 0
bare_makes [] = refl
bare_makes (Counted ∷ xs) = bare_makes xs
bare_makes (Gap c ∷ xs) = bare_makes xs
bare_makes (Touch c n h ∷ xs) = bare_makes xs
bare_makes (Make c n b ∷ xs) = bare_makes xs
bare_makes (Fill c n ∷ xs) = bare_makes xs

pub bare_finds : (xs : List CellMark) → length (cells_before (bare xs)) ≡ length (cells_before xs)
bare_finds [] = refl
bare_finds (Counted ∷ xs) = ap suc (bare_finds xs)
bare_finds (Gap c ∷ xs) = ap suc (bare_finds xs)
bare_finds (Touch c n h ∷ xs) = ap suc (bare_finds xs)
bare_finds (Make c n b ∷ xs) = bare_finds xs
bare_finds (Fill c n ∷ xs) = ap suc (bare_finds xs)

pub room_first : (xs ys : List CellMark) → ys ≡ bare xs → may_list xs ys ≡ may_list [] xs
room_first xs ys e =
    let a : length (cells_made ys) ≡ 0 = ap (λ l. length (cells_made l)) e ∙ bare_makes xs in
    let b : length (cells_before ys) ≡ length (cells_before xs) = ap (λ l. length (cells_before l)) e ∙ bare_finds xs in
    omega (arith, a, b)

pub room_then : (xs ys : List CellMark) → xs ≡ bare ys → may_list xs ys ≡ may_list [] ys
room_then xs ys e =
    let a : length (cells_made xs) ≡ 0 = ap (λ l. length (cells_made l)) e ∙ bare_makes ys in
    omega (arith, a)

-- one more mark
pub bare_more : (ms : List Mark) (i : ℕ) (d x : Mark) (old new : List Mark) (y : Mark) → i < length ms → get_or ms i d ≡ x
    → spread old ≡ bare (spread (take i ms)) → spread (y ∷ []) ≡ bare (spread (x ∷ [])) → new ≡ old ++ y ∷ [] → spread new ≡ bare (spread (take (i + 1) ms))
bare_more ms i d x old new y inside at so_far one pushed =
    ap spread pushed ∙ spread-append old (y ∷ []) ∙ (λ j. so_far j ++ one j) ∙ sym (flat_map-append bare_cell (spread (take i ms)) (spread (x ∷ [])))
    ∙ ap bare (sym (spread-append (take i ms) (x ∷ [])) ∙ ap spread (sym (take_one ms i d x inside at)))

-- ## What is listed

-- merged marks are listed as their cells are
pub listed_merged : (n : NodeId) (ms : List Mark) (cells : List CellMark) → merge (spread ms) ≡ ms → spread ms ≡ cells → listed_row n ms ≡ row_marks n cells
listed_merged n ms cells merged same =
    (λ i. cond (list_any tells (spread ms)) (Some (record { node = n; marks = sym merged i })) None) ∙ ap (row_marks n) same

pub count_bare : (k : ℕ) → spread (Mark.Skip k ∷ []) ≡ bare (spread (Mark.Skip k ∷ []))
count_bare k = sym (bare_counted k [])

-- ## A side that tells nothing finds the same

both_agree : (a b c : Bool) → a ≡ true → b ≡ true → c ≡ true → (a && b && c) ≡ true
both_agree a b c e f g = rw (e, f, g) refl

agreed : (s t : CellView) (ss ts : List CellView) → agree s t ≡ true → first_difference ss ts ≡ None → first_difference (s ∷ ss) (t ∷ ts) ≡ None
agreed s t ss ts e f = (λ i. cond (e i) (option_map (λ k. k + 1) (f i)) (Some 0))

pub alike_first : (xs : List CellMark) → first_difference (cells_before xs) (cells_before (bare xs)) ≡ None
alike_first [] = refl
alike_first (Counted ∷ xs) = agreed counted_view counted_view (cells_before xs) (cells_before (bare xs)) refl (alike_first xs)
alike_first (Gap c ∷ xs) = agreed (empty_view c) (empty_view c) (cells_before xs) (cells_before (bare xs)) (both_agree true (same_cell c c) true refl (same_cell-itself c) refl) (alike_first xs)
alike_first (Touch c n h ∷ xs) = agreed (cell_view c n true) counted_view (cells_before xs) (cells_before (bare xs)) refl (alike_first xs)
alike_first (Make c n b ∷ xs) = alike_first xs
alike_first (Fill c n ∷ xs) = agreed (cell_view c n false) (empty_view c) (cells_before xs) (cells_before (bare xs)) (both_agree true (same_cell c c) true refl (same_cell-itself c) refl) (alike_first xs)

pub alike_then : (ys : List CellMark) → first_difference (cells_before (bare ys)) (cells_before ys) ≡ None
alike_then [] = refl
alike_then (Counted ∷ ys) = agreed counted_view counted_view (cells_before (bare ys)) (cells_before ys) refl (alike_then ys)
alike_then (Gap c ∷ ys) = agreed (empty_view c) (empty_view c) (cells_before (bare ys)) (cells_before ys) (both_agree true (same_cell c c) true refl (same_cell-itself c) refl) (alike_then ys)
alike_then (Touch c n h ∷ ys) = agreed counted_view (cell_view c n true) (cells_before (bare ys)) (cells_before ys) refl (alike_then ys)
alike_then (Make c n b ∷ ys) = alike_then ys
alike_then (Fill c n ∷ ys) = agreed (empty_view c) (cell_view c n false) (cells_before (bare ys)) (cells_before ys) (both_agree true (same_cell c c) true refl (same_cell-itself c) refl) (alike_then ys)

module _ (target_of : NodeId → Option To) (m : NodeId → Bool) (n : NodeId) (c s : List Mark) where
  alike_both : first_difference (cells_before (spread c)) (cells_before (spread s)) ≡ None → row_both target_of m n c s ≡ row_marks n (carry_row target_of m (spread c) (spread s))
  alike_both e = ap (λ o. cond (is_some o) (listed_row n c) (row_marks n (carry_row target_of m (spread c) (spread s)))) e

  pub first_is : spread s ≡ bare (spread c) → row_both target_of m n c s ≡ row_first target_of m n (spread c)
  first_is e = alike_both (ap (λ l. first_difference (cells_before (spread c)) (cells_before l)) e ∙ alike_first (spread c)) ∙ ap (λ l. row_marks n (carry_row target_of m (spread c) l)) e

  pub then_is : spread c ≡ bare (spread s) → row_both target_of m n c s ≡ row_then target_of m n (spread s)
  then_is e = alike_both (ap (λ l. first_difference (cells_before l) (cells_before (spread s))) e ∙ alike_then (spread s)) ∙ ap (λ l. row_marks n (carry_row target_of m l (spread s))) e

  -- a row that is carried, and one in which the two don't find the same
  pub carried_is : (ms : List Mark) → merge (spread ms) ≡ ms → spread ms ≡ carry_row target_of m (spread c) (spread s) → first_difference (cells_before (spread c)) (cells_before (spread s)) ≡ None
      → listed_row n ms ≡ row_both target_of m n c s
  carried_is ms merged same e = listed_merged n ms (carry_row target_of m (spread c) (spread s)) merged same ∙ sym (alike_both e)

  pub apart_is : (ms : List Mark) (k : ℕ) → ms ≡ c → first_difference (cells_before (spread c)) (cells_before (spread s)) ≡ Some k → listed_row n ms ≡ row_both target_of m n c s
  apart_is ms k same e = ap (listed_row n) same ∙ sym (ap (λ o. cond (is_some o) (listed_row n c) (row_marks n (carry_row target_of m (spread c) (spread s)))) e)
