-- The cells that marks make, and marks where these are there already.
use Rattle.std.proofs.Common.{◌≡◌, ◌<◌, ◌+◌, ◌^◌, ℕ, zero, suc, Bool, true, false, ◌||◌, List, [], ◌∷◌, map, length, take, get_or, cond, refl, sym, ap, ◌∙◌, subst}
use Rattle.std.proofs.lemmas.List.{length-map}
use Rattle.std.specs.List.{list_any}
use Rattle.std.specs.Ordering.{is_eq}
use Rattle.st_ids.specs.Order.{cell_cmp, same_cell}
use Rattle.st_ids.specs.declared.names.CellId.{CellId}
use Rattle.st_lemmas.proofs.FirstItems.{any_more}
use Rattle.st_marks.specs.declared.marks.Mark.{Mark}
use Rattle.st_marks.specs.Listings.{cells_made, is_among_cells}
use Rattle.st_marks.specs.Row.{CellMark, Counted, Gap, Touch, Make, Fill, counted_cells, merge, spread}
use Rattle.st_rows.specs.Cells.{compose_row, invert_row}
use Rattle.st_rows.proofs.KindLaws.{spread-merge}
use Rattle.st_strip.specs.Rest.{settled_mark, settled_row}
use Rattle.st_strip.specs.inside.Told.{made_in, makes, marks_of_both, settle}

-- ## Sets of cells

-- one cell more
pub put_more : (a : Bool) (c d : CellId) → cond (is_eq (cell_cmp d c)) true a ≡ (a || same_cell d c)
unfolding same_cell
put_more a c d = go a (is_eq (cell_cmp d c))
  where
    go : (a b : Bool) → cond b true a ≡ (a || b)
    go true true = refl
    go true false = refl
    go false true = refl
    go false false = refl

-- one mark more
pub made_more : (p : Mark → Bool) (ms : List Mark) (i : ℕ) (d x : Mark) (before now : Bool) → i < length ms → get_or ms i d ≡ x
    → before ≡ list_any p (take i ms) → now ≡ (before || p x) → now ≡ list_any p (take (i + 1) ms)
made_more p ms i d x before now inside at so_far more = more ∙ ap (λ b. b || p x) so_far ∙ sym (any_more p ms i d x inside at)

made_counted : (k : ℕ) (ms : List CellMark) → cells_made (counted_cells k ms) ≡ cells_made ms
made_counted zero ms = refl
made_counted (suc k) ms = made_counted k ms

makes_any : (ms : List Mark) (c : CellId) → list_any (makes c) ms ≡ made_in ms c
makes_any [] c = refl
makes_any (Mark.Skip k ∷ ms) c = makes_any ms c ∙ ap (λ l. is_among_cells l c) (sym (made_counted k (spread ms)))
makes_any (Mark.Gap d ∷ ms) c = makes_any ms c
makes_any (Mark.Touch d n h ∷ ms) c = makes_any ms c
makes_any (Mark.Make d n b ∷ ms) c = ap (λ b. same_cell d c || b) (makes_any ms c)
makes_any (Mark.Fill d n ∷ ms) c = makes_any ms c

-- ## Marks where some cells are there already

settled_counted : (made : CellId → Bool) (k : ℕ) (ms : List CellMark) → settled_row made (counted_cells k ms) ≡ counted_cells k (settled_row made ms)
settled_counted made zero ms = refl
settled_counted made (suc k) ms = ap (λ l. Counted ∷ l) (settled_counted made k ms)

settle_spread : (made : CellId → Bool) (ms : List Mark) → spread (map (settle made) ms) ≡ settled_row made (spread ms)
settle_spread made [] = refl
settle_spread made (Mark.Skip k ∷ ms) = ap (counted_cells k) (settle_spread made ms) ∙ sym (settled_counted made k (spread ms))
settle_spread made (Mark.Gap c ∷ ms) = ap (λ l. Gap c ∷ l) (settle_spread made ms)
settle_spread made (Mark.Touch c n h ∷ ms) = ap (λ l. Touch c n h ∷ l) (settle_spread made ms)
settle_spread made (Mark.Make c n b ∷ ms) = go (made c) b (settle_spread made ms)
  where
    go : (a e : Bool) → spread (map (settle made) ms) ≡ settled_row made (spread ms)
        → spread (cond a (cond e (Mark.Fill c n) (Mark.Gap c)) (Mark.Make c n b) ∷ map (settle made) ms) ≡ cond a (cond e (Fill c n) (Gap c)) (Make c n b) ∷ settled_row made (spread ms)
    go true true h = ap (λ l. Fill c n ∷ l) h
    go true false h = ap (λ l. Gap c ∷ l) h
    go false e h = ap (λ l. Make c n b ∷ l) h
settle_spread made (Mark.Fill c n ∷ ms) = ap (λ l. Fill c n ∷ l) (settle_spread made ms)

pub settled_told : (made : CellId → Bool) (s w l : List Mark) → ((c : CellId) → made c ≡ list_any (makes c) s) → l ≡ map (settle made) w → spread l ≡ settled_row (made_in s) (spread w)
settled_told made s w l h e = ap spread e ∙ settle_spread made w ∙ (λ i. settled_row (λ c. (h c ∙ makes_any s c) i) (spread w))

pub settled_short : (made : CellId → Bool) (l w : List Mark) → spread l ≡ settled_row made (spread w) → length (spread w) < 2 ^ 32 → length (spread l) < 2 ^ 32
settled_short made l w e h = subst (λ k. k < 2 ^ 32) (sym (ap length e ∙ length-map (spread w) (settled_mark made))) h

pub both_told : (s w back then l : List Mark) → back ≡ merge (invert_row (spread s)) → spread then ≡ settled_row (made_in s) (spread w)
    → l ≡ merge (compose_row (spread back) (spread then)) → l ≡ marks_of_both s w
both_told s w back then l e f h = h ∙ (λ i. merge (compose_row ((ap spread e ∙ spread-merge (invert_row (spread s))) i) (f i)))
