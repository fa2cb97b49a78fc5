-- Operations that go mark by mark.
use Rattle.std.proofs.Common.{◌≡◌, ◌+◌, ◌<◌, ◌≤◌, ℕ, zero, suc, List, [], ◌∷◌, ◌++◌, map, length, take, drop, get_or, sym, ap, ◌∙◌, arith, refl, length-append}
use Rattle.std.proofs.lemmas.List.{take_more, get_or_default, take-append-drop, length-map, map-append}
use Rattle.st_marks.proofs.MarkLengths.{spread-append}
use Rattle.st_marks.specs.declared.marks.Mark.{Mark}
use Rattle.st_marks.specs.Row.{CellMark, Counted, spread, counted_cells}
use Rattle.st_rows.specs.Reading.{cell_of}

-- so many counted cells, each of which stays one
pub map-counted : (f : CellMark → CellMark) (k : ℕ) → f Counted ≡ Counted → counted_cells k [] ≡ map f (counted_cells k [])
map-counted f zero e = refl
map-counted f (suc k) e = λ i. sym e i ∷ map-counted f k e i

pub more_cells : (ms : List Mark) (i : ℕ) (m : Mark) → i < length ms → get_or ms i m ≡ m → spread (take (i + 1) ms) ≡ spread (take i ms) ++ spread (m ∷ [])
more_cells ms i m l e = ap spread (take_more ms i m l ∙ ap (λ y. take i ms ++ y ∷ []) e) ∙ spread-append (take i ms) (m ∷ [])

pub map_more : (f : CellMark → CellMark) (ms : List Mark) (i : ℕ) (m : Mark) → i < length ms → get_or ms i m ≡ m → map f (spread (take (i + 1) ms)) ≡ map f (spread (take i ms)) ++ map f (spread (m ∷ []))
map_more f ms i m l e = ap (map f) (more_cells ms i m l e) ∙ map-append f (spread (take i ms)) (spread (m ∷ []))

pub map_room : (f : CellMark → CellMark) (ms : List Mark) (i : ℕ) (m : Mark) → i < length ms → get_or ms i m ≡ m → length (map f (spread (take i ms))) + length (map f (spread (m ∷ []))) ≤ length (spread ms)
map_room f ms i m l e =
    let a : length (map f (spread (take i ms))) ≡ length (spread (take i ms)) = length-map (spread (take i ms)) f in
    let b : length (map f (spread (m ∷ []))) ≡ length (spread (m ∷ [])) = length-map (spread (m ∷ [])) f in
    let c : length (spread (take (i + 1) ms)) ≡ length (spread (take i ms)) + length (spread (m ∷ [])) = ap length (more_cells ms i m l e) ∙ length-append (spread (take i ms)) (spread (m ∷ [])) in
    let d : length (spread ms) ≡ length (spread (take (i + 1) ms)) + length (spread (drop (i + 1) ms)) =
    ap (λ l. length (spread l)) (sym (take-append-drop (i + 1) ms)) ∙ ap length (spread-append (take (i + 1) ms) (drop (i + 1) ms)) ∙ length-append (spread (take (i + 1) ms)) (spread (drop (i + 1) ms)) in
    omega arith

-- one mark more, with what a loop knows of it
pub map_on : (f : CellMark → CellMark) (ms out new : List Mark) (r d : Mark) (i : ℕ) → i < length ms → spread out ≡ map f (spread (take i ms)) → spread (r ∷ []) ≡ map f (spread (get_or ms i d ∷ [])) → spread new ≡ spread out ++ spread (r ∷ []) → spread new ≡ map f (spread (take (i + 1) ms))
map_on f ms out new r d i l e g h = h ∙ (λ j. e j ++ g j) ∙ sym (map_more f ms i (get_or ms i d) l (get_or_default ms i (get_or ms i d) d l))

pub map_fits : (f : CellMark → CellMark) (ms out : List Mark) (r d : Mark) (i most : ℕ) → i < length ms → spread out ≡ map f (spread (take i ms)) → spread (r ∷ []) ≡ map f (spread (get_or ms i d ∷ [])) → length (spread ms) < most → length (spread out) + length (spread (r ∷ [])) < most
map_fits f ms out r d i most l e g h =
    let a : length (spread out) ≡ length (map f (spread (take i ms))) = ap length e in
    let b : length (spread (r ∷ [])) ≡ length (map f (spread (get_or ms i d ∷ []))) = ap length g in
    let c = map_room f ms i (get_or ms i d) l (get_or_default ms i (get_or ms i d) d l) in
    omega (arith, a, b, c, h)

-- what a mark says of its cell, from the cells that it lists
pub cell_is : (m : Mark) (x : CellMark) → spread (m ∷ []) ≡ x ∷ [] → cell_of m ≡ x
cell_is (Mark.Skip k) x e = skipped k e
  where
    skipped : (k : ℕ) → counted_cells k [] ≡ x ∷ [] → Counted ≡ x
    skipped zero e = cc
    skipped (suc k) e = first e
      where
        first : {xs ys : List CellMark} → ◌≡◌ {A = List CellMark} (Counted ∷ xs) (x ∷ ys) → Counted ≡ x
        first e = ap (λ l. get_or l 0 x) e
cell_is (Mark.Gap c) x e = ap (λ l. get_or l 0 x) e
cell_is (Mark.Touch c n h) x e = ap (λ l. get_or l 0 x) e
cell_is (Mark.Make c n b) x e = ap (λ l. get_or l 0 x) e
cell_is (Mark.Fill c n) x e = ap (λ l. get_or l 0 x) e
