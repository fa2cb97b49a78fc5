-- One turn of a walk over two listings.
use Rattle.std.proofs.Common.{sym, ◌≡◌, ℕ, zero, suc, ◌+◌, ◌-◌, ◌<◌, ◌≤◌, Bool, true, false, List, [], ◌∷◌, ◌++◌, Option, Some, None, option_map, length, refl, ap, ◌∙◌, arith}
use Rattle.st_marks.specs.declared.marks.Mark.{Mark}
use Rattle.st_marks.specs.Row.{CellMark, Counted, Gap, Touch, Make, Fill, spread, counted_cells}
use Rattle.st_marks.specs.declared.places.Slot.{Slot}
use Rattle.st_marks.specs.Listings.{CellView, cell_view, cells_before, cells_after}
use Rattle.st_rows.specs.Turns.{after_row}
use Rattle.st_rows.specs.Views.{row_views, view_after}
use Rattle.st_rows.specs.Differences.{agree, first_difference, view_before}
use Rattle.st_rows.specs.Merged.{is_skip}
use Rattle.st_rows.specs.Reading.{cell_of}
use Rattle.st_rows.specs.Heads.{marks_left, is_made, is_make, IsFirst}
use Rattle.st_rows.specs.Pieces.{IsSingle, both_counted}
use Rattle.st_rows.specs.declared.front_mark.Head.{Head}
use Rattle.st_rows.proofs.MergedMarks.{counted-plus, length-counted}
use Rattle.st_rows.specs.Walks.{CellPiece, Both, First, Then, in_turn, meeting_piece, beside}

pub single : (m : Mark) → is_skip m ≡ false → IsSingle m
single (Mark.Skip k) s = cc
single (Mark.Gap c) s = refl
single (Mark.Touch c n h) s = refl
single (Mark.Make c n b) s = refl
single (Mark.Fill c n) s = refl

-- what is shown of one cell and of those behind it
shown-before : (b : CellMark) (ys : List CellMark) → is_made b ≡ false → cells_before (b ∷ ys) ≡ view_before b ∷ cells_before ys
shown-before Counted ys e = refl
shown-before (Gap c) ys e = refl
shown-before (Touch c n h) ys e = refl
shown-before (Make c n b) ys e = cc
shown-before (Fill c n) ys e = refl

shown-after : (a : CellMark) (xs : List CellMark) → cells_after (a ∷ xs) ≡ view_after a ∷ cells_after xs
shown-after Counted xs = refl
shown-after (Gap c) xs = refl
shown-after (Touch c n h) xs = refl
shown-after (Make c n b) xs = refl
shown-after (Fill c n) xs = refl

-- the walks over one cell of each
in_turn-both : (a b : CellMark) (xs ys : List CellMark) → is_made b ≡ false → in_turn (a ∷ xs) (b ∷ ys) ≡ Both a b ∷ in_turn xs ys
in_turn-both a Counted xs ys e = refl
in_turn-both a (Gap c) xs ys e = refl
in_turn-both a (Touch c n h) xs ys e = refl
in_turn-both a (Make c n b) xs ys e = cc
in_turn-both a (Fill c n) xs ys e = refl

meeting-both : (a b : CellMark) (rest : List CellMark → List CellPiece) (ys : List CellMark) → is_made b ≡ false → meeting_piece a rest (b ∷ ys) ≡ Both a b ∷ rest ys
meeting-both a Counted rest ys e = refl
meeting-both a (Gap c) rest ys e = refl
meeting-both a (Touch c n h) rest ys e = refl
meeting-both a (Make c n b) rest ys e = cc
meeting-both a (Fill c n) rest ys e = refl

beside-both : (a b : CellMark) (xs ys : List CellMark) → is_made a ≡ false → is_made b ≡ false → beside (a ∷ xs) (b ∷ ys) ≡ Both a b ∷ beside xs ys
beside-both Counted b xs ys e f = meeting-both Counted b (beside xs) ys f
beside-both (Gap c) b xs ys e f = meeting-both (Gap c) b (beside xs) ys f
beside-both (Touch c n h) b xs ys e f = meeting-both (Touch c n h) b (beside xs) ys f
beside-both (Make c n x) b xs ys e f = cc
beside-both (Fill c n) b xs ys e f = meeting-both (Fill c n) b (beside xs) ys f

option_map-next : (o : Option ℕ) → option_map (λ k. k + 1) o ≡ option_map (λ k. 1 + k) o
option_map-next None = refl
option_map-next (Some k) = let e : k + 1 ≡ 1 + k = omega arith in ap (λ j. Some j) e

-- one cell of each
pub next_agrees : (s t : CellView) (ss ts : List CellView) → agree s t ≡ true → first_difference (s ∷ ss) (t ∷ ts) ≡ option_map (λ k. 1 + k) (first_difference ss ts)
next_agrees s t ss ts e = rw e (option_map-next (first_difference ss ts))

pub next_differs : (s t : CellView) (ss ts : List CellView) → agree s t ≡ false → first_difference (s ∷ ss) (t ∷ ts) ≡ Some 0
next_differs s t ss ts e = rw e refl

-- one cell that both find
pub found_by_both : (a b : CellMark) (X Y xs ys : List CellMark) → X ≡ a ∷ xs → Y ≡ b ∷ ys → is_made a ≡ false → is_made b ≡ false → agree (view_before a) (view_before b) ≡ true
    → (beside X Y ≡ Both a b ∷ beside xs ys) × (first_difference (cells_before X) (cells_before Y) ≡ option_map (λ k. 1 + k) (first_difference (cells_before xs) (cells_before ys))) × (length xs + length ys < length X + length Y) × (length (cells_before Y) ≡ 1 + length (cells_before ys))
found_by_both a b X Y xs ys e f m l g = rw (e, f) (
  beside-both a b xs ys m l,
  (λ i. first_difference (shown-before a xs m i) (shown-before b ys l i)) ∙ next_agrees (view_before a) (view_before b) (cells_before xs) (cells_before ys) g,
  omega arith,
  (let n : length (cells_before (b ∷ ys)) ≡ suc (length (cells_before ys)) = ap length (shown-before b ys l) in omega (arith, n)),
)

pub found_otherwise : (a b : CellMark) (X Y xs ys : List CellMark) → X ≡ a ∷ xs → Y ≡ b ∷ ys → is_made a ≡ false → is_made b ≡ false → agree (view_before a) (view_before b) ≡ false
    → first_difference (cells_before X) (cells_before Y) ≡ Some 0
found_otherwise a b X Y xs ys e f m l g = rw (e, f) ((λ i. first_difference (shown-before a xs m i) (shown-before b ys l i)) ∙ next_differs (view_before a) (view_before b) (cells_before xs) (cells_before ys) g)

-- one cell that the first leaves and the second finds
pub left_and_found : (a b : CellMark) (X Y xs ys : List CellMark) → X ≡ a ∷ xs → Y ≡ b ∷ ys → is_made b ≡ false → agree (view_after a) (view_before b) ≡ true
    → (in_turn X Y ≡ Both a b ∷ in_turn xs ys) × (first_difference (cells_after X) (cells_before Y) ≡ option_map (λ k. 1 + k) (first_difference (cells_after xs) (cells_before ys))) × (length xs + length ys < length X + length Y) × (length (cells_before Y) ≡ 1 + length (cells_before ys))
left_and_found a b X Y xs ys e f l g = rw (e, f) (
  in_turn-both a b xs ys l,
  (λ i. first_difference (shown-after a xs i) (shown-before b ys l i)) ∙ next_agrees (view_after a) (view_before b) (cells_after xs) (cells_before ys) g,
  omega arith,
  (let n : length (cells_before (b ∷ ys)) ≡ suc (length (cells_before ys)) = ap length (shown-before b ys l) in omega (arith, n)),
)

-- ## So many cells that both count

more-added : (k : ℕ) (o : Option ℕ) → option_map (λ j. j + 1) (option_map (λ j. k + j) o) ≡ option_map (λ j. suc k + j) o
more-added k None = refl
more-added k (Some j) = let e : k + j + 1 ≡ suc k + j = omega arith in ap (λ i. Some i) e

none-added : (o : Option ℕ) → o ≡ option_map (λ j. zero + j) o
none-added None = refl
none-added (Some j) = let e : j ≡ zero + j = omega arith in ap (λ i. Some i) e

after-counted : (k : ℕ) (xs ys : List CellMark) → first_difference (cells_after (counted_cells k xs)) (cells_before (counted_cells k ys)) ≡ option_map (λ j. k + j) (first_difference (cells_after xs) (cells_before ys))
after-counted zero xs ys = none-added (first_difference (cells_after xs) (cells_before ys))
after-counted (suc k) xs ys = ap (option_map (λ j. j + 1)) (after-counted k xs ys) ∙ more-added k (first_difference (cells_after xs) (cells_before ys))

before-counted : (k : ℕ) (xs ys : List CellMark) → first_difference (cells_before (counted_cells k xs)) (cells_before (counted_cells k ys)) ≡ option_map (λ j. k + j) (first_difference (cells_before xs) (cells_before ys))
before-counted zero xs ys = none-added (first_difference (cells_before xs) (cells_before ys))
before-counted (suc k) xs ys = ap (option_map (λ j. j + 1)) (before-counted k xs ys) ∙ more-added k (first_difference (cells_before xs) (cells_before ys))

in_turn-counted : (k : ℕ) (xs ys : List CellMark) → in_turn (counted_cells k xs) (counted_cells k ys) ≡ both_counted k ++ in_turn xs ys
in_turn-counted zero xs ys = refl
in_turn-counted (suc k) xs ys = ap (λ l. Both Counted Counted ∷ l) (in_turn-counted k xs ys)

beside-counted : (k : ℕ) (xs ys : List CellMark) → beside (counted_cells k xs) (counted_cells k ys) ≡ both_counted k ++ beside xs ys
beside-counted zero xs ys = refl
beside-counted (suc k) xs ys = ap (λ l. Both Counted Counted ∷ l) (beside-counted k xs ys)

split : (p k : ℕ) (xs : List CellMark) → k ≤ p → counted_cells p xs ≡ counted_cells k (counted_cells (p - k) xs)
split p k xs h = let e : p ≡ k + (p - k) = omega arith in ap (λ n. counted_cells n xs) e ∙ counted-plus k (p - k) xs

shorter : (p q k : ℕ) (X Y xs ys : List CellMark) → 0 < k → k ≤ p → k ≤ q → X ≡ counted_cells p xs → Y ≡ counted_cells q ys → length (counted_cells (p - k) xs) + length (counted_cells (q - k) ys) < length X + length Y
shorter p q k X Y xs ys pos a b e f =
    let lx : length X ≡ p + length xs = ap length e ∙ length-counted p xs in
    let ly : length Y ≡ q + length ys = ap length f ∙ length-counted q ys in
    let rx : length (counted_cells (p - k) xs) ≡ (p - k) + length xs = length-counted (p - k) xs in
    let ry : length (counted_cells (q - k) ys) ≡ (q - k) + length ys = length-counted (q - k) ys in
    omega (arith, lx, ly, rx, ry)

found-counted : (k : ℕ) (xs : List CellMark) → length (cells_before (counted_cells k xs)) ≡ k + length (cells_before xs)
found-counted zero xs = omega arith
found-counted (suc k) xs = omega (arith, found-counted k xs)

pub counted_in_turn : (p q k : ℕ) (X Y xs ys : List CellMark) → 0 < k → k ≤ p → k ≤ q → X ≡ counted_cells p xs → Y ≡ counted_cells q ys
    → (in_turn X Y ≡ both_counted k ++ in_turn (counted_cells (p - k) xs) (counted_cells (q - k) ys)) × (first_difference (cells_after X) (cells_before Y) ≡ option_map (λ j. k + j) (first_difference (cells_after (counted_cells (p - k) xs)) (cells_before (counted_cells (q - k) ys)))) × (length (counted_cells (p - k) xs) + length (counted_cells (q - k) ys) < length X + length Y) × (length (cells_before Y) ≡ k + length (cells_before (counted_cells (q - k) ys)))
counted_in_turn p q k X Y xs ys pos a b e f = (
  (λ i. in_turn ((e ∙ split p k xs a) i) ((f ∙ split q k ys b) i)) ∙ in_turn-counted k (counted_cells (p - k) xs) (counted_cells (q - k) ys),
  (λ i. first_difference (cells_after ((e ∙ split p k xs a) i)) (cells_before ((f ∙ split q k ys b) i))) ∙ after-counted k (counted_cells (p - k) xs) (counted_cells (q - k) ys),
  shorter p q k X Y xs ys pos a b e f,
  ap (λ l. length (cells_before l)) (f ∙ split q k ys b) ∙ found-counted k (counted_cells (q - k) ys),
)

pub counted_beside : (p q k : ℕ) (X Y xs ys : List CellMark) → 0 < k → k ≤ p → k ≤ q → X ≡ counted_cells p xs → Y ≡ counted_cells q ys
    → (beside X Y ≡ both_counted k ++ beside (counted_cells (p - k) xs) (counted_cells (q - k) ys)) × (first_difference (cells_before X) (cells_before Y) ≡ option_map (λ j. k + j) (first_difference (cells_before (counted_cells (p - k) xs)) (cells_before (counted_cells (q - k) ys)))) × (length (counted_cells (p - k) xs) + length (counted_cells (q - k) ys) < length X + length Y) × (length (cells_before Y) ≡ k + length (cells_before (counted_cells (q - k) ys)))
counted_beside p q k X Y xs ys pos a b e f = (
  (λ i. beside ((e ∙ split p k xs a) i) ((f ∙ split q k ys b) i)) ∙ beside-counted k (counted_cells (p - k) xs) (counted_cells (q - k) ys),
  (λ i. first_difference (cells_before ((e ∙ split p k xs a) i)) (cells_before ((f ∙ split q k ys b) i))) ∙ before-counted k (counted_cells (p - k) xs) (counted_cells (q - k) ys),
  shorter p q k X Y xs ys pos a b e f,
  ap (λ l. length (cells_before l)) (f ∙ split q k ys b) ∙ found-counted k (counted_cells (q - k) ys),
)

-- ## Cells that one of the listings makes

pub made_single : (m : Mark) → is_made (cell_of m) ≡ true → IsSingle m
made_single (Mark.Skip k) e = cc
made_single (Mark.Gap c) e = cc
made_single (Mark.Touch c n h) e = cc
made_single (Mark.Make c n b) e = refl
made_single (Mark.Fill c n) e = cc

beside-first : (m : CellMark) (xs ys : List CellMark) → is_made m ≡ true → beside (m ∷ xs) ys ≡ First m ∷ beside xs ys
beside-first Counted xs ys e = cc
beside-first (Gap d) xs ys e = cc
beside-first (Touch d n h) xs ys e = cc
beside-first (Make d n b) xs ys e = refl
beside-first (Fill d n) xs ys e = cc

before-made : (m : CellMark) (xs : List CellMark) → is_made m ≡ true → cells_before (m ∷ xs) ≡ cells_before xs
before-made Counted xs e = cc
before-made (Gap d) xs e = cc
before-made (Touch d n h) xs e = cc
before-made (Make d n b) xs e = refl
before-made (Fill d n) xs e = cc

-- the first makes a cell
pub first_beside : (m : CellMark) (X Y xs : List CellMark) → X ≡ m ∷ xs → is_made m ≡ true
    → (beside X Y ≡ First m ∷ beside xs Y) × (first_difference (cells_before X) (cells_before Y) ≡ option_map (λ j. 0 + j) (first_difference (cells_before xs) (cells_before Y))) × (length xs + length Y < length X + length Y) × (length (cells_before Y) ≡ 0 + length (cells_before Y))
first_beside m X Y xs f e = rw f (
  beside-first m xs Y e,
  ap (λ l. first_difference l (cells_before Y)) (before-made m xs e) ∙ none-added (first_difference (cells_before xs) (cells_before Y)),
  omega arith,
  omega arith,
)

-- the second makes a cell before one that both find
beside-made : (m a : CellMark) (xs ys : List CellMark) → is_made m ≡ true → is_made a ≡ false → beside (a ∷ xs) (m ∷ ys) ≡ Then m ∷ beside (a ∷ xs) ys
beside-made Counted a xs ys e f = cc
beside-made (Gap d) a xs ys e f = cc
beside-made (Touch d n h) a xs ys e f = cc
beside-made (Fill d n) a xs ys e f = cc
beside-made (Make c n b) Counted xs ys e f = refl
beside-made (Make c n b) (Gap d) xs ys e f = refl
beside-made (Make c n b) (Touch d m h) xs ys e f = refl
beside-made (Make c n b) (Make d m x) xs ys e f = cc
beside-made (Make c n b) (Fill d m) xs ys e f = refl

alone-made : (m : CellMark) (ys : List CellMark) → is_made m ≡ true → beside [] (m ∷ ys) ≡ Then m ∷ beside [] ys
alone-made Counted ys e = cc
alone-made (Gap d) ys e = cc
alone-made (Touch d n h) ys e = cc
alone-made (Make d n b) ys e = refl
alone-made (Fill d n) ys e = cc

made_then : (X : List CellMark) (x : Head) (rest : List Mark) → IsFirst X x rest → is_make x ≡ false → (m : CellMark) → is_made m ≡ true → (ys : List CellMark) → beside X (m ∷ ys) ≡ Then m ∷ beside X ys
made_then X Head.End rest h e m f ys = rw h.0 (alone-made m ys f)
made_then X (Head.Many zero) rest h e m f ys = absurd (omega (arith, h.0))
made_then X (Head.Many (suc k)) rest h e m f ys = rw h.1 (beside-made m Counted (marks_left k rest) ys f refl)
made_then X (Head.Make a) rest h e m f ys = cc
made_then X (Head.Cell a) rest h e m f ys = rw h.1 (beside-made m (cell_of a.now) (spread rest) ys f h.2)

pub then_beside : (X Y : List CellMark) (x : Head) (rest : List Mark) → IsFirst X x rest → is_make x ≡ false → (m : CellMark) → is_made m ≡ true → (ys : List CellMark) → Y ≡ m ∷ ys
    → (beside X Y ≡ Then m ∷ beside X ys) × (first_difference (cells_before X) (cells_before Y) ≡ option_map (λ j. 0 + j) (first_difference (cells_before X) (cells_before ys))) × (length X + length ys < length X + length Y) × (length (cells_before Y) ≡ 0 + length (cells_before ys))
then_beside X Y x rest h e m g ys f = rw f (
  made_then X x rest h e m g ys,
  ap (first_difference (cells_before X)) (before-made m ys g) ∙ none-added (first_difference (cells_before X) (cells_before ys)),
  omega arith,
  (let n = ap length (before-made m ys g) in omega (arith, n)),
)

-- the second makes a cell where it finds what the first leaves
in_turn-made : (m : CellMark) (xs ys : List CellMark) → is_made m ≡ true → in_turn xs (m ∷ ys) ≡ Then m ∷ in_turn xs ys
in_turn-made Counted xs ys e = cc
in_turn-made (Gap d) xs ys e = cc
in_turn-made (Touch d n h) xs ys e = cc
in_turn-made (Make d n b) xs ys e = refl
in_turn-made (Fill d n) xs ys e = cc

pub then_in_turn : (m : CellMark) (X Y ys : List CellMark) → Y ≡ m ∷ ys → is_made m ≡ true
    → (in_turn X Y ≡ Then m ∷ in_turn X ys) × (first_difference (cells_after X) (cells_before Y) ≡ option_map (λ j. 0 + j) (first_difference (cells_after X) (cells_before ys))) × (length X + length ys < length X + length Y) × (length (cells_before Y) ≡ 0 + length (cells_before ys))
then_in_turn m X Y ys f e = rw f (
  in_turn-made m X ys e,
  ap (first_difference (cells_after X)) (before-made m ys e) ∙ none-added (first_difference (cells_after X) (cells_before ys)),
  omega arith,
  (let n = ap length (before-made m ys e) in omega (arith, n)),
)

-- ## A slot of a row, and a mark that finds it

after-met : (s : Slot) (m : CellMark) (d : List Slot) (xs : List CellMark) → is_made m ≡ false → after_row (s ∷ d) (m ∷ xs) ≡ record s { full = (view_after m).full } ∷ after_row d xs
after-met s Counted d xs e = refl
after-met s (Gap c) d xs e = refl
after-met s (Touch c n h) d xs e = refl
after-met s (Make c n b) d xs e = cc
after-met s (Fill c n) d xs e = refl

pub slot_met : (s : Slot) (m : CellMark) (full : Bool) (C d : List Slot) (X xs : List CellMark) → C ≡ s ∷ d → X ≡ m ∷ xs → is_made m ≡ false → agree (cell_view s.cell s.node s.full) (view_before m) ≡ true → full ≡ (view_after m).full
    → (after_row C X ≡ record { cell = s.cell; node = s.node; full = full } ∷ after_row d xs) × (first_difference (row_views C) (cells_before X) ≡ option_map (λ k. 1 + k) (first_difference (row_views d) (cells_before xs))) × (length d + length xs < length C + length X) × (length (cells_before X) ≡ 1 + length (cells_before xs))
slot_met s m full C d X xs e f l g h = rw (e, f) (
  after-met s m d xs l ∙ (λ i. record { cell = s.cell; node = s.node; full = sym h i } ∷ after_row d xs),
  (λ i. first_difference (cell_view s.cell s.node s.full ∷ row_views d) (shown-before m xs l i)) ∙ next_agrees (cell_view s.cell s.node s.full) (view_before m) (row_views d) (cells_before xs) g,
  omega arith,
  (let n : length (cells_before (m ∷ xs)) ≡ suc (length (cells_before xs)) = ap length (shown-before m xs l) in omega (arith, n)),
)

-- ## Where it isn't asked whether both find the same

-- one cell of each
pub both_alike : (a b : CellMark) (X Y xs ys : List CellMark) → X ≡ a ∷ xs → Y ≡ b ∷ ys → is_made a ≡ false → is_made b ≡ false
    → (beside X Y ≡ Both a b ∷ beside xs ys) × (length xs + length ys < length X + length Y) × (length (cells_before Y) ≡ 1 + length (cells_before ys))
both_alike a b X Y xs ys e f m l = rw (e, f) (
  beside-both a b xs ys m l,
  omega arith,
  (let n : length (cells_before (b ∷ ys)) ≡ suc (length (cells_before ys)) = ap length (shown-before b ys l) in omega (arith, n)),
)

-- the first ends
first_ends : (y : CellMark) (ys : List CellMark) → is_made y ≡ false → beside [] (y ∷ ys) ≡ []
first_ends Counted ys e = refl
first_ends (Gap c) ys e = refl
first_ends (Touch c n h) ys e = refl
first_ends (Make c n b) ys e = cc
first_ends (Fill c n) ys e = refl

pub alone_alike : (X Y : List CellMark) (y : Head) (rest : List Mark) → X ≡ [] → IsFirst Y y rest → is_make y ≡ false → beside X Y ≡ []
alone_alike X Y Head.End rest e h m = rw (e, h.0) refl
alone_alike X Y (Head.Many zero) rest e h m = absurd (omega (arith, h.0))
alone_alike X Y (Head.Many (suc k)) rest e h m = rw (e, h.1) refl
alone_alike X Y (Head.Make a) rest e h m = cc
alone_alike X Y (Head.Cell a) rest e h m = rw (e, h.1) (first_ends (cell_of a.now) (spread rest) h.2)

-- the second ends
second_ends : (x : CellMark) (xs : List CellMark) → is_made x ≡ false → beside (x ∷ xs) [] ≡ []
second_ends Counted xs e = refl
second_ends (Gap c) xs e = refl
second_ends (Touch c n h) xs e = refl
second_ends (Make c n b) xs e = cc
second_ends (Fill c n) xs e = refl

pub behind_alike : (a : CellMark) (X Y xs : List CellMark) → X ≡ a ∷ xs → is_made a ≡ false → Y ≡ [] → beside X Y ≡ []
behind_alike a X Y xs e m f = rw (e, f) (second_ends a xs m)

-- ## In turn, where nobody asks whether the second finds what the first leaves

-- one cell of each
pub both_in_turn : (a b : CellMark) (X Y xs ys : List CellMark) → X ≡ a ∷ xs → Y ≡ b ∷ ys → is_made b ≡ false
    → (in_turn X Y ≡ Both a b ∷ in_turn xs ys) × (length xs + length ys < length X + length Y) × (length (cells_before Y) ≡ 1 + length (cells_before ys))
both_in_turn a b X Y xs ys e f l = rw (e, f) (
  in_turn-both a b xs ys l,
  omega arith,
  (let n : length (cells_before (b ∷ ys)) ≡ suc (length (cells_before ys)) = ap length (shown-before b ys l) in omega (arith, n)),
)

-- the first ends
none_in_turn : (y : CellMark) (ys : List CellMark) → is_made y ≡ false → in_turn [] (y ∷ ys) ≡ []
none_in_turn Counted ys e = refl
none_in_turn (Gap c) ys e = refl
none_in_turn (Touch c n h) ys e = refl
none_in_turn (Make c n b) ys e = cc
none_in_turn (Fill c n) ys e = refl

pub alone_in_turn : (X Y : List CellMark) (y : Head) (rest : List Mark) → X ≡ [] → IsFirst Y y rest → is_make y ≡ false → in_turn X Y ≡ []
alone_in_turn X Y Head.End rest e h m = rw (e, h.0) refl
alone_in_turn X Y (Head.Many zero) rest e h m = absurd (omega (arith, h.0))
alone_in_turn X Y (Head.Many (suc k)) rest e h m = rw (e, h.1) refl
alone_in_turn X Y (Head.Make a) rest e h m = cc
alone_in_turn X Y (Head.Cell a) rest e h m = rw (e, h.1) (none_in_turn (cell_of a.now) (spread rest) h.2)

-- the second ends
pub behind_in_turn : (X Y : List CellMark) → Y ≡ [] → in_turn X Y ≡ []
behind_in_turn X Y f = rw f refl
