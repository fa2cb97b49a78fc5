-- What a walk over two listings has written so far.
use Rattle.std.proofs.Common.{◌≡◌, ℕ, zero, suc, ◌+◌, ◌≤◌, List, [], ◌∷◌, ◌++◌, Option, Some, None, option_map, map, length, refl, sym, ap, ◌∙◌, arith, append_assoc, length-append}
use Rattle.std.proofs.lemmas.List.{length-map, map-append}
use Rattle.st_marks.specs.Row.{CellMark, Counted, Gap, Touch, Make, Fill, counted_cells}
use Rattle.st_marks.specs.Listings.{cells_before, cells_made}
use Rattle.st_rows.specs.Changes.{may_list}
use Rattle.st_rows.specs.Pieces.{both_counted}
use Rattle.st_rows.specs.Walks.{CellPiece, Both, in_turn, meeting_piece, beside}

pub map-both_counted : (f : CellPiece → CellMark) (k : ℕ) → f (Both Counted Counted) ≡ Counted → counted_cells k [] ≡ map f (both_counted k)
map-both_counted f zero e = refl
map-both_counted f (suc k) e = λ i. sym e i ∷ map-both_counted f k e i

-- ## One piece more

pub goes_on : (f : CellPiece → CellMark) (out new w T : List CellMark) (W W' l : List CellPiece) → out ++ map f W ≡ T → W ≡ l ++ W' → w ≡ map f l → new ≡ out ++ w → new ++ map f W' ≡ T
goes_on f out new w T W W' l e g h k =
    ap (λ x. x ++ map f W') (k ∙ ap (λ x. out ++ x) h) ∙ append_assoc out (map f l) (map f W') ∙ ap (λ x. out ++ x) (sym (ap (map f) g ∙ map-append f l W')) ∙ e

pub has_room : (f : CellPiece → CellMark) (out w T : List CellMark) (W W' l : List CellPiece) → out ++ map f W ≡ T → W ≡ l ++ W' → w ≡ map f l → length out + length w ≤ length T
has_room f out w T W W' l e g h =
    let a : length T ≡ length out + length (map f W) = ap length (sym e) ∙ length-append out (map f W) in
    let b : length (map f W) ≡ length (map f l) + length (map f W') = ap length (ap (map f) g ∙ map-append f l W') ∙ length-append (map f l) (map f W') in
    let c : length w ≡ length (map f l) = ap length h in
    omega (arith, a, b, c)

-- the cells that are written and those of a piece are no more than the whole
pub room_left : (f : CellPiece → CellMark) (out : List CellMark) (whole W W' l : List CellPiece) → out ++ map f W ≡ map f whole → W ≡ l ++ W' → length out + length l ≤ length whole
room_left f out whole W W' l e g =
    let h = has_room f out (map f l) (map f whole) W W' l e g refl in
    let a : length (map f l) ≡ length l = length-map l f in
    let b : length (map f whole) ≡ length whole = length-map whole f in
    omega (arith, h, a, b)

pub place_on : (o d d' : Option ℕ) (place m : ℕ) → o ≡ option_map (λ k. place + k) d → d ≡ option_map (λ k. m + k) d' → o ≡ option_map (λ k. (place + m) + k) d'
place_on o d d' place m e g = e ∙ ap (option_map (λ k. place + k)) g ∙ twice d'
  where
    twice : (x : Option ℕ) → option_map (λ k. place + k) (option_map (λ k. m + k) x) ≡ option_map (λ k. (place + m) + k) x
    twice None = refl
    twice (Some k) = let q : place + (m + k) ≡ (place + m) + k = omega arith in ap (λ j. Some j) q

pub none_before : (o : Option ℕ) → o ≡ option_map (λ k. 0 + k) o
none_before None = refl
none_before (Some k) = let q : k ≡ 0 + k = omega arith in ap (λ j. Some j) q

pub place_here : (place : ℕ) → option_map (λ k. place + k) (Some 0) ≡ Some place
place_here place = let q : place + 0 ≡ place = omega arith in ap (λ j. Some j) q

-- ## How long a walk is

pub in_turn_length : (xs ys : List CellMark) → length (in_turn xs ys) ≤ length ys
in_turn_length xs [] = omega arith
in_turn_length xs (Make c n b ∷ ys) = omega (arith, in_turn_length xs ys)
in_turn_length [] (Counted ∷ ys) = omega arith
in_turn_length [] (Gap c ∷ ys) = omega arith
in_turn_length [] (Touch c n h ∷ ys) = omega arith
in_turn_length [] (Fill c n ∷ ys) = omega arith
in_turn_length (x ∷ xs) (Counted ∷ ys) = omega (arith, in_turn_length xs ys)
in_turn_length (x ∷ xs) (Gap c ∷ ys) = omega (arith, in_turn_length xs ys)
in_turn_length (x ∷ xs) (Touch c n h ∷ ys) = omega (arith, in_turn_length xs ys)
in_turn_length (x ∷ xs) (Fill c n ∷ ys) = omega (arith, in_turn_length xs ys)

pub found_length : (ys : List CellMark) → length (cells_before ys) ≤ length ys
found_length [] = omega arith
found_length (Counted ∷ ys) = omega (arith, found_length ys)
found_length (Gap c ∷ ys) = omega (arith, found_length ys)
found_length (Touch c n h ∷ ys) = omega (arith, found_length ys)
found_length (Make c n b ∷ ys) = omega (arith, found_length ys)
found_length (Fill c n ∷ ys) = omega (arith, found_length ys)

meeting_length : (a : CellMark) (rest : List CellMark → List CellPiece) (m : ℕ) → ((ys : List CellMark) → length (rest ys) ≤ m + length (cells_made ys) + length (cells_before ys)) → (ys : List CellMark) → length (meeting_piece a rest ys) ≤ m + length (cells_made ys) + length (cells_before ys)
meeting_length a rest m h [] = omega arith
meeting_length a rest m h (Counted ∷ ys) = omega (arith, h ys)
meeting_length a rest m h (Gap c ∷ ys) = omega (arith, h ys)
meeting_length a rest m h (Touch c n x ∷ ys) = omega (arith, h ys)
meeting_length a rest m h (Make c n b ∷ ys) = omega (arith, meeting_length a rest m h ys)
meeting_length a rest m h (Fill c n ∷ ys) = omega (arith, h ys)

pub beside_length : (xs ys : List CellMark) → length (beside xs ys) ≤ may_list xs ys
beside_length [] [] = omega arith
beside_length [] (Make c n b ∷ ys) = omega (arith, beside_length [] ys)
beside_length [] (Counted ∷ ys) = omega arith
beside_length [] (Gap c ∷ ys) = omega arith
beside_length [] (Touch c n h ∷ ys) = omega arith
beside_length [] (Fill c n ∷ ys) = omega arith
beside_length (Make c n b ∷ xs) ys = omega (arith, beside_length xs ys)
beside_length (Counted ∷ xs) ys = meeting_length Counted (beside xs) (length (cells_made xs)) (beside_length xs) ys
beside_length (Gap c ∷ xs) ys = meeting_length (Gap c) (beside xs) (length (cells_made xs)) (beside_length xs) ys
beside_length (Touch c n h ∷ xs) ys = meeting_length (Touch c n h) (beside xs) (length (cells_made xs)) (beside_length xs) ys
beside_length (Fill c n ∷ xs) ys = meeting_length (Fill c n) (beside xs) (length (cells_made xs)) (beside_length xs) ys
