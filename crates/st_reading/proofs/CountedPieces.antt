-- Two listings with their empty cells counted, laid over each other.
use Rattle.std.proofs.Common.{◌≡◌, Bool, true, false, List, [], ◌∷◌, map, refl, sym, ap, ◌∙◌}
use Rattle.st_marks.specs.Row.{CellMark, Counted, Gap, Touch, Make, Fill}
use Rattle.st_mention_laws.specs.Shown.{unnamed}
use Rattle.st_rows.specs.Walks.{CellPiece, Both, First, Then, beside, in_turn, meeting_piece}
use Rattle.st_reading.specs.Pieces.{AreAlike, IsBlind, read_piece}
use Rattle.st_read_laws.specs.Reading.{read}
use Rattle.st_read_laws.proofs.Readings.{all_listed, read-listed}

abbrev unnamed_piece : CellPiece → CellPiece
unnamed_piece (Both x y) = Both (unnamed x) (unnamed y)
unnamed_piece (First x) = First (unnamed x)
unnamed_piece (Then y) = Then (unnamed y)

-- ## Side by side

meeting-unnamed : (x : CellMark) (rest more : List CellMark → List CellPiece) → ((ys : List CellMark) → more (map unnamed ys) ≡ map unnamed_piece (rest ys))
    → (ys : List CellMark) → meeting_piece (unnamed x) more (map unnamed ys) ≡ map unnamed_piece (meeting_piece x rest ys)
meeting-unnamed x rest more h [] = refl
meeting-unnamed x rest more h (Counted ∷ ys) = ap (λ l. Both (unnamed x) Counted ∷ l) (h ys)
meeting-unnamed x rest more h (Gap c ∷ ys) = ap (λ l. Both (unnamed x) Counted ∷ l) (h ys)
meeting-unnamed x rest more h (Touch c n k ∷ ys) = ap (λ l. Both (unnamed x) (Touch c n k) ∷ l) (h ys)
meeting-unnamed x rest more h (Make c n b ∷ ys) = ap (λ l. Then (Make c n b) ∷ l) (meeting-unnamed x rest more h ys)
meeting-unnamed x rest more h (Fill c n ∷ ys) = ap (λ l. Both (unnamed x) (Fill c n) ∷ l) (h ys)

beside-unnamed : (xs ys : List CellMark) → beside (map unnamed xs) (map unnamed ys) ≡ map unnamed_piece (beside xs ys)
beside-unnamed [] [] = refl
beside-unnamed [] (Counted ∷ ys) = refl
beside-unnamed [] (Gap c ∷ ys) = refl
beside-unnamed [] (Touch c n k ∷ ys) = refl
beside-unnamed [] (Make c n b ∷ ys) = ap (λ l. Then (Make c n b) ∷ l) (beside-unnamed [] ys)
beside-unnamed [] (Fill c n ∷ ys) = refl
beside-unnamed (Counted ∷ xs) ys = meeting-unnamed Counted (beside xs) (beside (map unnamed xs)) (λ zs. beside-unnamed xs zs) ys
beside-unnamed (Gap c ∷ xs) ys = meeting-unnamed (Gap c) (beside xs) (beside (map unnamed xs)) (λ zs. beside-unnamed xs zs) ys
beside-unnamed (Touch c n k ∷ xs) ys = meeting-unnamed (Touch c n k) (beside xs) (beside (map unnamed xs)) (λ zs. beside-unnamed xs zs) ys
beside-unnamed (Make c n b ∷ xs) ys = ap (λ l. First (Make c n b) ∷ l) (beside-unnamed xs ys)
beside-unnamed (Fill c n ∷ xs) ys = meeting-unnamed (Fill c n) (beside xs) (beside (map unnamed xs)) (λ zs. beside-unnamed xs zs) ys

-- ## In turn

in_turn-unnamed : (xs ys : List CellMark) → in_turn (map unnamed xs) (map unnamed ys) ≡ map unnamed_piece (in_turn xs ys)
in_turn-unnamed xs [] = refl
in_turn-unnamed xs (Make c n b ∷ ys) = ap (λ l. Then (Make c n b) ∷ l) (in_turn-unnamed xs ys)
in_turn-unnamed [] (Counted ∷ ys) = refl
in_turn-unnamed [] (Gap c ∷ ys) = refl
in_turn-unnamed [] (Touch c n k ∷ ys) = refl
in_turn-unnamed [] (Fill c n ∷ ys) = refl
in_turn-unnamed (x ∷ xs) (Counted ∷ ys) = ap (λ l. Both (unnamed x) Counted ∷ l) (in_turn-unnamed xs ys)
in_turn-unnamed (x ∷ xs) (Gap c ∷ ys) = ap (λ l. Both (unnamed x) Counted ∷ l) (in_turn-unnamed xs ys)
in_turn-unnamed (x ∷ xs) (Touch c n k ∷ ys) = ap (λ l. Both (unnamed x) (Touch c n k) ∷ l) (in_turn-unnamed xs ys)
in_turn-unnamed (x ∷ xs) (Fill c n ∷ ys) = ap (λ l. Both (unnamed x) (Fill c n) ∷ l) (in_turn-unnamed xs ys)

-- ## Either way of reading

counted : (x : CellMark) → read false x ≡ unnamed x
counted Counted = refl
counted (Gap c) = refl
counted (Touch c n h) = refl
counted (Make c n b) = refl
counted (Fill c n) = refl

all_counted : (xs : List CellMark) → map (read false) xs ≡ map unnamed xs
all_counted [] = refl
all_counted (x ∷ xs) = λ i. counted x i ∷ all_counted xs i

pieces_named : (ps : List CellPiece) → map (read_piece true) ps ≡ ps
pieces_named [] = refl
pieces_named (Both x y ∷ ps) = λ i. Both (read-listed x i) (read-listed y i) ∷ pieces_named ps i
pieces_named (First x ∷ ps) = λ i. First (read-listed x i) ∷ pieces_named ps i
pieces_named (Then y ∷ ps) = λ i. Then (read-listed y i) ∷ pieces_named ps i

pieces_counted : (ps : List CellPiece) → map (read_piece false) ps ≡ map unnamed_piece ps
pieces_counted [] = refl
pieces_counted (Both x y ∷ ps) = λ i. Both (counted x i) (counted y i) ∷ pieces_counted ps i
pieces_counted (First x ∷ ps) = λ i. First (counted x i) ∷ pieces_counted ps i
pieces_counted (Then y ∷ ps) = λ i. Then (counted y i) ∷ pieces_counted ps i

pub beside-read : (l : Bool) (xs ys : List CellMark) → beside (map (read l) xs) (map (read l) ys) ≡ map (read_piece l) (beside xs ys)
beside-read true xs ys = (λ i. beside (all_listed xs i) (all_listed ys i)) ∙ sym (pieces_named (beside xs ys))
beside-read false xs ys = (λ i. beside (all_counted xs i) (all_counted ys i)) ∙ beside-unnamed xs ys ∙ sym (pieces_counted (beside xs ys))

pub in_turn-read : (l : Bool) (xs ys : List CellMark) → in_turn (map (read l) xs) (map (read l) ys) ≡ map (read_piece l) (in_turn xs ys)
in_turn-read true xs ys = (λ i. in_turn (all_listed xs i) (all_listed ys i)) ∙ sym (pieces_named (in_turn xs ys))
in_turn-read false xs ys = (λ i. in_turn (all_counted xs i) (all_counted ys i)) ∙ in_turn-unnamed xs ys ∙ sym (pieces_counted (in_turn xs ys))

-- ## Tables that see no more than is read

blindly : (l : Bool) (f : CellPiece → CellMark) → IsBlind l f → (ps : List CellPiece) → map f (map (read_piece l) ps) ≡ map f ps
blindly l f blind [] = refl
blindly l f blind (p ∷ ps) = λ i. blind p i ∷ blindly l f blind ps i

pub alike_beside : (l : Bool) (f : CellPiece → CellMark) (xs ys us vs : List CellMark) → IsBlind l f → AreAlike l xs us → AreAlike l ys vs → map f (beside xs ys) ≡ map f (beside us vs)
alike_beside l f xs ys us vs blind a b =
    sym (blindly l f blind (beside xs ys)) ∙ ap (map f) (sym (beside-read l xs ys)) ∙ (λ i. map f (beside (a i) (b i)))
    ∙ ap (map f) (beside-read l us vs) ∙ blindly l f blind (beside us vs)

pub alike_in_turn : (l : Bool) (f : CellPiece → CellMark) (xs ys us vs : List CellMark) → IsBlind l f → AreAlike l xs us → AreAlike l ys vs → map f (in_turn xs ys) ≡ map f (in_turn us vs)
alike_in_turn l f xs ys us vs blind a b =
    sym (blindly l f blind (in_turn xs ys)) ∙ ap (map f) (sym (in_turn-read l xs ys)) ∙ (λ i. map f (in_turn (a i) (b i)))
    ∙ ap (map f) (in_turn-read l us vs) ∙ blindly l f blind (in_turn us vs)
