-- The cells of a change's row that is raised over a step's: how many they are, and whether they tell something.
use Rattle.std.proofs.Common.{◌≡◌, ℕ, zero, suc, Bool, false, List, [], ◌∷◌, map, length, refl, sym, ap, ◌∙◌}
use Rattle.std.specs.List.{list_any}
use Rattle.st_ids.specs.declared.names.NodeId.{NodeId}
use Rattle.st_marks.specs.declared.places.Slot.{Slot}
use Rattle.st_marks.specs.Embedding.{tells}
use Rattle.st_marks.specs.Extends.{GainsItems}
use Rattle.st_marks.specs.Listings.{CellView, cells_before}
use Rattle.st_marks.specs.Row.{CellMark, Counted, Gap, Touch, Make, Fill, RowPart, SameCell, embed_row, step_row}
use Rattle.st_rows.specs.Walks.{CellPiece, Both, First, Then, beside}
use Rattle.st_rows.proofs.ViewsOfRows.{DescribeAll, change_finds, step_finds}
use Rattle.st_reading.specs.Pieces.{read_piece}
use Rattle.st_reading.proofs.CountedPieces.{beside-read}
use Rattle.st_read_laws.specs.Reading.{read}
use Rattle.st_passing.specs.Passing.{first_kept, raised}
use Rattle.st_passing.specs.Raising.{with_count, with_counts}
use Rattle.st_passing.proofs.CountsRaised.{counts_raised}

-- ## Both find the same cells

described : (c : List Slot) (xs : List CellView) → DescribeAll c xs → length xs ≡ length c
described [] [] h = refl
described [] (x ∷ xs) h = absurd h
described (s ∷ c) [] h = absurd h
described (s ∷ c) (x ∷ xs) h = ap suc (described c xs h.1)

found_read : (xs : List CellMark) → length (cells_before (map (read false) xs)) ≡ length (cells_before xs)
found_read [] = refl
found_read (Counted ∷ xs) = ap suc (found_read xs)
found_read (Gap c ∷ xs) = ap suc (found_read xs)
found_read (Touch c n h ∷ xs) = ap suc (found_read xs)
found_read (Make c n b ∷ xs) = found_read xs
found_read (Fill c n ∷ xs) = ap suc (found_read xs)

pub same_found : (p : RowPart) (m : NodeId → Bool) {c d : List Slot} (g : GainsItems SameCell c d) → length (cells_before (map (read false) (embed_row p c))) ≡ length (cells_before (map (read false) (step_row m g)))
same_found p m {c} g =
    found_read (embed_row p c) ∙ described c (cells_before (embed_row p c)) (change_finds p c)
    ∙ sym (found_read (step_row m g) ∙ described c (cells_before (step_row m g)) (step_finds m g))

-- ## Counts tell nothing

count_tells : (p : ℕ) (xs : List CellMark) → list_any tells (with_count p xs) ≡ list_any tells xs
count_tells p [] = refl
count_tells p (Make c n b ∷ xs) = refl
count_tells zero (Counted ∷ xs) = refl
count_tells zero (Gap c ∷ xs) = refl
count_tells zero (Touch c n h ∷ xs) = refl
count_tells zero (Fill c n ∷ xs) = refl
count_tells (suc p) (Counted ∷ xs) = count_tells p xs
count_tells (suc p) (Gap c ∷ xs) = count_tells p xs
count_tells (suc p) (Touch c n h ∷ xs) = refl
count_tells (suc p) (Fill c n ∷ xs) = refl

counts_tell : (p : ℕ) (xs ys : List CellMark) → list_any tells (with_counts p xs ys) ≡ list_any tells xs
counts_tell p xs [] = refl
counts_tell p xs (Make c n b ∷ ys) = counts_tell (suc p) (with_count p xs) ys ∙ count_tells p xs
counts_tell p xs (Counted ∷ ys) = counts_tell (suc p) xs ys
counts_tell p xs (Gap c ∷ ys) = counts_tell (suc p) xs ys
counts_tell p xs (Touch c n h ∷ ys) = counts_tell (suc p) xs ys
counts_tell p xs (Fill c n ∷ ys) = counts_tell (suc p) xs ys

-- a raised row is listed where the row was
pub raised_tells : (xs ys : List CellMark) → length (cells_before xs) ≡ length (cells_before ys) → list_any tells (raised xs ys) ≡ list_any tells xs
raised_tells xs ys h = ap (list_any tells) (sym (counts_raised xs ys h)) ∙ counts_tell 0 xs ys

-- ## Read so before or after

pieces_read : (ps : List CellPiece) → map first_kept (map (read_piece false) ps) ≡ map (read false) (map first_kept ps)
pieces_read [] = refl
pieces_read (Both x y ∷ ps) = ap (λ l. read false x ∷ l) (pieces_read ps)
pieces_read (First x ∷ ps) = ap (λ l. read false x ∷ l) (pieces_read ps)
pieces_read (Then y ∷ ps) = ap (λ l. Counted ∷ l) (pieces_read ps)

pub raised_read : (xs ys : List CellMark) → raised (map (read false) xs) (map (read false) ys) ≡ map (read false) (raised xs ys)
raised_read xs ys = ap (map first_kept) (beside-read false xs ys) ∙ pieces_read (beside xs ys)
