-- What is read off a step doesn't depend on how its empty cells are read.
use Rattle.std.proofs.Common.{◌≡◌, ◌++◌, Bool, true, false, List, [], ◌∷◌, map, Some, cond, refl, ap, ◌∙◌}
use Rattle.std.specs.List.{flat_map}
use Rattle.std.specs.Option.{option_map_or}
use Rattle.std.specs.Ordering.{is_eq}
use Rattle.st_ids.specs.Listing.{item_of}
use Rattle.st_ids.specs.Order.{node_cmp}
use Rattle.st_ids.specs.declared.names.CellId.{CellId}
use Rattle.st_ids.specs.declared.names.NodeId.{NodeId}
use Rattle.st_marks.specs.declared.marks.RowMarks.{RowMarks}
use Rattle.st_marks.specs.declared.steps.Step.{Step}
use Rattle.st_marks.specs.Listings.{cells_made, marks_of}
use Rattle.st_marks.specs.Row.{CellMark, Counted, Gap, Touch, Make, Fill, spread}
use Rattle.st_normal.specs.declared.entries.Found.{Found}
use Rattle.st_normal.specs.Rules.{entries_of_step, found_in, found_loose, found_over, in_rows}
use Rattle.st_read_laws.proofs.Readings.{spread-read}
use Rattle.st_read_laws.specs.Reading.{read, read_row, read_step}

-- ## Marks

-- what isn't told of empty cells is told alike
pub made-read : (l : Bool) (ys : List CellMark) → cells_made (map (read l) ys) ≡ cells_made ys
made-read l [] = refl
made-read l (Counted ∷ ys) = made-read l ys
made-read l (Gap c ∷ ys) = gap l (made-read l ys)
  where
    gap : (k : Bool) → cells_made (map (read l) ys) ≡ cells_made ys → cells_made (read k (Gap c) ∷ map (read l) ys) ≡ cells_made ys
    gap true e = e
    gap false e = e
made-read l (Touch c n h ∷ ys) = made-read l ys
made-read l (Make c n b ∷ ys) = ap (λ (r : List CellId). c ∷ r) (made-read l ys)
made-read l (Fill c n ∷ ys) = made-read l ys

pub found-read : (l : Bool) (ys : List CellMark) → found_in (map (read l) ys) ≡ found_in ys
found-read l [] = refl
found-read l (Counted ∷ ys) = found-read l ys
found-read l (Gap c ∷ ys) = gap l (found-read l ys)
  where
    gap : (k : Bool) → found_in (map (read l) ys) ≡ found_in ys → found_in (read k (Gap c) ∷ map (read l) ys) ≡ found_in ys
    gap true e = e
    gap false e = e
found-read l (Touch c n h ∷ ys) = ap (λ (r : List Found). record { node = n; how = h } ∷ r) (found-read l ys)
found-read l (Make c n b ∷ ys) = found-read l ys
found-read l (Fill c n ∷ ys) = found-read l ys

-- ## Rows

pub rows-read : {A : Type 0} (f : List CellMark → List A) (l : Bool) → ((ys : List CellMark) → f (map (read l) ys) ≡ f ys) → (rows : List RowMarks) → in_rows f (map (read_row l) rows) ≡ in_rows f rows
rows-read f l h [] = refl
rows-read f l h (r ∷ rows) = λ i. (ap f (spread-read l r.marks) ∙ h (spread r.marks)) i ++ rows-read f l h rows i

-- the marks of a row
pub marks_of-read : (l : Bool) (rows : List RowMarks) (n : NodeId) → marks_of (map (read_row l) rows) n ≡ map (read l) (marks_of rows n)
marks_of-read l [] n = refl
marks_of-read l (r ∷ rows) n = go (is_eq (node_cmp n r.node)) (marks_of-read l rows n)
  where
    go : (b : Bool) → marks_of (map (read_row l) rows) n ≡ map (read l) (marks_of rows n)
        → option_map_or (λ (q : RowMarks). spread q.marks) (cond b (Some (read_row l r)) (item_of node_cmp (λ (q : RowMarks). q.node) (map (read_row l) rows) n)) []
        ≡ map (read l) (option_map_or (λ (q : RowMarks). spread q.marks) (cond b (Some r) (item_of node_cmp (λ (q : RowMarks). q.node) rows n)) [])
    go true e = spread-read l r.marks
    go false e = e

-- ## The whole

pub finds-read : (l : Bool) (S : Step) → (entries_of_step (read_step l S)).found ≡ (entries_of_step S).found
finds-read l S = ap (λ (fs : List Found). fs ++ (flat_map found_over S.regs ++ found_loose S.loose)) (rows-read found_in l (found-read l) S.rows)
