-- A change and a step that stand over documents with short rows can be laid beside each other, however they are read.
use Rattle.std.proofs.Common.{◌≡◌, ◌+◌, ◌<◌, ◌^◌, suc, Bool, true, false, List, [], ◌∷◌, map, length, Option, Some, None, option_map, refl, sym, ap, ◌∙◌, subst}
use Rattle.std.specs.Option.{option_map_or}
use Rattle.st_ids.specs.Listing.{item_of}
use Rattle.st_ids.specs.Order.{node_cmp}
use Rattle.st_ids.specs.declared.names.NodeId.{NodeId}
use Rattle.st_marks.specs.declared.changes.Change.{Change}
use Rattle.st_marks.specs.declared.intents.Intent.{Intent}
use Rattle.st_marks.specs.declared.marks.RowMarks.{RowMarks}
use Rattle.st_marks.specs.declared.steps.Step.{Step}
use Rattle.st_marks.specs.Document.{Document}
use Rattle.st_marks.specs.Embedding.{IsEmbedding}
use Rattle.st_marks.specs.Listings.{cells_before, cells_made, marks_of}
use Rattle.st_marks.specs.Row.{CellMark, Counted, Gap, Touch, Make, Fill, spread}
use Rattle.st_marks.specs.Step.{IsStep}
use Rattle.st_moves.specs.Room.{HasRoomInRows}
use Rattle.st_read_laws.specs.Reading.{IsRead, IsStepRead, read, read_change, read_row, read_step}
use Rattle.st_read_laws.proofs.Readings.{spread-read}
use Rattle.st_rows.specs.Changes.{may_list}
use Rattle.st_over.proofs.Listed.{item_same, rising_same}
use Rattle.st_over.specs.Laid.{CanBeLaid}

gap_made : (l : Bool) (c : Rattle.st_ids.specs.declared.names.CellId.CellId) (xs : List CellMark) → cells_made (read l (Gap c) ∷ xs) ≡ cells_made xs
gap_made true c xs = refl
gap_made false c xs = refl

gap_found : (l : Bool) (c : Rattle.st_ids.specs.declared.names.CellId.CellId) (xs : List CellMark) → length (cells_before (read l (Gap c) ∷ xs)) ≡ suc (length (cells_before xs))
gap_found true c xs = refl
gap_found false c xs = refl

made_read : (l : Bool) (xs : List CellMark) → cells_made (map (read l) xs) ≡ cells_made xs
made_read l [] = refl
made_read l (Counted ∷ xs) = made_read l xs
made_read l (Gap c ∷ xs) = gap_made l c (map (read l) xs) ∙ made_read l xs
made_read l (Touch c n h ∷ xs) = made_read l xs
made_read l (Make c n b ∷ xs) = ap (λ ys. c ∷ ys) (made_read l xs)
made_read l (Fill c n ∷ xs) = made_read l xs

found_read : (l : Bool) (xs : List CellMark) → length (cells_before (map (read l) xs)) ≡ length (cells_before xs)
found_read l [] = refl
found_read l (Counted ∷ xs) = ap suc (found_read l xs)
found_read l (Gap c ∷ xs) = gap_found l c (map (read l) xs) ∙ ap suc (found_read l xs)
found_read l (Touch c n h ∷ xs) = ap suc (found_read l xs)
found_read l (Make c n b ∷ xs) = found_read l xs
found_read l (Fill c n ∷ xs) = ap suc (found_read l xs)

may_read : (l : Bool) (xs ys : List CellMark) → may_list (map (read l) xs) (map (read l) ys) ≡ may_list xs ys
may_read l xs ys = λ i. length (made_read l xs i) + length (made_read l ys i) + found_read l ys i

marks_read : (l : Bool) (rows : List RowMarks) (n : NodeId) → marks_of (map (read_row l) rows) n ≡ map (read l) (marks_of rows n)
marks_read l rows n =
    ap (λ o. option_map_or (λ (r : RowMarks). spread r.marks) o []) (item_same node_cmp (λ (r : RowMarks). r.node) (read_row l) (λ r. refl) rows n)
    ∙ go (item_of node_cmp (λ (r : RowMarks). r.node) rows n)
  where
    go : (o : Option RowMarks) → option_map_or (λ (r : RowMarks). spread r.marks) (option_map (read_row l) o) [] ≡ map (read l) (option_map_or (λ (r : RowMarks). spread r.marks) o [])
    go None = refl
    go (Some r) = spread-read l r.marks

room_read : (l : Bool) (C : Change) (S : Step) → HasRoomInRows C S → HasRoomInRows (read_change l C) (read_step l S)
room_read l C S room n =
    let c = marks_read l C.rows n in
    let s = marks_read l S.rows n in (
      subst (λ k. k < 2 ^ 32) (sym ((λ i. may_list (c i) (s i)) ∙ may_read l (marks_of C.rows n) (marks_of S.rows n))) (room n).0,
      subst (λ k. k < 2 ^ 32) (sym ((λ i. may_list (s i) (c i)) ∙ may_read l (marks_of S.rows n) (marks_of C.rows n))) (room n).1,
    )

-- those that are read
laid : (l : Bool) (D E : Document) (N : Intent) (C : Change) (S : Step) → IsEmbedding D N C → IsStep D E S → HasRoomInRows C S → CanBeLaid (read_change l C) (read_step l S)
laid l D E N C S change step room = record {
  change_rows = rising_same node_cmp (λ (r : RowMarks). r.node) (read_row l) (λ r. refl) C.rows change.rows.rising;
  step_rows = rising_same node_cmp (λ (r : RowMarks). r.node) (read_row l) (λ r. refl) S.rows step.rows.rising;
  change_regs = change.regs.rising;
  step_regs = step.regs.rising;
  room = room_read l C S room;
}

pub stand_so : (l : Bool) (D E : Document) (N : Intent) (x : Change) (y : Step) → ((C : Change) (S : Step) → IsEmbedding D N C → IsStep D E S → HasRoomInRows C S) → IsRead l D N x → IsStepRead l D E y → CanBeLaid x y
stand_so l D E N x y have c s =
    subst (λ (C : Change). CanBeLaid C y) (sym c.2) (subst (λ (S : Step). CanBeLaid (read_change l c.0) S) (sym s.2) (laid l D E N c.0 s.0 c.1 s.1 (have c.0 s.0 c.1 s.1)))
