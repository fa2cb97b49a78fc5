-- What is read so of cells, rows, changes and steps.
use Rattle.std.proofs.Common.{◌≡◌, Bool, true, false, List, [], ◌∷◌, map, Some, None, cond, refl, sym, ap, ◌∙◌, subst, inl, inr}
use Rattle.std.specs.List.{list_any}
use Rattle.st_ids.specs.Listing.{Has, IsListing}
use Rattle.st_ids.specs.Order.{node_cmp}
use Rattle.st_ids.specs.declared.names.CellId.{CellId}
use Rattle.st_ids.specs.declared.names.NodeId.{NodeId}
use Rattle.st_ids.proofs.Listings.{has-item_of}
use Rattle.st_ids.proofs.Orders.{node_cmp_exact, node_cmp_total}
use Rattle.st_marks.specs.declared.changes.Change.{Change}
use Rattle.st_marks.specs.declared.intents.Intent.{Intent}
use Rattle.st_marks.specs.declared.marks.Mark.{Mark}
use Rattle.st_marks.specs.declared.marks.RowMarks.{RowMarks}
use Rattle.st_marks.specs.declared.steps.Step.{Step}
use Rattle.st_marks.specs.Document.{Document, IsSoundInForm, content}
use Rattle.st_marks.specs.Embedding.{IsEmbedding, row_marks, row_part, tells}
use Rattle.st_marks.specs.Row.{CellMark, Counted, Gap, Touch, Make, Fill, embed_row, merge, skip_one, spread, step_row}
use Rattle.st_marks.specs.Step.{IsStep}
use Rattle.st_marks.proofs.Unique.{one_embedding, one_step}
use Rattle.st_read_laws.specs.Reading.{IsRead, IsStepRead, read, read_change, read_marks, read_row, read_step}

-- ## Cells

gap-twice : (l : Bool) (c : CellId) → read l (read l (Gap c)) ≡ read l (Gap c)
gap-twice true c = refl
gap-twice false c = refl

pub read-twice : (l : Bool) (x : CellMark) → read l (read l x) ≡ read l x
read-twice l Counted = refl
read-twice l (Gap c) = gap-twice l c
read-twice l (Touch c n h) = refl
read-twice l (Make c n b) = refl
read-twice l (Fill c n) = refl

gap-counted : (l : Bool) (c : CellId) → read false (read l (Gap c)) ≡ read false (Gap c)
gap-counted true c = refl
gap-counted false c = refl

pub read-counted : (l : Bool) (x : CellMark) → read false (read l x) ≡ read false x
read-counted l Counted = refl
read-counted l (Gap c) = gap-counted l c
read-counted l (Touch c n h) = refl
read-counted l (Make c n b) = refl
read-counted l (Fill c n) = refl

pub read-listed : (x : CellMark) → read true x ≡ x
read-listed Counted = refl
read-listed (Gap c) = refl
read-listed (Touch c n h) = refl
read-listed (Make c n b) = refl
read-listed (Fill c n) = refl

-- ## Marks

skipped : (ms : List Mark) → spread (skip_one ms) ≡ Counted ∷ spread ms
skipped [] = refl
skipped (Mark.Skip k ∷ ms) = refl
skipped (Mark.Gap c ∷ ms) = refl
skipped (Mark.Touch c n h ∷ ms) = refl
skipped (Mark.Make c n b ∷ ms) = refl
skipped (Mark.Fill c n ∷ ms) = refl

spread-merge : (cells : List CellMark) → spread (merge cells) ≡ cells
spread-merge [] = refl
spread-merge (Counted ∷ ms) = skipped (merge ms) ∙ ap (λ l. Counted ∷ l) (spread-merge ms)
spread-merge (Gap c ∷ ms) = ap (λ l. Gap c ∷ l) (spread-merge ms)
spread-merge (Touch c n h ∷ ms) = ap (λ l. Touch c n h ∷ l) (spread-merge ms)
spread-merge (Make c n b ∷ ms) = ap (λ l. Make c n b ∷ l) (spread-merge ms)
spread-merge (Fill c n ∷ ms) = ap (λ l. Fill c n ∷ l) (spread-merge ms)

-- the cells of marks that are read so
pub spread-read : (l : Bool) (ms : List Mark) → spread (read_marks l ms) ≡ map (read l) (spread ms)
spread-read l ms = spread-merge (map (read l) (spread ms))

-- cell by cell
each : (f g h : CellMark → CellMark) → ((x : CellMark) → f (g x) ≡ h x) → (xs : List CellMark) → map f (map g xs) ≡ map h xs
each f g h same [] = refl
each f g h same (x ∷ xs) = λ i. same x i ∷ each f g h same xs i

pub all_listed : (xs : List CellMark) → map (read true) xs ≡ xs
all_listed [] = refl
all_listed (x ∷ xs) = λ i. read-listed x i ∷ all_listed xs i

pub marks-twice : (l : Bool) (ms : List Mark) → read_marks l (read_marks l ms) ≡ read_marks l ms
marks-twice l ms = ap (λ cells. merge (map (read l) cells)) (spread-read l ms) ∙ ap merge (each (read l) (read l) (read l) (read-twice l) (spread ms))

pub marks-counted : (l : Bool) (ms : List Mark) → read_marks false (read_marks l ms) ≡ read_marks false ms
marks-counted l ms = ap (λ cells. merge (map (read false) cells)) (spread-read l ms) ∙ ap merge (each (read false) (read l) (read false) (read-counted l) (spread ms))

-- marks that are merged, with each empty cell named
pub marks-listed : (cells : List CellMark) → read_marks true (merge cells) ≡ merge cells
marks-listed cells = ap (λ xs. merge (map (read true) xs)) (spread-merge cells) ∙ ap merge (all_listed cells)

-- ## Changes and steps

rows-twice : (l : Bool) (rows : List RowMarks) → map (read_row l) (map (read_row l) rows) ≡ map (read_row l) rows
rows-twice l [] = refl
rows-twice l (r ∷ rows) = λ i. record { node = r.node; marks = marks-twice l r.marks i } ∷ rows-twice l rows i

rows-counted : (l : Bool) (rows : List RowMarks) → map (read_row false) (map (read_row l) rows) ≡ map (read_row false) rows
rows-counted l [] = refl
rows-counted l (r ∷ rows) = λ i. record { node = r.node; marks = marks-counted l r.marks i } ∷ rows-counted l rows i

pub change-twice : (l : Bool) (C : Change) → read_change l (read_change l C) ≡ read_change l C
change-twice l C = λ i. record C { rows = rows-twice l C.rows i }

pub step-twice : (l : Bool) (S : Step) → read_step l (read_step l S) ≡ read_step l S
step-twice l S = λ i. record S { rows = rows-twice l S.rows i }

pub change-counted : (l : Bool) (C : Change) → read_change false (read_change l C) ≡ read_change false C
change-counted l C = λ i. record C { rows = rows-counted l C.rows i }

pub step-counted : (l : Bool) (S : Step) → read_step false (read_step l S) ≡ read_step false S
step-counted l S = λ i. record S { rows = rows-counted l S.rows i }

-- ## Read with each empty cell named

-- the rows of a listing stay
module _ (cells : NodeId → List CellMark) where
  abbrev is_row : RowMarks → Type 0
  is_row r = row_marks r.node (cells r.node) ≡ Some r

  marks_stay : (r : RowMarks) (b : Bool) → cond b (Some (record { node = r.node; marks = merge (cells r.node) })) None ≡ Some r → read_marks true r.marks ≡ r.marks
  marks_stay r true e = let m : merge (cells r.node) ≡ r.marks = cc in ap (read_marks true) (sym m) ∙ marks-listed (cells r.node) ∙ m
  marks_stay r false e = cc

  rows_stay : (rows : List RowMarks) → ((r : RowMarks) → Has rows r → is_row r) → map (read_row true) rows ≡ rows
  rows_stay [] h = refl
  rows_stay (r ∷ rows) h = λ i. record { node = r.node; marks = marks_stay r (list_any tells (cells r.node)) (h r (inl refl)) i } ∷ rows_stay rows (λ q k. h q (inr k)) i

  pub listing_stays : (rows : List RowMarks) → IsListing node_cmp (λ (r : RowMarks). r.node) rows (λ n. row_marks n (cells n)) → map (read_row true) rows ≡ rows
  listing_stays rows is = rows_stay rows (λ r k. sym (is.at_each r.node) ∙ has-item_of node_cmp node_cmp_total node_cmp_exact (λ (r : RowMarks). r.node) rows r is.rising k)

pub change_stays : (D : Document) (N : Intent) (C : Change) → IsEmbedding D N C → read_change true C ≡ C
change_stays D N C is = λ i. record C { rows = listing_stays (λ n. embed_row (row_part is.mentioned N n) (content D n)) C.rows is.rows i }

pub step_stays : (D E : Document) (S : Step) → IsStep D E S → read_step true S ≡ S
step_stays D E S is = λ i. record S { rows = listing_stays (λ n. step_row is.mentioned (is.grows n)) S.rows is.rows i }

-- ## What is read

pub one_read : (l : Bool) (D : Document) (N : Intent) (C K : Change) → IsRead l D N C → IsRead l D N K → C ≡ K
one_read l D N C K c k = c.2 ∙ ap (read_change l) (one_embedding D N c.0 k.0 c.1 k.1) ∙ sym k.2

pub one_step_read : (l : Bool) (D E : Document) (S T : Step) → IsSoundInForm E → IsStepRead l D E S → IsStepRead l D E T → S ≡ T
one_step_read l D E S T sound s t = s.2 ∙ ap (read_step l) (one_step D E s.0 t.0 sound s.1 t.1) ∙ sym t.2

pub counted_read : (l : Bool) (D : Document) (N : Intent) (C : Change) → IsRead l D N C → IsRead false D N (read_change false C)
counted_read l D N C c = (c.0, c.1, ap (read_change false) c.2 ∙ change-counted l c.0)

pub counted_step_read : (l : Bool) (D E : Document) (S : Step) → IsStepRead l D E S → IsStepRead false D E (read_step false S)
counted_step_read l D E S s = (s.0, s.1, ap (read_step false) s.2 ∙ step-counted l s.0)

pub read_listed : (D : Document) (N : Intent) (C : Change) → IsRead true D N C → IsEmbedding D N C
read_listed D N C c = let e : c.0 ≡ C = sym (change_stays D N c.0 c.1) ∙ sym c.2 in subst (IsEmbedding D N) e c.1

pub listed_read : (D : Document) (N : Intent) (C : Change) → IsEmbedding D N C → IsRead true D N C
listed_read D N C is = (C, is, sym (change_stays D N C is))

pub step_read_listed : (D E : Document) (S : Step) → IsStepRead true D E S → IsStep D E S
step_read_listed D E S s = let e : s.0 ≡ S = sym (step_stays D E s.0 s.1) ∙ sym s.2 in subst (IsStep D E) e s.1

pub step_listed_read : (D E : Document) (S : Step) → IsStep D E S → IsStepRead true D E S
step_listed_read D E S is = (S, is, sym (step_stays D E S is))
