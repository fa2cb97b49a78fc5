-- A change makes as many names as its intent.
use Rattle.std.proofs.Common.{◌≡◌, ◌≢◌, ◌+◌, Bool, true, false, List, [], ◌∷◌, ◌++◌, map, length, refl, sym, ap, ◌∙◌, subst, arith, inl, inr}
use Rattle.std.specs.List.{flat_map, sum_by}
use Rattle.std.proofs.lemmas.List.{length-map}
use Rattle.std.proofs.lemmas.List.Sums.{sum_by-cons}
use Rattle.st_ids.specs.Listing.{AreDistinct, Has}
use Rattle.st_ids.specs.Order.{node_cmp, same_node}
use Rattle.st_ids.specs.declared.names.CellId.{CellId}
use Rattle.st_ids.proofs.Listings.{has-item_of}
use Rattle.st_ids.proofs.Orders.{node_cmp_exact, node_cmp_total}
use Rattle.st_lemmas.proofs.Lists.{length-append}
use Rattle.st_lists.specs.Names.{names_made}
use Rattle.st_marks.specs.declared.changes.Change.{Change}
use Rattle.st_marks.specs.declared.changes.NewNode.{NewNode}
use Rattle.st_marks.specs.declared.intents.Group.{Group}
use Rattle.st_marks.specs.declared.intents.Intent.{Intent}
use Rattle.st_marks.specs.declared.intents.Owned.{Owned}
use Rattle.st_marks.specs.declared.marks.Mark.{Mark}
use Rattle.st_marks.specs.declared.marks.RowMarks.{RowMarks}
use Rattle.st_marks.specs.Document.{Document, IsSoundInForm, content}
use Rattle.st_marks.specs.Embedding.{IsEmbedding, row_part}
use Rattle.st_marks.specs.Intent.{Fits, group_cells}
use Rattle.st_marks.specs.Listings.{cells_in, cells_made}
use Rattle.st_marks.specs.Row.{CellMark, Counted, Gap, Touch, Make, Fill, spread}
use Rattle.st_marks.proofs.Contained.{no_longer}
use Rattle.st_marks.proofs.Lookups.{group_at-group}
use Rattle.st_marks.proofs.Members.{all-has, distinct-right, first-has, flat_map-has, has-all, has-flat_map, map-has}
use Rattle.st_read_laws.specs.Reading.{IsRead, read, read_change, read_marks, read_row}
use Rattle.st_read_laws.proofs.Readings.{spread-read}
use Rattle.st_valid.specs.Room.{cells_made_in, makes_cell, names_of_change}
use Rattle.st_valid.proofs.NamesOfChanges.{no_more_names}
use Rattle.st_normal.proofs.Counted.{made_counted}
use Rattle.st_normal_laws.proofs.EasyCells.{cells_are_once}
use Rattle.st_puts.proofs.MeaningFits.{rising_distinct}
use Rattle.st_puts.proofs.OverDocuments.{row-look, row-makes}

-- ## Cells that marks make

made_spread : (ms : List Mark) → length (cells_made (spread ms)) ≡ sum_by makes_cell ms
made_spread [] = refl
made_spread (Mark.Skip k ∷ ms) = let e = ap length (made_counted k (spread ms)) in omega (arith, e, made_spread ms, sum_by-cons makes_cell (Mark.Skip k) ms)
made_spread (Mark.Gap c ∷ ms) = omega (arith, made_spread ms, sum_by-cons makes_cell (Mark.Gap c) ms)
made_spread (Mark.Touch c n h ∷ ms) = omega (arith, made_spread ms, sum_by-cons makes_cell (Mark.Touch c n h) ms)
made_spread (Mark.Make c n b ∷ ms) = omega (arith, made_spread ms, sum_by-cons makes_cell (Mark.Make c n b) ms)
made_spread (Mark.Fill c n ∷ ms) = omega (arith, made_spread ms, sum_by-cons makes_cell (Mark.Fill c n) ms)

abbrev all_made : List RowMarks → List CellId
all_made rows = flat_map (λ (r : RowMarks). cells_made (spread r.marks)) rows

abbrev all_named : List RowMarks → List CellId
all_named rows = flat_map (λ (r : RowMarks). cells_in (spread r.marks)) rows

all_counted : (rows : List RowMarks) → length (all_made rows) ≡ sum_by cells_made_in rows
all_counted [] = refl
all_counted (r ∷ rows) =
    let all : length (all_made (r ∷ rows)) ≡ length (cells_made (spread r.marks)) + length (all_made rows) = length-append (cells_made (spread r.marks)) (all_made rows) in
    omega (arith, all, made_spread r.marks, all_counted rows, sum_by-cons cells_made_in r rows)

-- ## A cell that is named once is made once

among_named : (ms : List CellMark) (As Bs : List CellId) → ((c : CellId) → Has As c → Has Bs c) → (c : CellId) → Has (cells_made ms ++ As) c → Has (cells_in ms ++ Bs) c
among_named [] As Bs sub c h = sub c h
among_named (Counted ∷ ms) As Bs sub c h = among_named ms As Bs sub c h
among_named (Gap d ∷ ms) As Bs sub c h = inr (among_named ms As Bs sub c h)
among_named (Touch d n w ∷ ms) As Bs sub c h = inr (among_named ms As Bs sub c h)
among_named (Make d n b ∷ ms) As Bs sub c (inl e) = inl e
among_named (Make d n b ∷ ms) As Bs sub c (inr h) = inr (among_named ms As Bs sub c h)
among_named (Fill d n ∷ ms) As Bs sub c h = inr (among_named ms As Bs sub c h)

marks_once : (ms : List CellMark) (As Bs : List CellId) → ((c : CellId) → Has As c → Has Bs c) → AreDistinct (λ (c : CellId). c) As → AreDistinct (λ (c : CellId). c) (cells_in ms ++ Bs) → AreDistinct (λ (c : CellId). c) (cells_made ms ++ As)
marks_once [] As Bs sub a b = a
marks_once (Counted ∷ ms) As Bs sub a b = marks_once ms As Bs sub a b
marks_once (Gap c ∷ ms) As Bs sub a b = marks_once ms As Bs sub a b.1
marks_once (Touch c n h ∷ ms) As Bs sub a b = marks_once ms As Bs sub a b.1
marks_once (Make c n f ∷ ms) As Bs sub a b = (
  has-all (λ d. d ≢ c) (cells_made ms ++ As) (λ d h. all-has (λ d. d ≢ c) (cells_in ms ++ Bs) d b.0 (among_named ms As Bs sub d h)),
  marks_once ms As Bs sub a b.1,
)
marks_once (Fill c n ∷ ms) As Bs sub a b = marks_once ms As Bs sub a b.1

all_among : (rows : List RowMarks) (c : CellId) → Has (all_made rows) c → Has (all_named rows) c
all_among [] c h = absurd h
all_among (r ∷ rows) c h = among_named (spread r.marks) (all_made rows) (all_named rows) (all_among rows) c h

rows_once : (rows : List RowMarks) → AreDistinct (λ (c : CellId). c) (all_named rows) → AreDistinct (λ (c : CellId). c) (all_made rows)
rows_once [] d = tt
rows_once (r ∷ rows) d = marks_once (spread r.marks) (all_made rows) (all_named rows) (all_among rows) (rows_once rows (distinct-right (λ (c : CellId). c) (cells_in (spread r.marks)) (all_named rows) d)) d

-- ## The change of an intent

module _ (D : Document) (N : Intent) (C : Change) (x : IsSoundInForm D) (f : Fits D N) (emb : IsEmbedding D N C) where
  new_node_made : (m : NewNode) → Has C.new m → Has N.new m
  new_node_made m h =
      (first-has (λ (y : NewNode). same_node y.node m.node) N.new m (sym (emb.new.at_each m.node) ∙ has-item_of node_cmp node_cmp_total node_cmp_exact (λ (m : NewNode). m.node) C.new m emb.new.rising h)).0

  new_cell_made : (c : CellId) → Has (all_made C.rows) c → Has (map (λ (o : Owned). o.cell) (group_cells N)) c
  new_cell_made c h =
      let r = has-flat_map (λ (r : RowMarks). cells_made (spread r.marks)) C.rows c h in
      let w = row-makes (row_part emb.mentioned N r.0.node) (content D r.0.node) c (subst (λ ms. Has (cells_made ms) c) (row-look D N C x f emb r.0 r.1).0 r.2) in
      let g = group_at-group N r.0.node w.0 w.1 w.2 in
      subst (Has (map (λ (o : Owned). o.cell) (group_cells N))) w.3 (map-has (λ (o : Owned). o.cell) (group_cells N) w.1 (flat_map-has (λ (k : Group). k.cells) N.groups g.group w.1 g.listed g.cell))

  pub as_many_names : names_of_change C ≡ names_made N
  as_many_names =
      let nodes = no_longer (λ (m : NewNode). m.node) C.new N.new (rising_distinct node_cmp node_cmp_total (λ (m : NewNode). m.node) C.new emb.new.rising) new_node_made in
      let cells = no_longer (λ (c : CellId). c) (all_made C.rows) (map (λ (o : Owned). o.cell) (group_cells N)) (rows_once C.rows (cells_are_once D N C x f emb)) new_cell_made in
      omega (arith, nodes, cells, all_counted C.rows, length-map (group_cells N) (λ (o : Owned). o.cell), no_more_names D N C x f emb)

-- ## The change, read

gap_read : (l : Bool) (c : CellId) (ms : List CellMark) → cells_made (read l (Gap c) ∷ ms) ≡ cells_made ms
gap_read true c ms = refl
gap_read false c ms = refl

read_makes : (l : Bool) (ms : List CellMark) → cells_made (map (read l) ms) ≡ cells_made ms
read_makes l [] = refl
read_makes l (Counted ∷ ms) = read_makes l ms
read_makes l (Gap c ∷ ms) = gap_read l c (map (read l) ms) ∙ read_makes l ms
read_makes l (Touch c n h ∷ ms) = read_makes l ms
read_makes l (Make c n b ∷ ms) = ap (λ cs. c ∷ cs) (read_makes l ms)
read_makes l (Fill c n ∷ ms) = read_makes l ms

marks_counted : (l : Bool) (ms : List Mark) → sum_by makes_cell (read_marks l ms) ≡ sum_by makes_cell ms
marks_counted l ms = sym (made_spread (read_marks l ms)) ∙ ap (λ cells. length (cells_made cells)) (spread-read l ms) ∙ ap length (read_makes l (spread ms)) ∙ made_spread ms

rows_counted : (l : Bool) (rows : List RowMarks) → sum_by cells_made_in (map (read_row l) rows) ≡ sum_by cells_made_in rows
rows_counted l [] = refl
rows_counted l (r ∷ rows) = omega (arith, marks_counted l r.marks, rows_counted l rows, sum_by-cons cells_made_in (read_row l r) (map (read_row l) rows), sum_by-cons cells_made_in r rows)

pub names_are_made : (l : Bool) (A : Document) (N : Intent) (C : Change) → IsSoundInForm A → Fits A N → IsRead l A N C → names_of_change C ≡ names_made N
names_are_made l A N C x f w =
    let as_read : names_of_change C ≡ names_of_change (read_change l w.0) = ap names_of_change w.2 in
    omega (arith, as_read, rows_counted l w.0.rows, as_many_names A N w.0 x f w.1)
