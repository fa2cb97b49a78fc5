-- A change makes no more names than its intent.
use Rattle.std.proofs.Common.{◌≡◌, ◌≢◌, ◌≤◌, ◌+◌, ℕ, zero, suc, List, [], ◌∷◌, length, map, Some, refl, sym, ap, ◌∙◌, subst, arith, inl, inr}
use Rattle.std.specs.List.{flat_map, sum_by}
use Rattle.std.proofs.lemmas.List.{length-map}
use Rattle.std.proofs.lemmas.List.Sums.{sum_by-cons}
use Rattle.st_ids.specs.Listing.{AreDistinct, Has}
use Rattle.st_ids.specs.Order.{node_cmp, same_node}
use Rattle.st_ids.specs.declared.names.CellId.{CellId}
use Rattle.st_ids.proofs.Listings.{has-item_of}
use Rattle.st_ids.proofs.Orders.{node_cmp_exact, node_cmp_total}
use Rattle.st_lemmas.proofs.Lists.{length-append}
use Rattle.st_marks.specs.declared.changes.Change.{Change}
use Rattle.st_marks.specs.declared.changes.NewNode.{NewNode}
use Rattle.st_marks.specs.declared.intents.Group.{Group}
use Rattle.st_marks.specs.declared.intents.Intent.{Intent}
use Rattle.st_marks.specs.declared.intents.Owned.{Owned}
use Rattle.st_marks.specs.declared.marks.Mark.{Mark}
use Rattle.st_marks.specs.declared.marks.RowMarks.{RowMarks}
use Rattle.st_marks.specs.Document.{Document, IsSoundInForm, content}
use Rattle.st_marks.specs.Embedding.{IsEmbedding, row_part}
use Rattle.st_marks.specs.Intent.{Fits, group_cells, new_node}
use Rattle.st_marks.specs.Listings.{cells_in, cells_made}
use Rattle.st_marks.specs.Row.{CellMark, Counted, Gap, Touch, Make, Fill, counted_cells, spread}
use Rattle.st_marks.proofs.Contained.{no_longer}
use Rattle.st_marks.proofs.Lookups.{group_at-group}
use Rattle.st_marks.proofs.Members.{distinct-append, distinct-between, distinct-left, distinct-right, first-has, flat_map-has, has-all, has-flat_map, map-has}
use Rattle.st_lists.specs.Names.{names_made}
use Rattle.st_normal_laws.proofs.EasyCells.{cells_are_once}
use Rattle.st_puts.proofs.MeaningFits.{rising_distinct}
use Rattle.st_puts.proofs.OverDocuments.{row-look, row-makes}
use Rattle.st_valid.specs.Room.{cells_made_in, makes_cell, names_of_change}

-- ## How many cells marks make

counted_none : (k : ℕ) (ms : List CellMark) → cells_made (counted_cells k ms) ≡ cells_made ms
counted_none zero ms = refl
counted_none (suc k) ms = counted_none k ms

one_counted : (m : Mark) (ms : List Mark) → length (cells_made (spread ms)) ≡ sum_by makes_cell ms → length (cells_made (spread (m ∷ ms))) ≡ makes_cell m + sum_by makes_cell ms
one_counted (Mark.Skip k) ms h = let none : length (cells_made (counted_cells k (spread ms))) ≡ length (cells_made (spread ms)) = ap (λ (l : List CellId). length l) (counted_none k (spread ms)) in omega (arith, none, h)
one_counted (Mark.Gap c) ms h = omega (arith, h)
one_counted (Mark.Touch c n w) ms h = omega (arith, h)
one_counted (Mark.Make c n b) ms h = omega (arith, h)
one_counted (Mark.Fill c n) ms h = omega (arith, h)

made_counted : (ms : List Mark) → length (cells_made (spread ms)) ≡ sum_by makes_cell ms
made_counted [] = refl
made_counted (m ∷ ms) = one_counted m ms (made_counted ms) ∙ sym (sum_by-cons makes_cell m ms)

abbrev all_made : List RowMarks → List CellId
all_made rows = flat_map (λ (r : RowMarks). cells_made (spread r.marks)) rows

abbrev all_named : List RowMarks → List CellId
all_named rows = flat_map (λ (r : RowMarks). cells_in (spread r.marks)) rows

all_counted : (rows : List RowMarks) → length (all_made rows) ≡ sum_by cells_made_in rows
all_counted [] = refl
all_counted (r ∷ rows) =
    let all : length (all_made (r ∷ rows)) ≡ length (cells_made (spread r.marks)) + length (all_made rows) = length-append (cells_made (spread r.marks)) (all_made rows) in
    omega (arith, all, made_counted r.marks, all_counted rows, sum_by-cons cells_made_in r rows)

-- ## Each is made once, where each is named once

made_named : (ms : List CellMark) (c : CellId) → Has (cells_made ms) c → Has (cells_in ms) c
made_named [] c h = absurd h
made_named (Counted ∷ ms) c h = made_named ms c h
made_named (Gap d ∷ ms) c h = inr (made_named ms c h)
made_named (Touch d n w ∷ ms) c h = inr (made_named ms c h)
made_named (Make d n b ∷ ms) c (inl e) = inl e
made_named (Make d n b ∷ ms) c (inr h) = inr (made_named ms c h)
made_named (Fill d n ∷ ms) c h = inr (made_named ms c h)

made_once : (ms : List CellMark) → AreDistinct (λ (c : CellId). c) (cells_in ms) → AreDistinct (λ (c : CellId). c) (cells_made ms)
made_once [] d = tt
made_once (Counted ∷ ms) d = made_once ms d
made_once (Gap c ∷ ms) d = made_once ms d.1
made_once (Touch c n w ∷ ms) d = made_once ms d.1
made_once (Make c n b ∷ ms) d = (has-all (λ (e : CellId). e ≢ c) (cells_made ms) (λ e h. all-named-apart e (made_named ms e h)), made_once ms d.1)
  where
    all-named-apart : (e : CellId) → Has (cells_in ms) e → e ≢ c
    all-named-apart e h = distinct-between (λ (x : CellId). x) (c ∷ []) (cells_in ms) c e d (inl refl) h
made_once (Fill c n ∷ ms) d = made_once ms d.1

all_made_named : (rows : List RowMarks) (c : CellId) → Has (all_made rows) c → Has (all_named rows) c
all_made_named rows c h =
    let r = has-flat_map (λ (r : RowMarks). cells_made (spread r.marks)) rows c h in
    flat_map-has (λ (r : RowMarks). cells_in (spread r.marks)) rows r.0 c r.1 (made_named (spread r.0.marks) c r.2)

all_once : (rows : List RowMarks) → AreDistinct (λ (c : CellId). c) (all_named rows) → AreDistinct (λ (c : CellId). c) (all_made rows)
all_once [] d = tt
all_once (r ∷ rows) d =
    let here = cells_in (spread r.marks) in
    distinct-append (λ (c : CellId). c) (cells_made (spread r.marks)) (all_made rows) (made_once (spread r.marks) (distinct-left (λ (c : CellId). c) here (all_named rows) d)) (all_once rows (distinct-right (λ (c : CellId). c) here (all_named rows) d))
    (λ x y i j. distinct-between (λ (c : CellId). c) here (all_named rows) x y d (made_named (spread r.marks) x i) (all_made_named rows y j))

-- ## A change

module _ (D : Document) (N : Intent) (C : Change) (sound : IsSoundInForm D) (fits : Fits D N) (embeds : IsEmbedding D N C) where
  node_wanted : (m : NewNode) → Has C.new m → Has N.new m
  node_wanted m i =
      let is : new_node N m.node ≡ Some m = sym (embeds.new.at_each m.node) ∙ has-item_of node_cmp node_cmp_total node_cmp_exact (λ (x : NewNode). x.node) C.new m embeds.new.rising i in
      (first-has (λ (x : NewNode). same_node x.node m.node) N.new m is).0

  cell_wanted : (c : CellId) → Has (all_made C.rows) c → Has (map (λ (o : Owned). o.cell) (group_cells N)) c
  cell_wanted c h =
      let r = has-flat_map (λ (r : RowMarks). cells_made (spread r.marks)) C.rows c h in
      let part = row_part embeds.mentioned N r.0.node in
      let made = subst (λ ms. Has (cells_made ms) c) (row-look D N C sound fits embeds r.0 r.1).0 r.2 in
      let w = row-makes part (content D r.0.node) c made in
      let g = group_at-group N r.0.node w.0 w.1 w.2 in
      subst (Has (map (λ (o : Owned). o.cell) (group_cells N))) w.3 (map-has (λ (o : Owned). o.cell) (group_cells N) w.1 (flat_map-has (λ (g : Group). g.cells) N.groups g.group w.1 g.listed g.cell))

  pub few_names : names_of_change C ≤ names_made N
  few_names =
      let nodes = no_longer (λ (m : NewNode). m.node) C.new N.new (rising_distinct node_cmp node_cmp_total (λ (m : NewNode). m.node) C.new embeds.new.rising) node_wanted in
      let cells = no_longer (λ (c : CellId). c) (all_made C.rows) (map (λ (o : Owned). o.cell) (group_cells N)) (all_once C.rows (cells_are_once D N C sound fits embeds)) cell_wanted in
      omega (arith, nodes, cells, all_counted C.rows, length-map (group_cells N) (λ (o : Owned). o.cell))
