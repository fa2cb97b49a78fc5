-- A row over two steps in turn.
use Rattle.std.proofs.Common.{◌≡◌, Bool, true, false, ◌||◌, ◌&&◌, List, ◌∷◌, Option, Some, None, MatchOption, cond, refl, sym, ap, ◌∙◌, subst, inl, inr, IsSome, is_some}
use Rattle.std.specs.List.{list_any}
use Rattle.st_ids.specs.Listing.{Has, item_of}
use Rattle.st_ids.specs.Order.{node_cmp}
use Rattle.st_ids.specs.declared.names.CellId.{CellId}
use Rattle.st_ids.specs.declared.names.NodeId.{NodeId}
use Rattle.st_kind.specs.Named.{Nodes, either}
use Rattle.st_marks.specs.declared.marks.How.TheVariants.{Stay}
use Rattle.st_marks.specs.declared.marks.RowMarks.{RowMarks}
use Rattle.st_marks.specs.declared.places.Slot.{Slot}
use Rattle.st_marks.specs.declared.steps.Step.{Step}
use Rattle.st_marks.specs.Back.{is_in}
use Rattle.st_marks.specs.Document.{Document, NodeType, content}
use Rattle.st_marks.specs.Embedding.{row_marks, tells}
use Rattle.st_marks.specs.Extends.{GainsItems, IsExtendedBy, no_more, item_gained, item_kept}
use Rattle.st_marks.specs.Row.{Counted, Touch, Make, SameCell, merge, spread, step_cell, step_row}
use Rattle.st_marks.specs.Step.{IsStep}
use Rattle.st_rows.specs.Cells.{compose_row}
use Rattle.st_rows.specs.Rows.{NamesLeavers, NamesMoved}
use Rattle.st_rows.proofs.RowsInTurn.{compose_row-step_row, grows_on}
use Rattle.st_rows.proofs.Documents.{can_hold, is_slot}
use Rattle.st_rows.proofs.DocumentsListed.{document_is}
use Rattle.st_rows.proofs.KindLaws.{same_grown, spread-merge}
use Rattle.st_steps.specs.Turned.{named_in_turn, row_in_turn}
use Rattle.st_puts.proofs.ListedIf.{or_parts, shown-None, shown-Some}

-- ## Which nodes are named

cell_alike : (m k : Nodes) (c : CellId) (n : NodeId) (a b : Bool) → (a ≡ true → m n ≡ k n) → step_cell m c n a b ≡ step_cell k c n a b
cell_alike m k c n true true h = ap (λ z. cond z (Touch c n Stay) Counted) (h refl)
cell_alike m k c n true false h = refl
cell_alike m k c n false true h = refl
cell_alike m k c n false false h = refl

pub row_alike : (m k : Nodes) {c d : List Slot} (g : GainsItems SameCell c d) → ((s : Slot) → Has c s → s.full ≡ true → m s.node ≡ k s.node) → step_row m g ≡ step_row k g
row_alike m k no_more h = refl
row_alike m k (item_gained {y = t} g) h = ap (λ l. Make t.cell t.node t.full ∷ l) (row_alike m k g h)
row_alike m k (item_kept {x = s} {y = t} a g) h = λ i. cell_alike m k s.cell s.node s.full t.full (h s (inl refl)) i ∷ row_alike m k g (λ u w. h u (inr w)) i

leavers : (m : Nodes) {c d : List Slot} (g : GainsItems SameCell c d) → NamesMoved m g → NamesLeavers m g
leavers m no_more h = tt
leavers m (item_gained g) h = leavers m g h
leavers m (item_kept {x = s} {y = t} a g) h = ((λ e f. h.0 (λ (q : s.full ≡ t.full). let bad : ◌≡◌ {A = Bool} true false = sym e ∙ q ∙ f in cc)), leavers m g h.1)

-- ## A row that only one of the two lists

-- a cell that stays as it is says what the second says of it
first_silent : (m k : Nodes) (c : CellId) (n : NodeId) (a b e : Bool) → tells (step_cell m c n a b) ≡ false → step_cell k c n b e ≡ step_cell (either m k) c n a e
first_silent m k c n true true e h = go (m n) refl h
  where
    go : (z : Bool) → m n ≡ z → tells (cond z (Touch c n Stay) Counted) ≡ false → step_cell k c n true e ≡ step_cell (either m k) c n true e
    go true q h = cc
    go false q h = cell_alike k (either m k) c n true e (λ r. sym (ap (λ z. z || k n) q))
first_silent m k c n true false e h = cc
first_silent m k c n false true e h = cc
first_silent m k c n false false e h = cell_alike k (either m k) c n false e (λ r. cc)

pub only_second : (m k : Nodes) {d e : List Slot} (h : GainsItems SameCell d e) {c : List Slot} (g : GainsItems SameCell c d) → list_any tells (step_row m g) ≡ false → step_row k h ≡ step_row (either m k) (grows_on g h)
only_second m k no_more no_more l = refl
only_second m k (item_gained {y = t} h) g l = ap (λ z. Make t.cell t.node t.full ∷ z) (only_second m k h g l)
only_second m k (item_kept a h) (item_gained g) l = cc
only_second m k (item_kept {y = u} b h) (item_kept {x = s} {y = t} a g) l =
    let p = or_parts (tells (step_cell m s.cell s.node s.full t.full)) (list_any tells (step_row m g)) l in
    λ i. ((λ j. step_cell k (sym a.0 j) (sym a.1 j) t.full u.full) ∙ first_silent m k s.cell s.node s.full t.full u.full p.0) i ∷ only_second m k h g p.1 i

-- a cell that the second leaves as it is says what the first says of it
second_silent : (m k : Nodes) (c : CellId) (n : NodeId) (a b e : Bool) → tells (step_cell k c n b e) ≡ false → step_cell m c n a b ≡ step_cell (either m k) c n a e
second_silent m k c n a true true h = go (k n) refl h
  where
    go : (z : Bool) → k n ≡ z → tells (cond z (Touch c n Stay) Counted) ≡ false → step_cell m c n a true ≡ step_cell (either m k) c n a true
    go true q h = cc
    go false q h = cell_alike m (either m k) c n a true (λ r. sym (ap (λ z. m n || z) q ∙ or_none (m n)))
      where
        or_none : (b : Bool) → (b || false) ≡ b
        or_none true = refl
        or_none false = refl
second_silent m k c n a true false h = cc
second_silent m k c n a false true h = cc
second_silent m k c n true false false h = refl
second_silent m k c n false false false h = refl

made_silent : (k : Nodes) (c : CellId) (n : NodeId) (b e : Bool) → tells (step_cell k c n b e) ≡ false → b ≡ e
made_silent k c n true true h = refl
made_silent k c n true false h = cc
made_silent k c n false true h = cc
made_silent k c n false false h = refl

pub only_first : (m k : Nodes) {d e : List Slot} (h : GainsItems SameCell d e) {c : List Slot} (g : GainsItems SameCell c d) → list_any tells (step_row k h) ≡ false → step_row m g ≡ step_row (either m k) (grows_on g h)
only_first m k no_more no_more l = refl
only_first m k (item_gained h) g l = cc
only_first m k (item_kept {x = t} {y = u} b h) (item_gained g) l =
    let p = or_parts (tells (step_cell k t.cell t.node t.full u.full)) (list_any tells (step_row k h)) l in
    λ i. Make (b.0 i) (b.1 i) (made_silent k t.cell t.node t.full u.full p.0 i) ∷ only_first m k h g p.1 i
only_first m k (item_kept {x = t} {y = u} b h) (item_kept {x = s} a g) l =
    let p = or_parts (tells (step_cell k t.cell t.node t.full u.full)) (list_any tells (step_row k h)) l in
    let q : tells (step_cell k s.cell s.node t.full u.full) ≡ false = (λ j. tells (step_cell k (a.0 j) (a.1 j) t.full u.full)) ∙ p.0 in
    λ i. second_silent m k s.cell s.node s.full t.full u.full q i ∷ only_first m k h g p.1 i

-- ## Over documents

module _ (D E F : Document) (S T : Step) (x : IsExtendedBy D E) (y : IsExtendedBy E F) (s : IsStep D E S) (t : IsStep E F T) (n : NodeId) where
  abbrev m : Nodes
  m = s.mentioned

  abbrev k : Nodes
  k = t.mentioned

  abbrev named : Nodes
  named = named_in_turn D m k

  abbrev both : GainsItems SameCell (content D n) (content F n)
  both = grows_on (s.grows n) (t.grows n)

  -- whoever is full in the first row was there
  known : (r : Slot) → Has (content D n) r → is_in D r.node ≡ true
  known r h =
      let o = is_slot D n r h in
      let there : IsSome (D.nodes r.node) = subst (λ j. IsSome (D.nodes j)) (ap (λ (u : Slot). u.node) o.2) (x.before.cells_known n o.0 o.1).1 in
      go (D.nodes r.node) there
    where
      go : (o : Option NodeType) → IsSome o → is_some o ≡ true
      go None h = cc
      go (Some u) h = refl

  -- so it is all one whether the second's names are those that were there
  alike : step_row (either m k) both ≡ step_row named both
  alike = row_alike (either m k) named both (λ r h e. ap (λ b. m r.node || b) (with_known (k r.node) (is_in D r.node) (known r h)))
    where
      with_known : (a b : Bool) → b ≡ true → a ≡ (a && b)
      with_known true true e = refl
      with_known true false e = cc
      with_known false b e = refl

  -- however the row grew
  one_step : (g : GainsItems SameCell (content D n) (content F n)) → step_row (either m k) both ≡ step_row named g
  one_step g = alike ∙ (same_grown named both g (can_hold F y.after n).once).0

  first_is : item_of node_cmp (λ (r : RowMarks). r.node) S.rows n ≡ row_marks n (step_row m (s.grows n))
  first_is = s.rows.at_each n

  then_is : item_of node_cmp (λ (r : RowMarks). r.node) T.rows n ≡ row_marks n (step_row k (t.grows n))
  then_is = t.rows.at_each n

  abbrev Listed : (g : GainsItems SameCell (content D n) (content F n)) → Option RowMarks → Type 0
  Listed g o = MatchOption o (list_any tells (step_row named g) ≡ false) (λ r. r.marks ≡ merge (step_row named g))

  first_row : (r : RowMarks) → row_marks n (step_row m (s.grows n)) ≡ Some r → r ≡ record { node = n; marks = merge (step_row m (s.grows n)) }
  first_row r e = shown-Some (list_any tells (step_row m (s.grows n))) (record { node = n; marks = merge (step_row m (s.grows n)) }) r e

  then_row : (r : RowMarks) → row_marks n (step_row k (t.grows n)) ≡ Some r → r ≡ record { node = n; marks = merge (step_row k (t.grows n)) }
  then_row r e = shown-Some (list_any tells (step_row k (t.grows n))) (record { node = n; marks = merge (step_row k (t.grows n)) }) r e

  first_none : row_marks n (step_row m (s.grows n)) ≡ None → list_any tells (step_row m (s.grows n)) ≡ false
  first_none e = shown-None (list_any tells (step_row m (s.grows n))) (record { node = n; marks = merge (step_row m (s.grows n)) }) e

  then_none : row_marks n (step_row k (t.grows n)) ≡ None → list_any tells (step_row k (t.grows n)) ≡ false
  then_none e = shown-None (list_any tells (step_row k (t.grows n))) (record { node = n; marks = merge (step_row k (t.grows n)) }) e

  moved : NamesMoved m (s.grows n)
  moved = let l = document_is D E S n s x in (same_grown m l.step.grows (s.grows n) l.after.once).1 l.moved

  together : compose_row (step_row m (s.grows n)) (step_row k (t.grows n)) ≡ step_row (either m k) both
  together = compose_row-step_row m k (t.grows n) (s.grows n) (leavers m (s.grows n) moved)

  listed : (g : GainsItems SameCell (content D n) (content F n)) (p q : Option RowMarks) → row_marks n (step_row m (s.grows n)) ≡ p → row_marks n (step_row k (t.grows n)) ≡ q → Listed g (row_in_turn n p q)
  listed g None None e f = ap (list_any tells) (sym (one_step g)) ∙ ap (list_any tells) (sym (only_second m k (t.grows n) (s.grows n) (first_none e))) ∙ then_none f
  listed g (Some r) None e f = ap (λ (z : RowMarks). z.marks) (first_row r e) ∙ ap merge (only_first m k (t.grows n) (s.grows n) (then_none f) ∙ one_step g)
  listed g None (Some r) e f = ap (λ (z : RowMarks). z.marks) (then_row r f) ∙ ap merge (only_second m k (t.grows n) (s.grows n) (first_none e) ∙ one_step g)
  listed g (Some r) (Some u) e f =
      let first : spread r.marks ≡ step_row m (s.grows n) = ap (λ (z : RowMarks). spread z.marks) (first_row r e) ∙ spread-merge (step_row m (s.grows n)) in
      let then : spread u.marks ≡ step_row k (t.grows n) = ap (λ (z : RowMarks). spread z.marks) (then_row u f) ∙ spread-merge (step_row k (t.grows n)) in
      ap merge ((λ i. compose_row (first i) (then i)) ∙ together ∙ one_step g)

  -- the row that is listed is that of the step, with all that both name
  pub row_in_turn-listed : (g : GainsItems SameCell (content D n) (content F n)) (o : Option RowMarks)
      → o ≡ row_in_turn n (item_of node_cmp (λ (r : RowMarks). r.node) S.rows n) (item_of node_cmp (λ (r : RowMarks). r.node) T.rows n) → Listed g o
  row_in_turn-listed g o e =
      let says : o ≡ row_in_turn n (row_marks n (step_row m (s.grows n))) (row_marks n (step_row k (t.grows n))) = e ∙ (λ i. row_in_turn n (first_is i) (then_is i)) in
      subst (Listed g) (sym says) (listed g (row_marks n (step_row m (s.grows n))) (row_marks n (step_row k (t.grows n))) refl refl)
