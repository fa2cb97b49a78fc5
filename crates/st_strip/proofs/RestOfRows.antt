-- The row of a node behind a first part of a step.
use Rattle.std.proofs.Common.{◌≡◌, ◌⊎◌, Bool, true, false, ◌||◌, ◌&&◌, not, List, [], ◌∷◌, Option, Some, None, MatchOption, cond, refl, sym, ap, ◌∙◌, subst, inl, inr, IsSome, is_some}
use Rattle.std.specs.List.{list_any}
use Rattle.st_ids.specs.Listing.{AreDistinct, Has, item_of}
use Rattle.st_ids.specs.Order.{node_cmp, same_cell}
use Rattle.st_ids.proofs.Orders.{same_cell-itself, same_cell-true}
use Rattle.st_ids.specs.declared.names.CellId.{CellId}
use Rattle.st_ids.specs.declared.names.NodeId.{NodeId}
use Rattle.st_kind.specs.Named.{Nodes}
use Rattle.st_lemmas.proofs.Bools.{refuted-false, true-false}
use Rattle.st_marks.specs.declared.intents.Owned.{Owned}
use Rattle.st_marks.specs.declared.marks.How.TheVariants.{Stay}
use Rattle.st_marks.specs.declared.marks.RowMarks.{RowMarks}
use Rattle.st_marks.specs.declared.places.Slot.{Slot}
use Rattle.st_marks.specs.declared.steps.Step.{Step}
use Rattle.st_marks.specs.Back.{is_in}
use Rattle.st_marks.specs.Document.{Document, NodeType, content, is_cell, owned_cell, slot}
use Rattle.st_marks.specs.Embedding.{row_marks, tells}
use Rattle.st_marks.specs.Extends.{GainsItems, IsExtendedBy, no_more, item_gained, item_kept}
use Rattle.st_marks.specs.Listings.{cells_made}
use Rattle.st_marks.specs.Row.{CellMark, Counted, Gap, Touch, Make, Fill, SameCell, merge, spread, step_cell, step_row}
use Rattle.st_marks.specs.Step.{IsStep}
use Rattle.st_marks.proofs.Climb.{is_cell-true, same_spot}
use Rattle.st_marks.proofs.Members.{any-has, has-any, map-has}
use Rattle.st_rows.specs.Cells.{compose_row, invert_row}
use Rattle.st_rows.specs.Rows.{NamesLeavers, NamesMoved, retreat_row}
use Rattle.st_rows.specs.Sequence.{cells_of}
use Rattle.st_rows.proofs.Documents.{can_hold, is_slot}
use Rattle.st_rows.proofs.DocumentsListed.{document_is}
use Rattle.st_rows.proofs.KindLaws.{has_grown, not_again, same_grown, spread-merge}
use Rattle.st_rows.proofs.RowsBack.{backward, invert_row-step_row}
use Rattle.st_rows.proofs.RowsInTurn.{compose_row-step_row, grows_on}
use Rattle.st_steps.proofs.RowsInTurn.{only_first, only_second, row_alike}
use Rattle.st_puts.proofs.ListedIf.{shown-None, shown-Some}
use Rattle.st_strip.specs.Rest.{made_by, named_rest, rest_row, settled_mark, settled_row}

-- ## The last row behind the one with its nodes back

-- the last row grows from the one between, where the nodes of that are back in their cells
abbrev pub grows_back : {c d e : List Slot} (g : GainsItems SameCell c d) → GainsItems SameCell d e → GainsItems SameCell (retreat_row g) e
grows_back no_more no_more = no_more
grows_back g (item_gained h) = item_gained (grows_back g h)
grows_back (item_gained g) (item_kept b h) = item_kept b (grows_back g h)
grows_back (item_kept a g) (item_kept b h) = item_kept b (grows_back g h)

-- each cell that the row gains is one of these, or none is
abbrev MakesAll : (CellId → Bool) → {c d : List Slot} → GainsItems SameCell c d → Type 0
MakesAll made no_more = Unit {0}
MakesAll made (item_gained {y} g) = (made y.cell ≡ true) × MakesAll made g
MakesAll made (item_kept a g) = MakesAll made g

abbrev MakesNone : (CellId → Bool) → {c d : List Slot} → GainsItems SameCell c d → Type 0
MakesNone made no_more = Unit {0}
MakesNone made (item_gained {y} g) = (made y.cell ≡ false) × MakesNone made g
MakesNone made (item_kept a g) = MakesNone made g

settled_cell : (made : CellId → Bool) (k : Nodes) (c : CellId) (n : NodeId) (a b : Bool) → settled_mark made (step_cell k c n a b) ≡ step_cell k c n a b
settled_cell made k c n true true = go (k n)
  where
    go : (b : Bool) → settled_mark made (cond b (Touch c n Stay) Counted) ≡ cond b (Touch c n Stay) Counted
    go true = refl
    go false = refl
settled_cell made k c n true false = refl
settled_cell made k c n false true = refl
settled_cell made k c n false false = refl

-- a cell that is there already, and empty
there_already : (k : Nodes) (c : CellId) (n : NodeId) (b : Bool) → cond b (Fill c n) (Gap c) ≡ step_cell k c n false b
there_already k c n true = refl
there_already k c n false = refl

settles : (made : CellId → Bool) (k : Nodes) {d e : List Slot} (h : GainsItems SameCell d e) {c : List Slot} (g : GainsItems SameCell c d) → MakesAll made g → MakesNone made h
    → settled_row made (step_row k (grows_on g h)) ≡ step_row k (grows_back g h)
settles made k no_more no_more p q = refl
settles made k (item_gained {y = u} h) g p q = λ i. cond (q.0 i) (cond u.full (Fill u.cell u.node) (Gap u.cell)) (Make u.cell u.node u.full) ∷ settles made k h g p q.1 i
settles made k (item_kept {y = u} b h) (item_gained {y = t} g) p q =
    let known : made u.cell ≡ true = ap made (sym b.0) ∙ p.0 in
    λ i. (ap (λ z. cond z (cond u.full (Fill u.cell u.node) (Gap u.cell)) (Make u.cell u.node u.full)) known
    ∙ there_already k u.cell u.node u.full ∙ (λ j. step_cell k (sym b.0 j) (sym b.1 j) false u.full)) i ∷ settles made k h g p.1 q i
settles made k (item_kept {y = u} b h) (item_kept {x = s} {y = t} a g) p q =
    λ i. (settled_cell made k s.cell s.node s.full u.full ∙ (λ j. step_cell k (a.0 j) (a.1 j) s.full u.full)) i ∷ settles made k h g p q i

-- ## Which cells are made

made_all : (m : Nodes) (made : CellId → Bool) {c d : List Slot} (g : GainsItems SameCell c d) → ((a : CellId) → Has (cells_made (step_row m g)) a → made a ≡ true) → MakesAll made g
made_all m made no_more h = tt
made_all m made (item_gained {y = t} g) h = (h t.cell (inl refl), made_all m made g (λ a w. h a (inr w)))
made_all m made (item_kept {x = s} {y = t} b g) h = made_all m made g (λ a w. h a (behind s.full t.full a w))
  where
    behind : (p q : Bool) (a : CellId) → Has (cells_made (step_row m g)) a → Has (cells_made (step_cell m s.cell s.node p q ∷ step_row m g)) a
    behind true true a w = at (m s.node)
      where
        at : (z : Bool) → Has (cells_made (cond z (Touch s.cell s.node Stay) Counted ∷ step_row m g)) a
        at true = w
        at false = w
    behind true false a w = w
    behind false true a w = w
    behind false false a w = w

-- the cells that are made are cells of the row
made_there : (m : Nodes) {c d : List Slot} (g : GainsItems SameCell c d) (a : CellId) → Has (cells_made (step_row m g)) a → Has (cells_of d) a
made_there m no_more a w = w
made_there m (item_gained g) a (inl e) = inl e
made_there m (item_gained g) a (inr w) = inr (made_there m g a w)
made_there m (item_kept {x = s} {y = t} b g) a w = inr (made_there m g a (ahead s.full t.full w))
  where
    ahead : (p q : Bool) → Has (cells_made (step_cell m s.cell s.node p q ∷ step_row m g)) a → Has (cells_made (step_row m g)) a
    ahead true true w = at (m s.node) w
      where
        at : (z : Bool) → Has (cells_made (cond z (Touch s.cell s.node Stay) Counted ∷ step_row m g)) a → Has (cells_made (step_row m g)) a
        at true w = w
        at false w = w
    ahead true false w = w
    ahead false true w = w
    ahead false false w = w

-- where each cell is there once, none of those that were there is made
made_none : (made : CellId → Bool) {d e : List Slot} (h : GainsItems SameCell d e) → AreDistinct (λ (s : Slot). s.cell) e
    → ((a : CellId) → made a ≡ true → Has (cells_of e) a → Has (cells_of d) a) → MakesNone made h
made_none made no_more o w = tt
made_none made (item_gained {y = u} {ys = e} h) o w = (
  refuted-false (made u.cell) (λ p. not_again e u.cell o.0 (has_grown h u.cell (w u.cell p (inl refl)))),
  made_none made h o.1 (λ a p i. w a p (inr i)),
)
made_none made (item_kept {x = t} {y = u} {xs = d} {ys = e} b h) o w = made_none made h o.1 (λ a p i. elim (w a p (inr i)) [
  | inl q ↦ absurd (not_again e u.cell o.0 (subst (Has (cells_of e)) (sym q ∙ b.0) i))
  | inr j ↦ j
])

-- ## Who leaves on the way back

-- whoever leaves its cell on the way back is named: it came in by the step, or its cell is new
leaves_back : (m : Nodes) {c d : List Slot} (g : GainsItems SameCell c d) → AreDistinct (λ (s : Slot). s.cell) d → NamesMoved m g
    → ((t : Slot) → Has d t → t.full ≡ true → (m t.node ≡ true) ⊎ Has (cells_of c) t.cell) → NamesLeavers m (backward g)
leaves_back m no_more o v w = tt
leaves_back m (item_gained {y = t} {ys = d} g) o v w = (
  (λ e f. elim (w t (inl refl) e) [
    | inl q ↦ q
    | inr i ↦ absurd (not_again d t.cell o.0 (has_grown g t.cell i))
  ]),
  leaves_back m g o.1 v (λ r i e. w r (inr i) e),
)
leaves_back m (item_kept {x = s} {y = t} {xs = c} {ys = d} a g) o v w = (
  (λ e f. ap m (sym a.1) ∙ v.0 (λ (q : s.full ≡ t.full). true-false e (sym q ∙ f))),
  leaves_back m g o.1 v.1 (λ r i e. elim (w r (inr i) e) [
    | inl q ↦ inl q
    | inr (inl q) ↦ absurd (not_again d t.cell o.0 (subst (Has (cells_of d)) (sym q ∙ a.0) (map-has (λ (u : Slot). u.cell) d r i)))
    | inr (inr j) ↦ inr j
  ]),
)

-- ## Rows that tell nothing

silent_back : (xs : List CellMark) → list_any tells xs ≡ false → list_any tells (invert_row xs) ≡ false
silent_back [] e = refl
silent_back (Counted ∷ xs) e = silent_back xs e
silent_back (Gap c ∷ xs) e = silent_back xs e
silent_back (Touch c n h ∷ xs) e = cc
silent_back (Make c n b ∷ xs) e = cc
silent_back (Fill c n ∷ xs) e = cc

silent_settled : (made : CellId → Bool) (xs : List CellMark) → list_any tells xs ≡ false → list_any tells (settled_row made xs) ≡ false
silent_settled made [] e = refl
silent_settled made (Counted ∷ xs) e = silent_settled made xs e
silent_settled made (Gap c ∷ xs) e = silent_settled made xs e
silent_settled made (Touch c n h ∷ xs) e = cc
silent_settled made (Make c n b ∷ xs) e = cc
silent_settled made (Fill c n ∷ xs) e = cc

abbrev none_made : CellId → Bool
none_made c = false

settled_none : (xs : List CellMark) → settled_row none_made xs ≡ xs
settled_none [] = refl
settled_none (Counted ∷ xs) = ap (λ l. Counted ∷ l) (settled_none xs)
settled_none (Gap c ∷ xs) = ap (λ l. Gap c ∷ l) (settled_none xs)
settled_none (Touch c n h ∷ xs) = ap (λ l. Touch c n h ∷ l) (settled_none xs)
settled_none (Make c n b ∷ xs) = ap (λ l. Make c n b ∷ l) (settled_none xs)
settled_none (Fill c n ∷ xs) = ap (λ l. Fill c n ∷ l) (settled_none xs)

silent_makes : (m : Nodes) (made : CellId → Bool) {c d : List Slot} (g : GainsItems SameCell c d) → list_any tells (step_row m g) ≡ false → MakesAll made g
silent_makes m made no_more e = tt
silent_makes m made (item_gained g) e = cc
silent_makes m made (item_kept {x = s} {y = t} a g) e = silent_makes m made g (rest (tells (step_cell m s.cell s.node s.full t.full)) e)
  where
    rest : (b : Bool) → (b || list_any tells (step_row m g)) ≡ false → list_any tells (step_row m g) ≡ false
    rest true e = cc
    rest false e = e

none_gains : {c d : List Slot} (g : GainsItems SameCell c d) → MakesNone none_made g
none_gains no_more = tt
none_gains (item_gained g) = (refl, none_gains g)
none_gains (item_kept a g) = none_gains g

-- ## Over documents

module _ (D E F : Document) (S W : Step) (x : IsExtendedBy D E) (y : IsExtendedBy E F) (s : IsStep D E S) (t : IsStep D F W) (n : NodeId) (h : GainsItems SameCell (content E n) (content F n)) where
  abbrev m : Nodes
  m = s.mentioned

  abbrev k : Nodes
  k = t.mentioned

  -- what the first part names, and what is new at last
  abbrev m_new : Nodes
  m_new j = m j || (is_in F j && not (is_in D j))

  abbrev named : Nodes
  named = named_rest D F m k

  abbrev g : GainsItems SameCell (content D n) (content E n)
  g = s.grows n

  abbrev on : GainsItems SameCell (content E n) (content F n)
  on = grows_on (backward g) (grows_back g h)

  there : (A : Document) (j : NodeId) → IsSome (A.nodes j) → is_in A j ≡ true
  there A j w = go (A.nodes j) w
    where
      go : (o : Option NodeType) → IsSome o → is_some o ≡ true
      go None w = cc
      go (Some u) w = refl

  -- whoever owns a cell of the first row was there, so it is all one
  old_named : (r : Slot) → Has (content D n) r → m r.node ≡ m_new r.node
  old_named r i =
      let o = is_slot D n r i in
      let known : is_in D r.node ≡ true = there D r.node (subst (λ j. IsSome (D.nodes j)) (ap (λ (u : Slot). u.node) o.2) (x.before.cells_known n o.0 o.1).1) in
      sym (ap (λ b. m r.node || (is_in F r.node && not b)) known ∙ none (m r.node) (is_in F r.node))
    where
      none : (a b : Bool) → (a || (b && false)) ≡ a
      none true b = refl
      none false true = refl
      none false false = refl

  first_says : step_row m g ≡ step_row m_new g
  first_says = row_alike m m_new g (λ r i e. old_named r i)

  back_says : invert_row (step_row m g) ≡ step_row m_new (backward g)
  back_says = ap invert_row first_says ∙ invert_row-step_row m_new g

  -- the whole step's row, however it grew
  whole_says : step_row k (t.grows n) ≡ step_row k (grows_on g h)
  whole_says = (same_grown k (t.grows n) (grows_on g h) (can_hold F y.after n).once).0

  settled_says : (made : CellId → Bool) → MakesAll made g → MakesNone made h → settled_row made (step_row k (t.grows n)) ≡ step_row k (grows_back g h)
  settled_says made p q = ap (settled_row made) whole_says ∙ settles made k h g p q

  rest_says : step_row named on ≡ step_row named h
  rest_says = (same_grown named on h (can_hold F y.after n).once).0

  -- ## Who is named

  moved : NamesMoved m_new g
  moved = let l = document_is D E S n s x in go g ((same_grown m l.step.grows g l.after.once).1 l.moved) old_named
    where
      go : {c d : List Slot} (v : GainsItems SameCell c d) → NamesMoved m v → ((r : Slot) → Has c r → m r.node ≡ m_new r.node) → NamesMoved m_new v
      go no_more w alike = tt
      go (item_gained v) w alike = go v w alike
      go (item_kept {x = r} a v) w alike = ((λ p. sym (alike r (inl refl)) ∙ w.0 p), go v w.1 (λ q i. alike q (inr i)))

  -- whoever is full in the row between is named, or its cell was there
  full_named : (r : Slot) → Has (content E n) r → r.full ≡ true → (m_new r.node ≡ true) ⊎ Has (cells_of (content D n)) r.cell
  full_named r i e =
      let o = is_slot E n r i in
      let p = ap (λ (u : Slot). u.node) o.2 in
      let c = ap (λ (u : Slot). u.cell) o.2 in
      let full : is_cell o.0.cell (E.place o.0.node) ≡ true = ap (λ (u : Slot). u.full) o.2 ∙ e in
      let known : is_in E o.0.node ≡ true = there E o.0.node (x.after.cells_known n o.0 o.1).1 in
      elim (go o.0 o.1 full known (is_in D o.0.node) refl) [
        | inl q ↦ inl (ap m_new (sym p) ∙ q)
        | inr q ↦ inr (subst (Has (cells_of (content D n))) c q)
      ]
    where
      later : (j : NodeId) → is_in E j ≡ true → is_in F j ≡ true
      later j q = go (E.nodes j) refl q
        where
          go : (o : Option NodeType) → E.nodes j ≡ o → is_some o ≡ true → is_in F j ≡ true
          go None q w = cc
          go (Some u) q w = ap is_some (y.nodes j u q)

      go : (o : Owned) → Has (E.rows n) o → is_cell o.cell (E.place o.node) ≡ true → is_in E o.node ≡ true → (b : Bool) → is_in D o.node ≡ b → (m_new o.node ≡ true) ⊎ Has (cells_of (content D n)) o.cell
      go o i full known false q = inl ((λ j. m o.node || (later o.node known j && not (q j))) ∙ yes (m o.node))
        where
          yes : (b : Bool) → (b || true) ≡ true
          yes true = refl
          yes false = refl
      go o i full known true q = elim (same_spot (D.place o.node) (E.place o.node)) [
        | inr apart ↦ inl (ap (λ b. b || (is_in F o.node && not (is_in D o.node))) ((s.which o.node).1 (o.node, (some (D.nodes o.node) q, inl apart), 0, refl)))
        | inl same ↦ inr (
            let r = is_cell-true o.cell (E.place o.node) full in
            let own = x.before.own_cell o.node r.0 o.cell (same ∙ r.1) in
            let in_e = x.after.own_cell o.node r.0 o.cell r.1 in
            let row : r.0 ≡ n = let w : Some r.0 ≡ Some n = sym ((x.after.one_row o.cell r.0).1 (o.node, in_e)) ∙ (x.after.one_row o.cell n).1 (o.node, i) in cc in
            map-has (λ (u : Slot). u.cell) (content D n) (slot D (owned_cell o.cell o.node)) (map-has (slot D) (D.rows n) (owned_cell o.cell o.node) (subst (λ j. Has (D.rows j) (owned_cell o.cell o.node)) row own)))
      ]
        where
          some : (p : Option NodeType) → is_some p ≡ true → IsSome p
          some None w = cc
          some (Some u) w = refl

  leavers : NamesLeavers m_new (backward g)
  leavers = leaves_back m_new g (can_hold E x.after n).once moved full_named

  together : compose_row (step_row m_new (backward g)) (step_row k (grows_back g h)) ≡ step_row named on
  together = compose_row-step_row m_new k (grows_back g h) (backward g) leavers

  -- ## What is listed

  abbrev Listed : Option RowMarks → Type 0
  Listed o = MatchOption o (list_any tells (step_row named h) ≡ false) (λ r. r.marks ≡ merge (step_row named h))

  first_row : (r : RowMarks) → row_marks n (step_row m g) ≡ Some r → r ≡ record { node = n; marks = merge (step_row m g) }
  first_row r e = shown-Some (list_any tells (step_row m g)) (record { node = n; marks = merge (step_row m g) }) r e

  whole_row : (r : RowMarks) → row_marks n (step_row k (t.grows n)) ≡ Some r → r ≡ record { node = n; marks = merge (step_row k (t.grows n)) }
  whole_row r e = shown-Some (list_any tells (step_row k (t.grows n))) (record { node = n; marks = merge (step_row k (t.grows n)) }) r e

  first_none : row_marks n (step_row m g) ≡ None → list_any tells (step_row m g) ≡ false
  first_none e = shown-None (list_any tells (step_row m g)) (record { node = n; marks = merge (step_row m g) }) e

  whole_none : row_marks n (step_row k (t.grows n)) ≡ None → list_any tells (step_row k (t.grows n)) ≡ false
  whole_none e = shown-None (list_any tells (step_row k (t.grows n))) (record { node = n; marks = merge (step_row k (t.grows n)) }) e

  -- where the first part tells nothing of the row, it makes no cell there
  as_whole : list_any tells (step_row m g) ≡ false → step_row k (t.grows n) ≡ step_row named h
  as_whole e =
      let settled = settled_says none_made (silent_makes m none_made g e) (none_gains h) in
      sym (settled_none (step_row k (t.grows n))) ∙ settled
      ∙ only_second m_new k (grows_back g h) (backward g) (ap (list_any tells) (sym back_says) ∙ silent_back (step_row m g) e) ∙ rest_says

  made_as : (r : RowMarks) → spread r.marks ≡ step_row m g → MakesAll (made_by r) g × MakesNone (made_by r) h
  made_as r e = (
    made_all m (made_by r) g (λ a i. has-any (λ (d : CellId). same_cell d a) (cells_made (spread r.marks)) a (subst (λ ms. Has (cells_made ms) a) (sym e) i) (same_cell-itself a)),
    made_none (made_by r) h (can_hold F y.after n).once (λ a p i.
        let w = any-has (λ (d : CellId). same_cell d a) (cells_made (spread r.marks)) p in
        made_there m g a (subst (λ ms. Has (cells_made ms) a) e (subst (Has (cells_made (spread r.marks))) (same_cell-true w.0 a w.2) w.1))),
  )

  -- where the whole step tells nothing of the row, it goes back
  as_back : (made : CellId → Bool) → MakesAll made g → MakesNone made h → list_any tells (step_row k (t.grows n)) ≡ false → invert_row (step_row m g) ≡ step_row named h
  as_back made p q e =
      let silent : list_any tells (step_row k (grows_back g h)) ≡ false = ap (list_any tells) (sym (settled_says made p q)) ∙ silent_settled made (step_row k (t.grows n)) e in
      back_says ∙ only_first m_new k (grows_back g h) (backward g) silent ∙ rest_says

  listed : (p q : Option RowMarks) → row_marks n (step_row m g) ≡ p → row_marks n (step_row k (t.grows n)) ≡ q → Listed (rest_row n p q)
  listed None None e f = ap (list_any tells) (sym (as_whole (first_none e))) ∙ whole_none f
  listed None (Some w) e f = ap (λ (z : RowMarks). z.marks) (whole_row w f) ∙ ap merge (as_whole (first_none e))
  listed (Some r) None e f =
      let says : spread r.marks ≡ step_row m g = ap (λ (z : RowMarks). spread z.marks) (first_row r e) ∙ spread-merge (step_row m g) in
      let made = made_as r says in
      ap (λ l. merge (invert_row l)) says ∙ ap merge (as_back (made_by r) made.0 made.1 (whole_none f))
  listed (Some r) (Some w) e f =
      let first : spread r.marks ≡ step_row m g = ap (λ (z : RowMarks). spread z.marks) (first_row r e) ∙ spread-merge (step_row m g) in
      let whole : spread w.marks ≡ step_row k (t.grows n) = ap (λ (z : RowMarks). spread z.marks) (whole_row w f) ∙ spread-merge (step_row k (t.grows n)) in
      let made = made_as r first in
      let back : invert_row (spread r.marks) ≡ step_row m_new (backward g) = ap invert_row first ∙ back_says in
      let then : settled_row (made_by r) (spread w.marks) ≡ step_row k (grows_back g h) = ap (settled_row (made_by r)) whole ∙ settled_says (made_by r) made.0 made.1 in
      ap merge ((λ i. compose_row (back i) (then i)) ∙ together ∙ rest_says)

  -- the row that is listed is that of the rest, with all that is named
  pub rest_row-listed : (o : Option RowMarks)
      → o ≡ rest_row n (item_of node_cmp (λ (r : RowMarks). r.node) S.rows n) (item_of node_cmp (λ (r : RowMarks). r.node) W.rows n) → Listed o
  rest_row-listed o e =
      let says : o ≡ rest_row n (row_marks n (step_row m g)) (row_marks n (step_row k (t.grows n))) = e ∙ (λ i. rest_row n (s.rows.at_each n i) (t.rows.at_each n i)) in
      subst Listed (sym says) (listed (row_marks n (step_row m g)) (row_marks n (step_row k (t.grows n))) refl refl)
