-- A row on the way back over a step.
use Rattle.std.proofs.Common.{◌≡◌, Bool, true, false, ◌||◌, ◌&&◌, not, List, [], ◌∷◌, map, Option, Some, None, MatchOption, option_map, cond, refl, sym, ap, ◌∙◌, subst, inl, inr, IsSome, is_some}
use Rattle.std.specs.List.{list_any}
use Rattle.std.specs.Option.{option_map_or}
use Rattle.st_ids.specs.Listing.{Has, item_of}
use Rattle.st_ids.specs.Order.{node_cmp}
use Rattle.st_ids.specs.declared.names.CellId.{CellId}
use Rattle.st_ids.specs.declared.names.NodeId.{NodeId}
use Rattle.st_kind.specs.Named.{Nodes}
use Rattle.st_marks.specs.declared.intents.Owned.{Owned}
use Rattle.st_marks.specs.declared.marks.How.TheVariants.{Stay, Leave}
use Rattle.st_marks.specs.declared.marks.RowMarks.{RowMarks}
use Rattle.st_marks.specs.declared.places.Slot.{Slot}
use Rattle.st_marks.specs.declared.places.Spot.{Spot}
use Rattle.st_marks.specs.declared.steps.Step.{Step}
use Rattle.st_marks.specs.Back.{is_in, place_back, retreat}
use Rattle.st_marks.specs.Document.{Document, NodeType, content, is_cell, node_of, owned_cell, slot}
use Rattle.st_marks.specs.Embedding.{row_marks, tells}
use Rattle.st_marks.specs.Extends.{GainsItems, IsExtendedBy, no_more, item_gained, item_kept}
use Rattle.st_marks.specs.Row.{CellMark, Counted, Gap, Touch, Make, Fill, SameCell, merge, spread, step_cell, step_row}
use Rattle.st_marks.specs.Step.{IsStep}
use Rattle.st_marks.proofs.Climb.{is_cell-true}
use Rattle.st_marks.proofs.Later.{has_later}
use Rattle.st_marks.proofs.Retreat.{back_old, retreat_extends}
use Rattle.st_lemmas.proofs.Bools.{both-ways-same, true-false}
use Rattle.st_rows.specs.Cells.{invert_row}
use Rattle.st_rows.specs.Rows.{retreat_row}
use Rattle.st_rows.proofs.Documents.{can_hold, is_slot}
use Rattle.st_rows.proofs.DocumentsBack.{back_is}
use Rattle.st_rows.proofs.RowsBack.{backward, invert_row-step_row}
use Rattle.st_rows.proofs.KindLaws.{same_grown, spread-merge}
use Rattle.st_rows.proofs.RowRetreats.{retreat_is}
use Rattle.st_steps.specs.WayBack.{made_back, named_back_of, row_back}
use Rattle.st_puts.proofs.ListedIf.{shown-None, shown-Some}

-- ## Places on the way back

-- a new node that stands in a field of a new node, or nowhere, stays there
stays_by : (D E : Document) (k : NodeId) → is_in D k ≡ false → option_map_or (is_in D) (node_of (E.place k)) false ≡ false → place_back D E k ≡ E.place k
stays_by D E k e f = rw (e, f) refl

-- a new node that stands somewhere on the way back stood there
new_back : (D E : Document) (k r : NodeId) (a : CellId) → is_in D k ≡ false → place_back D E k ≡ Spot.Row r a → E.place k ≡ Spot.Row r a
new_back D E k r a e f = go (option_map_or (is_in D) (node_of (E.place k)) false) refl
  where
    back_by : (b : Bool) → option_map_or (is_in D) (node_of (E.place k)) false ≡ b → place_back D E k ≡ cond b Spot.Nowhere (E.place k)
    back_by b g = rw (e, g) refl

    go : (b : Bool) → option_map_or (is_in D) (node_of (E.place k)) false ≡ b → E.place k ≡ Spot.Row r a
    go true g = let q : Spot.Nowhere ≡ Spot.Row r a = sym (back_by true g) ∙ f in cc
    go false g = sym (back_by false g) ∙ f

-- ## Rows of nodes that were there

-- on the way back those that stay in their cells are named or not; all others leave or come
back_alike : (m k : Nodes) {c d : List Slot} (g : GainsItems SameCell c d) → ((s : Slot) → Has c s → m s.node ≡ k s.node) → step_row m (backward g) ≡ step_row k (backward g)
back_alike m k no_more h = refl
back_alike m k (item_gained {y = t} g) h = λ i. cell t.full i ∷ back_alike m k g h i
  where
    cell : (b : Bool) → step_cell m t.cell t.node b false ≡ step_cell k t.cell t.node b false
    cell true = refl
    cell false = refl
back_alike m k (item_kept {x = s} {y = t} a g) h = λ i. cell t.full s.full i ∷ back_alike m k g (λ u w. h u (inr w)) i
  where
    same : m t.node ≡ k t.node
    same = ap m (sym a.1) ∙ h s (inl refl) ∙ ap k a.1

    cell : (b c : Bool) → step_cell m t.cell t.node b c ≡ step_cell k t.cell t.node b c
    cell true true = ap (λ z. cond z (Touch t.cell t.node Stay) Counted) same
    cell true false = refl
    cell false true = refl
    cell false false = refl

silent_back : (xs : List CellMark) → list_any tells xs ≡ false → list_any tells (invert_row xs) ≡ false
silent_back [] e = refl
silent_back (Counted ∷ xs) e = silent_back xs e
silent_back (Gap c ∷ xs) e = silent_back xs e
silent_back (Touch c n h ∷ xs) e = cc
silent_back (Make c n b ∷ xs) e = cc
silent_back (Fill c n ∷ xs) e = cc

-- ## Rows of nodes that the step makes

abbrev pub made_of : List Slot → List CellMark
made_of [] = []
made_of (s ∷ d) = Make s.cell s.node s.full ∷ made_of d

pub all_made : (m : Nodes) {c d : List Slot} → c ≡ [] → (g : GainsItems SameCell c d) → step_row m g ≡ made_of d
all_made m e no_more = refl
all_made m e (item_gained {y = t} g) = ap (λ l. Make t.cell t.node t.full ∷ l) (all_made m e g)
all_made m e (item_kept a g) = cc

-- all cells stay
abbrev staying : (A B : Document) (os : List Owned) → GainsItems SameCell (map (slot A) os) (map (slot B) os)
staying A B [] = no_more
staying A B (o ∷ os) = item_kept (refl, refl) (staying A B os)

module _ (D E : Document) (S : Step) (x : IsExtendedBy D E) (s : IsStep D E S) (new : Nodes) (new_so : (n : NodeId) → new n ≡ (is_in E n && not (is_in D n))) (n : NodeId) where
  abbrev m : Nodes
  m = s.mentioned

  abbrev back : Document
  back = retreat D E

  abbrev named : Nodes
  named = named_back_of D E m

  there : (A : Document) (k : NodeId) → IsSome (A.nodes k) → is_in A k ≡ true
  there A k h = go (A.nodes k) h
    where
      go : (o : Option NodeType) → IsSome o → is_some o ≡ true
      go None h = cc
      go (Some u) h = refl

  known : (k : NodeId) → is_in D k ≡ true → IsSome (D.nodes k)
  known k e = go (D.nodes k) e
    where
      go : (o : Option NodeType) → is_some o ≡ true → IsSome o
      go None e = cc
      go (Some u) e = refl

  one_step : (g : GainsItems SameCell (content E n) (content back n)) (d : List Slot) → content back n ≡ d → (h : GainsItems SameCell (content E n) d) → step_row named g ≡ step_row named h
  one_step g d e h = subst (λ l. (h : GainsItems SameCell (content E n) l) → step_row named g ≡ step_row named h) e (λ h. (same_grown named g h (can_hold back (retreat_extends D E x).after n).once).0) h

  -- ## The node was there

  module _ (old : is_in D n ≡ true) where
    owner_named : (r : Slot) → Has (content D n) r → m r.node ≡ named r.node
    owner_named r h =
        let o = is_slot D n r h in
        let in_d : is_in D r.node ≡ true = there D r.node (subst (λ j. IsSome (D.nodes j)) (ap (λ (u : Slot). u.node) o.2) (x.before.cells_known n o.0 o.1).1) in
        sym (ap (λ b. m r.node || (is_in E r.node && not b)) in_d ∙ none (m r.node) (is_in E r.node))
      where
        none : (a b : Bool) → (a || (b && false)) ≡ a
        none true b = refl
        none false true = refl
        none false false = refl

    row_is : content back n ≡ retreat_row (s.grows n)
    row_is = back_is D E n x (known n old) ∙ sym (retreat_is (content D n) (s.grows n) (can_hold E x.after n).once (λ a h. refl))

    old_row : (g : GainsItems SameCell (content E n) (content back n)) → step_row named g ≡ invert_row (step_row m (s.grows n))
    old_row g = one_step g (retreat_row (s.grows n)) row_is (backward (s.grows n)) ∙ sym (back_alike m named (s.grows n) owner_named) ∙ sym (invert_row-step_row m (s.grows n))

  -- ## The node is new

  module _ (young : is_in D n ≡ false) where
    pub empty : D.rows n ≡ []
    empty = go (D.rows n) (λ o h. x.before.cells_known n o h)
      where
        go : (os : List Owned) → ((o : Owned) → Has os o → IsSome (D.nodes n) × IsSome (D.nodes o.node)) → os ≡ []
        go [] h = refl
        go (o ∷ os) h = absurd (true-false (there D n (h o (inl refl)).0) young)

    -- who is full in a cell of the row on the way back: new nodes that were
    back_full : (o : Owned) → Has (E.rows n) o → is_cell o.cell (place_back D E o.node) ≡ (is_cell o.cell (E.place o.node) && new o.node)
    back_full o h = go (is_in D o.node) refl
      where
        in_e : is_in E o.node ≡ true
        in_e = there E o.node (x.after.cells_known n o h).1

        no_and : (b : Bool) → (b && false) ≡ false
        no_and true = refl
        no_and false = refl

        and_yes : (b : Bool) → (b && true) ≡ b
        and_yes true = refl
        and_yes false = refl

        go : (b : Bool) → is_in D o.node ≡ b → is_cell o.cell (place_back D E o.node) ≡ (is_cell o.cell (E.place o.node) && new o.node)
        go true e =
            let none : is_cell o.cell (D.place o.node) ≡ false = not_in (is_cell o.cell (D.place o.node)) refl in
            let old : new o.node ≡ false = new_so o.node ∙ (λ i. in_e i && not (e i)) in
            ap (is_cell o.cell) (back_old D E x o.node e) ∙ none ∙ sym (ap (λ b. is_cell o.cell (E.place o.node) && b) old ∙ no_and (is_cell o.cell (E.place o.node)))
          where
            not_in : (b : Bool) → is_cell o.cell (D.place o.node) ≡ b → b ≡ false
            not_in false e = refl
            not_in true e =
                let r = is_cell-true o.cell (D.place o.node) e in
                let own = x.before.own_cell o.node r.0 o.cell r.1 in
                let later : E.row_of o.cell ≡ Some r.0 = (x.after.one_row o.cell r.0).1 (o.node, has_later (x.rows r.0) (owned_cell o.cell o.node) own) in
                let here : E.row_of o.cell ≡ Some n = (x.after.one_row o.cell n).1 (o.node, h) in
                let same : r.0 ≡ n = let q : Some r.0 ≡ Some n = sym later ∙ here in cc in
                absurd (true-false (ap (is_in D) (sym same) ∙ there D r.0 (x.before.cells_known r.0 (owned_cell o.cell o.node) own).0) young)
        go false e =
            let made : new o.node ≡ true = new_so o.node ∙ (λ i. in_e i && not (e i)) in
            both-ways-same (is_cell o.cell (place_back D E o.node)) (is_cell o.cell (E.place o.node) && new o.node)
            (λ q. ap (λ b. is_cell o.cell (E.place o.node) && b) made ∙ and_yes (is_cell o.cell (E.place o.node)) ∙ forth q)
            (λ q. ap (is_cell o.cell) (stays_by D E o.node e (outside q)) ∙ full q)
          where
            full : (is_cell o.cell (E.place o.node) && new o.node) ≡ true → is_cell o.cell (E.place o.node) ≡ true
            full q = and_first (is_cell o.cell (E.place o.node)) (new o.node) q
              where
                and_first : (a b : Bool) → (a && b) ≡ true → a ≡ true
                and_first true b e = refl
                and_first false b e = cc

            forth : is_cell o.cell (place_back D E o.node) ≡ true → is_cell o.cell (E.place o.node) ≡ true
            forth q =
                let r = is_cell-true o.cell (place_back D E o.node) q in
                ap (is_cell o.cell) (new_back D E o.node r.0 o.cell e r.1 ∙ sym r.1) ∙ q

            -- who is full in the row stands in it, and so in no field of an old node
            outside : (is_cell o.cell (E.place o.node) && new o.node) ≡ true → option_map_or (is_in D) (node_of (E.place o.node)) false ≡ false
            outside q =
                let r = is_cell-true o.cell (E.place o.node) (full q) in
                let own = x.after.own_cell o.node r.0 o.cell r.1 in
                let same : r.0 ≡ n = let w : Some r.0 ≡ Some n = sym ((x.after.one_row o.cell r.0).1 (o.node, own)) ∙ (x.after.one_row o.cell n).1 (o.node, h) in cc in
                ap (λ z. option_map_or (is_in D) (node_of z) false) r.1 ∙ ap (is_in D) same ∙ young

    made_row : (os : List Owned) → ((o : Owned) → Has os o → Has (E.rows n) o) → step_row named (staying E back os) ≡ map (made_back new) (made_of (map (slot E) os))
    made_row [] h = refl
    made_row (o ∷ os) h = λ i. (ap (step_cell named o.cell o.node (is_cell o.cell (E.place o.node))) (back_full o (h o (inl refl))) ∙ cell (is_cell o.cell (E.place o.node)) (new o.node) refl) i ∷ made_row os (λ q w. h q (inr w)) i
      where
        cell : (b c : Bool) → new o.node ≡ c → step_cell named o.cell o.node b (b && c) ≡ made_back new (Make o.cell o.node b)
        cell true true e = ap (λ z. cond z (Touch o.cell o.node Stay) Counted) name ∙ sym (ap (λ z. cond z (Touch o.cell o.node Stay) (Touch o.cell o.node Leave)) e)
          where
            name : named o.node ≡ true
            name = ap (λ b. m o.node || b) (sym (new_so o.node) ∙ e) ∙ yes (m o.node)
              where
                yes : (b : Bool) → (b || true) ≡ true
                yes true = refl
                yes false = refl
        cell true false e = sym (ap (λ z. cond z (Touch o.cell o.node Stay) (Touch o.cell o.node Leave)) e)
        cell false c e = refl

    new_row : (g : GainsItems SameCell (content E n) (content back n)) → step_row named g ≡ map (made_back new) (step_row m (s.grows n))
    new_row g = one_step g (content back n) refl (staying E back (E.rows n)) ∙ made_row (E.rows n) (λ o h. h) ∙ ap (map (made_back new)) (sym (all_made m (ap (map (slot D)) empty) (s.grows n)))

  -- ## What is listed

  abbrev Listed : (g : GainsItems SameCell (content E n) (content back n)) → Option RowMarks → Type 0
  Listed g o = MatchOption o (list_any tells (step_row named g) ≡ false) (λ r. r.marks ≡ merge (step_row named g))

  first_row : (r : RowMarks) → row_marks n (step_row m (s.grows n)) ≡ Some r → r ≡ record { node = n; marks = merge (step_row m (s.grows n)) }
  first_row r e = shown-Some (list_any tells (step_row m (s.grows n))) (record { node = n; marks = merge (step_row m (s.grows n)) }) r e

  first_none : row_marks n (step_row m (s.grows n)) ≡ None → list_any tells (step_row m (s.grows n)) ≡ false
  first_none e = shown-None (list_any tells (step_row m (s.grows n))) (record { node = n; marks = merge (step_row m (s.grows n)) }) e

  listed : (g : GainsItems SameCell (content E n) (content back n)) (b : Bool) → is_in D n ≡ b → (p : Option RowMarks) → row_marks n (step_row m (s.grows n)) ≡ p → Listed g (option_map (row_back new) p)
  listed g true e None f = ap (list_any tells) (old_row e g) ∙ silent_back (step_row m (s.grows n)) (first_none f)
  listed g false e None f =
      let made = all_made m (ap (map (slot D)) (empty e)) (s.grows n) in
      ap (list_any tells) (new_row e g) ∙ ap (λ l. list_any tells (map (made_back new) l)) made ∙ none (content E n) (ap (list_any tells) (sym made) ∙ first_none f)
    where
      none : (d : List Slot) → list_any tells (made_of d) ≡ false → list_any tells (map (made_back new) (made_of d)) ≡ false
      none [] h = refl
      none (t ∷ d) h = cc
  listed g true e (Some r) f =
      let row = first_row r f in
      let says : spread r.marks ≡ step_row m (s.grows n) = ap (λ (z : RowMarks). spread z.marks) row ∙ spread-merge (step_row m (s.grows n)) in
      let old : new r.node ≡ false = ap (λ (z : RowMarks). new z.node) row ∙ new_so n ∙ ap (λ b. is_in E n && not b) e ∙ no (is_in E n) in
      ap (λ b. merge (cond b (map (made_back new) (spread r.marks)) (invert_row (spread r.marks)))) old ∙ ap (λ l. merge (invert_row l)) says ∙ ap merge (sym (old_row e g))
    where
      no : (b : Bool) → (b && false) ≡ false
      no true = refl
      no false = refl
  listed g false e (Some r) f =
      let row = first_row r f in
      let says : spread r.marks ≡ step_row m (s.grows n) = ap (λ (z : RowMarks). spread z.marks) row ∙ spread-merge (step_row m (s.grows n)) in
      let young : new r.node ≡ true = ap (λ (z : RowMarks). new z.node) row ∙ new_so n ∙ (λ i. in_e i && not (e i)) in
      ap (λ b. merge (cond b (map (made_back new) (spread r.marks)) (invert_row (spread r.marks)))) young ∙ ap (λ l. merge (map (made_back new) l)) says ∙ ap merge (sym (new_row e g))
    where
      in_e : is_in E n ≡ true
      in_e = go (E.rows n) refl
        where
          go : (os : List Owned) → E.rows n ≡ os → is_in E n ≡ true
          go [] q =
              let none : step_row m (s.grows n) ≡ [] = all_made m (ap (map (slot D)) (empty e)) (s.grows n) ∙ ap (λ l. made_of (map (slot E) l)) q in
              let bad : ◌≡◌ {A = Option RowMarks} None (Some r) = ap (row_marks n) (sym none) ∙ f in cc
          go (o ∷ os) q = there E n (x.after.cells_known n o (subst (λ l. Has l o) (sym q) (inl refl))).0

  -- the row that is listed is that of the way back, with all that it names
  pub row_back-listed : (g : GainsItems SameCell (content E n) (content back n)) (o : Option RowMarks) → o ≡ option_map (row_back new) (item_of node_cmp (λ (r : RowMarks). r.node) S.rows n) → Listed g o
  row_back-listed g o e =
      let says : o ≡ option_map (row_back new) (row_marks n (step_row m (s.grows n))) = e ∙ ap (option_map (row_back new)) (s.rows.at_each n) in
      subst (Listed g) (sym says) (listed g (is_in D n) refl (row_marks n (step_row m (s.grows n))) refl)
