-- What a step makes, told mark by mark, lists the step to the retreat.
use Rattle.std.proofs.Common.{◌≡◌, ◌≢◌, zero, Bool, true, false, ◌||◌, ◌&&◌, not, List, [], ◌∷◌, map, Option, Some, None, MatchOption, option_map, cond, refl, sym, ap, ◌∙◌, subst, inl, inr, IsSome, is_some}
use Rattle.std.specs.List.{list_any}
use Rattle.std.specs.Option.{option_map_or}
use Rattle.st_ids.specs.Listing.{Has, IsListing, item_of}
use Rattle.st_ids.specs.Order.{field_cmp, node_cmp, same_node}
use Rattle.st_ids.specs.Root.{root}
use Rattle.st_ids.specs.declared.names.CellId.{CellId}
use Rattle.st_ids.specs.declared.names.FieldId.{FieldId}
use Rattle.st_ids.specs.declared.names.NodeId.{NodeId}
use Rattle.st_kind.specs.Named.{Nodes}
use Rattle.st_lemmas.proofs.Bools.{true-false}
use Rattle.st_marks.specs.declared.changes.NewNode.{NewNode}
use Rattle.st_marks.specs.declared.intents.Owned.{Owned}
use Rattle.st_marks.specs.declared.marks.How.TheVariants.{Stay, Leave}
use Rattle.st_marks.specs.declared.marks.Loose.{Loose}
use Rattle.st_marks.specs.declared.marks.Mark.{Mark}
use Rattle.st_marks.specs.declared.marks.RegStep.{RegStep}
use Rattle.st_marks.specs.declared.marks.RowMarks.{RowMarks}
use Rattle.st_marks.specs.declared.places.Slot.{Slot}
use Rattle.st_marks.specs.declared.places.Spot.{Spot}
use Rattle.st_marks.specs.declared.steps.Step.{Step}
use Rattle.st_marks.specs.Back.{is_in, place_back, retreat, unless_in}
use Rattle.st_marks.specs.Document.{Document, NodeType, content, is_cell, node_of, owned_cell, slot}
use Rattle.st_marks.specs.Embedding.{is_nowhere, row_marks, tells}
use Rattle.st_marks.specs.Extends.{GainsItems, IsExtendedBy, no_more, item_gained, item_kept}
use Rattle.st_marks.specs.Intent.{same_option}
use Rattle.st_marks.specs.Register.{holds_mentioned, step_register}
use Rattle.st_marks.specs.Row.{CellMark, Counted, Gap, Touch, Make, Fill, SameCell, merge, skip_one, step_cell, step_row}
use Rattle.st_marks.specs.Step.{IsChanged, IsSchemaStep, IsStep, gained_node, step_loose}
use Rattle.st_marks.proofs.Climb.{is_cell-true}
use Rattle.st_marks.proofs.Later.{has_later}
use Rattle.st_marks.proofs.Retreat.{back_old, retreat_extends}
use Rattle.st_marks.proofs.Shared.{held-same, same-held}
use Rattle.st_marks.proofs.Turns.{extends_on}
use Rattle.st_rows.specs.Rows.{NamesMoved, retreat_row}
use Rattle.st_rows.specs.Sequence.{retreat_to}
use Rattle.st_rows.proofs.Documents.{can_hold}
use Rattle.st_rows.proofs.DocumentsBack.{back_is}
use Rattle.st_rows.proofs.DocumentsListed.{document_is}
use Rattle.st_rows.proofs.Existence.{contents_grow}
use Rattle.st_rows.proofs.KindLaws.{same_grown}
use Rattle.st_rows.proofs.RowRetreats.{retreat_is}
use Rattle.st_puts.proofs.ListedIf.{or_parts, shown-None, shown-Some}
use Rattle.st_trim.specs.Trimmed.{ListsStep}
use Rattle.st_trim.proofs.StepsInTurn.{step_closed}
use Rattle.st_steps.specs.WayBack.{named_back_of, register_back}
use Rattle.st_steps.proofs.FieldsBack.{register_back-listed}
use Rattle.st_steps.proofs.RowsBack.{all_made, empty, made_of}
use Rattle.st_steps.proofs.StepsListed.{mention_known}
use Rattle.st_revert.proofs.MappedLists.{listing-map}
use Rattle.st_revert.specs.inside.Made.{ToldMade, loose_made, mark_made, register_made, row_made}

-- ## Marks

-- a cell, as a mark of it
abbrev cell_made : Nodes → Bool → CellMark → CellMark
cell_made new young Counted = Counted
cell_made new young (Gap c) = Gap c
cell_made new young (Touch c n h) = Touch c n Stay
cell_made new young (Make c n b) = Make c n (b && (young && new n))
cell_made new young (Fill c n) = Gap c

module _ (new : Nodes) (young : Bool) where
  skip_made : (ms : List Mark) → map (mark_made new young) (skip_one ms) ≡ skip_one (map (mark_made new young) ms)
  skip_made [] = refl
  skip_made (Mark.Skip k ∷ ms) = refl
  skip_made (Mark.Gap c ∷ ms) = refl
  skip_made (Mark.Touch c n h ∷ ms) = refl
  skip_made (Mark.Make c n b ∷ ms) = refl
  skip_made (Mark.Fill c n ∷ ms) = refl

  merge_made : (xs : List CellMark) → map (mark_made new young) (merge xs) ≡ merge (map (cell_made new young) xs)
  merge_made [] = refl
  merge_made (Counted ∷ xs) = skip_made (merge xs) ∙ ap skip_one (merge_made xs)
  merge_made (Gap c ∷ xs) = ap (λ l. Mark.Gap c ∷ l) (merge_made xs)
  merge_made (Touch c n h ∷ xs) = ap (λ l. Mark.Touch c n Stay ∷ l) (merge_made xs)
  merge_made (Make c n b ∷ xs) = ap (λ l. Mark.Make c n (b && (young && new n)) ∷ l) (merge_made xs)
  merge_made (Fill c n ∷ xs) = ap (λ l. Mark.Gap c ∷ l) (merge_made xs)

  silent_made : (xs : List CellMark) → list_any tells xs ≡ false → list_any tells (map (cell_made new young) xs) ≡ false
  silent_made [] e = refl
  silent_made (Counted ∷ xs) e = silent_made xs e
  silent_made (Gap c ∷ xs) e = silent_made xs e
  silent_made (Touch c n h ∷ xs) e = cc
  silent_made (Make c n b ∷ xs) e = cc
  silent_made (Fill c n ∷ xs) e = cc

and-false : (b : Bool) → (b && false) ≡ false
and-false true = refl
and-false false = refl

and-itself : (b : Bool) → (b && true) ≡ b
and-itself true = refl
and-itself false = refl

-- ## A row that was there

-- the row with the cells that it gained, all empty
abbrev forward : {c d : List Slot} (g : GainsItems SameCell c d) → GainsItems SameCell c (retreat_row g)
forward no_more = no_more
forward (item_gained g) = item_gained (forward g)
forward (item_kept a g) = item_kept a (forward g)

abbrev itself : (c : List Slot) → GainsItems SameCell c c
itself [] = no_more
itself (s ∷ c) = item_kept (refl, refl) (itself c)

back_itself : (c : List Slot) → retreat_row (itself c) ≡ c
back_itself [] = refl
back_itself (s ∷ c) = ap (λ l. s ∷ l) (back_itself c)

module _ (m new : Nodes) where
  kept : (c : CellId) (n : NodeId) (a b : Bool) → (a ≢ b → m n ≡ true) → step_cell m c n a a ≡ cell_made new false (step_cell m c n a b)
  kept c n true true h = go (m n)
    where
      go : (z : Bool) → cond z (Touch c n Stay) Counted ≡ cell_made new false (cond z (Touch c n Stay) Counted)
      go true = refl
      go false = refl
  kept c n true false h = ap (λ z. cond z (Touch c n Stay) Counted) (h (λ e. cc))
  kept c n false true h = refl
  kept c n false false h = refl

  stays_put : {c d : List Slot} (g : GainsItems SameCell c d) → NamesMoved m g → step_row m (forward g) ≡ map (cell_made new false) (step_row m g)
  stays_put no_more h = refl
  stays_put (item_gained {y = t} g) h = λ i. Make t.cell t.node (sym (and-false t.full) i) ∷ stays_put g h i
  stays_put (item_kept {x = s} {y = t} a g) h = λ i. kept s.cell s.node s.full t.full h.0 i ∷ stays_put g h.1 i

-- ## Places on the way back

-- a new node in a field of an old one goes, any other new one stays
out_by : (D E : Document) (k : NodeId) → is_in D k ≡ false → option_map_or (is_in D) (node_of (E.place k)) false ≡ true → place_back D E k ≡ Spot.Nowhere
out_by D E k e f = rw (e, f) refl

stays_by : (D E : Document) (k : NodeId) → is_in D k ≡ false → option_map_or (is_in D) (node_of (E.place k)) false ≡ false → place_back D E k ≡ E.place k
stays_by D E k e f = rw (e, f) refl

-- ## Over documents

module _ (D E : Document) (S : Step) (x : IsExtendedBy D E) (s : IsStep D E S) (new : Nodes) (new_so : (n : NodeId) → new n ≡ (is_in E n && not (is_in D n))) where
  abbrev m : Nodes
  m = s.mentioned

  abbrev back : Document
  back = retreat D E

  there : (A : Document) (k : NodeId) → IsSome (A.nodes k) → is_in A k ≡ true
  there A k h = go (A.nodes k) h
    where
      go : (o : Option NodeType) → IsSome o → is_some o ≡ true
      go None h = cc
      go (Some u) h = refl

  known : (k : NodeId) → is_in D k ≡ true → IsSome (D.nodes k)
  known k e = go (D.nodes k) e
    where
      go : (o : Option NodeType) → is_some o ≡ true → IsSome o
      go None e = cc
      go (Some u) e = refl

  not_new : (n : NodeId) → is_in D n ≡ true → new n ≡ false
  not_new n e = new_so n ∙ ap (λ b. is_in E n && not b) e ∙ and-false (is_in E n)

  is_new : (n : NodeId) → IsSome (E.nodes n) → is_in D n ≡ false → new n ≡ true
  is_new n h e = new_so n ∙ (λ i. there E n h i && not (e i))

  module _ (n : NodeId) where
    abbrev Growth : Type 0
    Growth = GainsItems SameCell (content D n) (content back n)

    one_step : (g : Growth) (d : List Slot) → content back n ≡ d → (h : GainsItems SameCell (content D n) d) → step_row m g ≡ step_row m h
    one_step g d e h = subst (λ l. (h : GainsItems SameCell (content D n) l) → step_row m g ≡ step_row m h) e (λ h. (same_grown m g h (can_hold back (retreat_extends D E x).after n).once).0) h

    -- the node was there
    old_row : (g : Growth) → is_in D n ≡ true → step_row m g ≡ map (cell_made new (new n)) (step_row m (s.grows n))
    old_row g old =
        let row_is = back_is D E n x (known n old) ∙ sym (retreat_is (content D n) (s.grows n) (can_hold E x.after n).once (λ a h. refl)) in
        let l = document_is D E S n s x in
        let moved = (same_grown m l.step.grows (s.grows n) l.after.once).1 l.moved in
        one_step g (retreat_row (s.grows n)) row_is (forward (s.grows n)) ∙ stays_put m new (s.grows n) moved
        ∙ ap (λ b. map (cell_made new b) (step_row m (s.grows n))) (sym (not_new n old))

    -- the node is new
    module _ (young : is_in D n ≡ false) where
      one_row : (c : CellId) (k r j : NodeId) → Has (E.rows r) (owned_cell c k) → Has (E.rows n) (owned_cell c j) → r ≡ n
      one_row c k r j v u = let q : Some r ≡ Some n = sym ((x.after.one_row c r).1 (k, v)) ∙ (x.after.one_row c n).1 (j, u) in cc

      -- whether a cell of the row is full when what was there is back
      full_back : (o : Owned) → Has (E.rows n) o → is_cell o.cell (place_back D E o.node) ≡ (is_cell o.cell (E.place o.node) && (new n && new o.node))
      full_back o h = go (is_in D o.node) refl
        where
          row_new : new n ≡ true
          row_new = is_new n (x.after.cells_known n o h).0 young

          go : (b : Bool) → is_in D o.node ≡ b → is_cell o.cell (place_back D E o.node) ≡ (is_cell o.cell (E.place o.node) && (new n && new o.node))
          go true e =
              ap (is_cell o.cell) (back_old D E x o.node e) ∙ not_in (is_cell o.cell (D.place o.node)) refl
              ∙ sym (and-false (is_cell o.cell (E.place o.node))) ∙ (λ i. is_cell o.cell (E.place o.node) && (sym row_new i && sym (not_new o.node e) i))
            where
              not_in : (b : Bool) → is_cell o.cell (D.place o.node) ≡ b → b ≡ false
              not_in false e = refl
              not_in true e =
                  let r = is_cell-true o.cell (D.place o.node) e in
                  let own = x.before.own_cell o.node r.0 o.cell r.1 in
                  let same = one_row o.cell o.node r.0 o.node (has_later (x.rows r.0) (owned_cell o.cell o.node) own) h in
                  absurd (true-false (ap (is_in D) (sym same) ∙ there D r.0 (x.before.cells_known r.0 (owned_cell o.cell o.node) own).0) young)
          go false e = place (option_map_or (is_in D) (node_of (E.place o.node)) false) refl ∙ (λ i. is_cell o.cell (E.place o.node) && (sym row_new i && sym (is_new o.node (x.after.cells_known n o h).1 e) i))
            where
              place : (b : Bool) → option_map_or (is_in D) (node_of (E.place o.node)) false ≡ b → is_cell o.cell (place_back D E o.node) ≡ (is_cell o.cell (E.place o.node) && true)
              place false f = ap (is_cell o.cell) (stays_by D E o.node e f) ∙ sym (and-itself (is_cell o.cell (E.place o.node)))
              place true f = ap (is_cell o.cell) (out_by D E o.node e f) ∙ sym (ap (λ b. b && true) (elsewhere (is_cell o.cell (E.place o.node)) refl))
                where
                  elsewhere : (b : Bool) → is_cell o.cell (E.place o.node) ≡ b → b ≡ false
                  elsewhere false q = refl
                  elsewhere true q =
                      let r = is_cell-true o.cell (E.place o.node) q in
                      let same = one_row o.cell o.node r.0 o.node (x.after.own_cell o.node r.0 o.cell r.1) h in
                      absurd (true-false (sym (ap (λ z. option_map_or (is_in D) (node_of z) false) r.1 ∙ ap (is_in D) same) ∙ f) young)

      cells_made : (os : List Owned) → ((o : Owned) → Has os o → Has (E.rows n) o) → made_of (map (slot back) os) ≡ map (cell_made new (new n)) (made_of (map (slot E) os))
      cells_made [] h = refl
      cells_made (o ∷ os) h = λ i. Make o.cell o.node (full_back o (h o (inl refl)) i) ∷ cells_made os (λ q w. h q (inr w)) i

      new_row : (g : Growth) → step_row m g ≡ map (cell_made new (new n)) (step_row m (s.grows n))
      new_row g =
          let none = ap (map (slot D)) (empty D E S x s new new_so n young) in
          all_made m none g ∙ cells_made (E.rows n) (λ o h. h) ∙ ap (map (cell_made new (new n))) (sym (all_made m none (s.grows n)))

    row_is : (g : Growth) → step_row m g ≡ map (cell_made new (new n)) (step_row m (s.grows n))
    row_is g = go (is_in D n) refl
      where
        go : (b : Bool) → is_in D n ≡ b → step_row m g ≡ map (cell_made new (new n)) (step_row m (s.grows n))
        go true e = old_row g e
        go false e = new_row e g

    abbrev Listed : Growth → Option RowMarks → Type 0
    Listed g o = MatchOption o (list_any tells (step_row m g) ≡ false) (λ r. r.marks ≡ merge (step_row m g))

    listed : (g : Growth) (p : Option RowMarks) → row_marks n (step_row m (s.grows n)) ≡ p → Listed g (option_map (row_made new) p)
    listed g None e =
        let quiet = shown-None (list_any tells (step_row m (s.grows n))) (record { node = n; marks = merge (step_row m (s.grows n)) }) e in
        ap (list_any tells) (row_is g) ∙ silent_made new (new n) (step_row m (s.grows n)) quiet
    listed g (Some r) e =
        let row : r ≡ record { node = n; marks = merge (step_row m (s.grows n)) } = shown-Some (list_any tells (step_row m (s.grows n))) (record { node = n; marks = merge (step_row m (s.grows n)) }) r e in
        ap (λ (z : RowMarks). map (mark_made new (new z.node)) z.marks) row ∙ merge_made new (new n) (step_row m (s.grows n)) ∙ ap merge (sym (row_is g))

    row_listed : (g : Growth) (o : Option RowMarks) → o ≡ option_map (row_made new) (item_of node_cmp (λ (r : RowMarks). r.node) S.rows n) → Listed g o
    row_listed g o e = subst (Listed g) (sym (e ∙ ap (option_map (row_made new)) (s.rows.at_each n))) (listed g (row_marks n (step_row m (s.grows n))) refl)

    -- ## Nodes that are nowhere, and what differs

    loose_is : option_map loose_made (step_loose m D E n) ≡ step_loose m D back n
    loose_is = go (m n) refl (is_nowhere (D.place n)) refl (not (same_node n root))
      where
        stays : m n ≡ true → is_nowhere (D.place n) ≡ true → cond (is_nowhere (place_back D E n)) Stay Leave ≡ Stay
        stays e f = ap (λ p. cond (is_nowhere p) Stay Leave) (back_old D E x n (there D n (mention_known D E S x.before s n e))) ∙ ap (λ b. cond b Stay Leave) f

        go : (a : Bool) → m n ≡ a → (b : Bool) → is_nowhere (D.place n) ≡ b → (z : Bool)
            → option_map loose_made (cond (a && b && z) (Some (record { node = n; how = cond (is_nowhere (E.place n)) Stay Leave })) None) ≡ cond (a && b && z) (Some (record { node = n; how = cond (is_nowhere (place_back D E n)) Stay Leave })) None
        go true e true f true = λ i. Some (record { node = n; how = sym (stays e f) i })
        go true e true f false = refl
        go true e false f z = refl
        go false e b f z = refl

    changed : IsChanged D back n → m n ≡ true
    changed (k, inl apart) = absurd (apart (sym (back_old D E x n (there D n k))))
    changed (k, inr (inl apart)) = (s.which n).1 (n, (k, inr (inl (λ p. apart (same p)))), zero, refl)
      where
        same : content D n ≡ content E n → content D n ≡ content back n
        same p =
            let once = (can_hold E x.after n).once in
            let to_itself = sym (retreat_is (content E n) (itself (content E n)) once (λ a h. refl)) ∙ back_itself (content E n) in
            sym (back_is D E n x k ∙ ap (λ c. retreat_to c (content E n)) p ∙ to_itself ∙ sym p)
    changed (k, inr (inr w)) = absurd (w.2 (sym (ap (λ b. cond b (D.held w.0) (unless_in D (E.held w.0))) (ap (is_in D) w.1 ∙ there D n k))))

  -- ## Registers

  module _ (f : FieldId) where
    abbrev Kept : Option RegStep → Type 0
    Kept o = MatchOption o (step_register f m (D.held f) (back.held f) ≡ None) (λ r. r ≡ record { field = f; before = D.held f; after = back.held f })

    abbrev named : Nodes
    named = named_back_of D E m

    twice : (b : Bool) → not b ≡ false → b ≡ true
    twice true e = refl
    twice false e = cc

    unlisted : (k : Nodes) (a b : Option NodeId) → step_register f k a b ≡ None → (a ≡ b) × (holds_mentioned k a ≡ false)
    unlisted k a b e =
        let p = or_parts (not (same_option same_node a b)) (holds_mentioned k a) (shown-None (not (same_option same_node a b) || holds_mentioned k a) (record { field = f; before = a; after = b }) e) in
        (same-held a b (twice (same_option same_node a b) p.0), p.1)

    register_listed : (p : Option RegStep) → step_register f m (D.held f) (E.held f) ≡ p
        → MatchOption (option_map (register_back new) p) (step_register f named (E.held f) (back.held f) ≡ None) (λ r. r ≡ record { field = f; before = E.held f; after = back.held f })
        → Kept (option_map (register_made new) p)
    register_listed None e h =
        let q = unlisted m (D.held f) (E.held f) e in
        let w = unlisted named (E.held f) (back.held f) h in
        λ i. cond {A = Option RegStep} (not (held-same (D.held f) (back.held f) (q.0 ∙ w.0) i) || q.1 i) (Some (record { field = f; before = D.held f; after = back.held f })) None
    register_listed (Some r) e h =
        let row : r ≡ record { field = f; before = D.held f; after = E.held f } = shown-Some (not (same_option same_node (D.held f) (E.held f)) || holds_mentioned m (D.held f)) (record { field = f; before = D.held f; after = E.held f }) r e in
        λ i. record { field = (row i).field; before = (row i).before; after = (h i).after }

    register_is : (o : Option RegStep) → o ≡ option_map (register_made new) (item_of field_cmp (λ (r : RegStep). r.field) S.regs f) → Kept o
    register_is o e =
        let item = item_of field_cmp (λ (r : RegStep). r.field) S.regs f in
        subst Kept (sym e) (register_listed item (sym (s.regs.at_each f)) (register_back-listed D E S x s new new_so f (option_map (register_back new) item) refl))

  -- ## All of it

  pub lists_made : (G : Step) → ToldMade S G new → ListsStep D back m G
  lists_made G told =
      let rows = listing-map node_cmp (λ (r : RowMarks). r.node) (λ (r : RowMarks). r.node) (row_made new) (λ r. refl) S.rows G.rows s.rows.rising told.rows in
      let regs = listing-map field_cmp (λ (r : RegStep). r.field) (λ (r : RegStep). r.field) (register_made new) (λ r. refl) S.regs G.regs s.regs.rising told.regs in
      let loose = listing-map node_cmp (λ (l : Loose). l.node) (λ (l : Loose). l.node) loose_made (λ l. refl) S.loose G.loose s.loose.rising told.loose in
      record {
        covers = record { closed = step_closed D E S s; changed = changed };
        schema = subst (IsSchemaStep D.schemas D.schemas) (sym told.schema) refl;
        new = subst (λ (l : List NewNode). IsListing node_cmp (λ (q : NewNode). q.node) l (λ n. gained_node n (D.nodes n) (E.nodes n))) (sym told.new_nodes) s.new;
        grows = λ n. contents_grow D back n (extends_on D E back x (retreat_extends D E x));
        rows_rise = rows.rising;
        rows = λ n. row_listed n (contents_grow D back n (extends_on D E back x (retreat_extends D E x))) (item_of node_cmp (λ (r : RowMarks). r.node) G.rows n) (rows.at_each n);
        regs_rise = regs.rising;
        regs = λ f. register_is f (item_of field_cmp (λ (r : RegStep). r.field) G.regs f) (regs.at_each f);
        loose = record { rising = loose.rising; at_each = λ n. loose.at_each n ∙ ap (option_map loose_made) (s.loose.at_each n) ∙ loose_is n };
      }
