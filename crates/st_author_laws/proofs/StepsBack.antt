-- What is read off a step and the document to which it leads is what the document before it has.
use Rattle.std.proofs.Common.{◌≡◌, ◌≢◌, ◌↔◌, ◌++◌, ◌-◌, ◌+◌, ◌||◌, ◌&&◌, ◌⊎◌, Bool, true, false, not, List, [], ◌∷◌, map, length, take, Option, Some, None, IsSome, cond, refl, sym, ap, ◌∙◌, subst, inl, inr, arith}
use Rattle.std.specs.List.{list_any}
use Rattle.std.specs.Option.{option_map_or}
use Rattle.std.proofs.Math.Seq.{take-append_seam}
use Rattle.std.proofs.lemmas.List.{length-append}
use Rattle.st_ids.specs.Listing.{Has}
use Rattle.st_ids.specs.Order.{node_cmp, same_cell, same_node}
use Rattle.st_ids.proofs.Orders.{node_cmp_exact, node_cmp_total, same_cell-itself, same_cell-true}
use Rattle.st_ids.proofs.Listings.{has-item_of, item_of-has}
use Rattle.st_ids.specs.declared.names.CellId.{CellId}
use Rattle.st_ids.specs.declared.names.FieldId.{FieldId}
use Rattle.st_ids.specs.declared.names.NodeId.{NodeId}
use Rattle.st_marks.specs.declared.changes.NewNode.{NewNode}
use Rattle.st_marks.specs.declared.marks.How.{How}
use Rattle.st_marks.specs.declared.marks.How.TheVariants.{Leave}
use Rattle.st_marks.specs.declared.marks.Loose.{Loose}
use Rattle.st_marks.specs.declared.marks.RegStep.{RegStep}
use Rattle.st_marks.specs.declared.marks.RowMarks.{RowMarks}
use Rattle.st_marks.specs.declared.places.Slot.{Slot}
use Rattle.st_marks.specs.declared.places.Spot.{Spot}
use Rattle.st_marks.specs.declared.schemas.SchemaStep.{SchemaStep}
use Rattle.st_marks.specs.declared.steps.Step.{Step}
use Rattle.st_marks.specs.Document.{Document, NodeType, content, owned_cell, slot}
use Rattle.st_marks.specs.Embedding.{is_among, is_nowhere, tells}
use Rattle.st_marks.specs.Extends.{IsExtendedBy}
use Rattle.st_marks.specs.Intent.{same_option}
use Rattle.st_marks.specs.Listings.{cells_made, is_among_cells, marks_of, nodes_loose, nodes_new}
use Rattle.st_marks.specs.Register.{holds_mentioned}
use Rattle.st_marks.specs.Row.{CellMark, Counted, Gap, Touch, Make, Fill, merge, spread, step_row}
use Rattle.st_marks.specs.Step.{IsSchemaStep, IsStep, gained_node}
use Rattle.st_marks.proofs.Later.{has_later}
use Rattle.st_marks.proofs.Members.{any-has, has-any, flat_map-has, has-flat_map, has-map, map-has}
use Rattle.st_marks.proofs.Shared.{same-held}
use Rattle.st_normal.specs.declared.entries.Found.{Found}
use Rattle.st_normal.specs.Rules.{IsFound, entries_of_step, in_rows}
use Rattle.st_normal.proofs.NoRings.{among_has}
use Rattle.st_puts.proofs.Basics.{register-not-nowhere, row-not-nowhere}
use Rattle.st_puts.proofs.StepPlaces.{FoundAt, at_loose, at_register, at_row, cells-once, found-at, found-of, leaves, loose-place, row-look, told-listed}
use Rattle.st_puts.proofs.StepRows.{after-mark, cell_with, make-step}
use Rattle.st_rows.proofs.Documents.{in_document}
use Rattle.st_rows.proofs.KindLaws.{spread-merge}
use Rattle.st_rows.specs.Sequence.{cells_of}
use Rattle.st_lemmas.proofs.Bools.{and-true, or-cases, or-left, or-right, true-false}
use Rattle.st_lemmas.proofs.Options.{one_some}
use Rattle.st_author_laws.specs.Back.{IsTakenBack, finds_node, held_back, node_back, nowhere_back, row_back, row_of_back, schemas_back, schemas_by}
use Rattle.st_author_laws.proofs.RowsBack.{quiet_row, row_taken_back}

nowhere-is : (s : Spot) → is_nowhere s ≡ true → s ≡ Spot.Nowhere
nowhere-is Spot.Nowhere e = refl
nowhere-is (Spot.Row a c) e = cc
nowhere-is (Spot.Register k) e = cc

nowhere-or : (s : Spot) → (s ≡ Spot.Nowhere) ⊎ ((s ≢ Spot.Nowhere) × (is_nowhere s ≡ false))
nowhere-or Spot.Nowhere = inl refl
nowhere-or (Spot.Row a c) = inr (row-not-nowhere a c, refl)
nowhere-or (Spot.Register k) = inr (register-not-nowhere k, refl)

or-false : (a b : Bool) → (a || b) ≡ false → a ≡ false
or-false true b e = cc
or-false false b e = refl

not-not : (a : Bool) → not a ≡ false → a ≡ true
not-not true e = refl
not-not false e = cc

none-some : {A : Type 0} {x : A} → None ≡ Some x → ⊥
none-some e = cc

-- whether a cell is in a list
among-cell : (cs : List CellId) (c : CellId) → is_among_cells cs c ≡ true → Has cs c
among-cell cs c e = let r = any-has (λ d. same_cell d c) cs e in subst (Has cs) (same_cell-true r.0 c r.2) r.1

cell-among : (cs : List CellId) (c : CellId) → Has cs c → is_among_cells cs c ≡ true
cell-among cs c h = has-any (λ d. same_cell d c) cs c h (same_cell-itself c)

-- the cells that marks make
make-of : (ms : List CellMark) (c : CellId) → Has (cells_made ms) c → (n : NodeId) × (b : Bool) × Has ms (Make c n b)
make-of [] c h = absurd h
make-of (Counted ∷ ms) c h = let r = make-of ms c h in (r.0, r.1, inr r.2)
make-of (Gap d ∷ ms) c h = let r = make-of ms c h in (r.0, r.1, inr r.2)
make-of (Touch d n k ∷ ms) c h = let r = make-of ms c h in (r.0, r.1, inr r.2)
make-of (Make d n b ∷ ms) c (inl e) = (n, b, inl (ap (λ a. Make a n b) e))
make-of (Make d n b ∷ ms) c (inr h) = let r = make-of ms c h in (r.0, r.1, inr r.2)
make-of (Fill d n ∷ ms) c h = let r = make-of ms c h in (r.0, r.1, inr r.2)

made-of : (ms : List CellMark) (c : CellId) (n : NodeId) (b : Bool) → Has ms (Make c n b) → Has (cells_made ms) c
made-of ms c n b h = flat_map-has _ ms (Make c n b) c h (inl refl)

module _ (A T : Document) (S : Step) (x : IsExtendedBy A T) (s : IsStep A T S) where
  abbrev m : NodeId → Bool
  m = s.mentioned

  -- ## Rows

  row : (n : NodeId) → List CellMark
  row n = step_row m (s.grows n)

  rows-back : (n : NodeId) → row_back (content T n) (marks_of S.rows n) ≡ content A n
  rows-back n = go (list_any tells (step_row m (s.grows n))) refl
    where
      marks-are : (b : Bool) → list_any tells (step_row m (s.grows n)) ≡ b
          → marks_of S.rows n ≡ option_map_or (λ (r : RowMarks). spread r.marks) (cond b (Some (record { node = n; marks = merge (step_row m (s.grows n)) })) None) []
      marks-are b e = ap (λ (o : Option RowMarks). option_map_or (λ (r : RowMarks). spread r.marks) o []) (s.rows.at_each n ∙ ap (λ b. cond b (Some (record { node = n; marks = merge (step_row m (s.grows n)) })) None) e)

      go : (b : Bool) → list_any tells (step_row m (s.grows n)) ≡ b → row_back (content T n) (marks_of S.rows n) ≡ content A n
      go true e = ap (row_back (content T n)) (marks-are true e ∙ spread-merge (step_row m (s.grows n))) ∙ row_taken_back m (s.grows n)
      go false e = ap (row_back (content T n)) (marks-are false e) ∙ quiet_row m (s.grows n) e

  -- ## Registers

  held-is : (f : FieldId) → held_back S T f ≡ A.held f
  held-is f = ap (λ (o : Option RegStep). option_map_or (λ (r : RegStep). r.before) o (T.held f)) (s.regs.at_each f) ∙ go (not (same_option same_node (A.held f) (T.held f)) || holds_mentioned m (A.held f)) refl
    where
      go : (b : Bool) → (not (same_option same_node (A.held f) (T.held f)) || holds_mentioned m (A.held f)) ≡ b
          → option_map_or (λ (r : RegStep). r.before) (cond b (Some (record { field = f; before = A.held f; after = T.held f })) None) (T.held f) ≡ A.held f
      go true e = refl
      go false e = sym (same-held (A.held f) (T.held f) (not-not _ (or-false _ _ e)))

  -- ## Nodes

  nodes-are : (n : NodeId) → node_back S T n ≡ A.nodes n
  nodes-are n = go (A.nodes n) (T.nodes n) refl refl
    where
      not-new : (t : NodeType) → A.nodes n ≡ Some t → Has (nodes_new S.new) n → ⊥
      not-new t e h =
          let k = has-map (λ (k : NewNode). k.node) S.new n h in
          let q = sym (has-item_of node_cmp node_cmp_total node_cmp_exact (λ (k : NewNode). k.node) S.new k.0 s.new.rising k.1) ∙ s.new.at_each k.0.node in
          none-some (sym (ap (λ o. gained_node k.0.node o (T.nodes k.0.node)) (ap A.nodes k.2 ∙ e)) ∙ sym q)

      go : (a b : Option NodeType) → A.nodes n ≡ a → T.nodes n ≡ b → node_back S T n ≡ A.nodes n
      go (Some t) b e f = known (is_among (nodes_new S.new) n) refl
        where
          known : (z : Bool) → is_among (nodes_new S.new) n ≡ z → node_back S T n ≡ A.nodes n
          known true q = absurd (not-new t e ((among_has (nodes_new S.new) n).0 q))
          known false q = ap (λ z. cond z None (T.nodes n)) q ∙ x.nodes n t e ∙ sym e
      go None None e f = none (is_among (nodes_new S.new) n) ∙ sym e
        where
          none : (z : Bool) → cond z None (T.nodes n) ≡ None
          none true = refl
          none false = f
      go None (Some t) e f =
          let y : NewNode = record { node = n; ty = t.ty; leaf = t.leaf } in
          let i = item_of-has node_cmp node_cmp_total node_cmp_exact (λ (k : NewNode). k.node) S.new n y (s.new.at_each n ∙ (λ i. gained_node n (e i) (f i))) in
          ap (λ z. cond z None (T.nodes n)) ((among_has (nodes_new S.new) n).1 (map-has (λ (k : NewNode). k.node) S.new y i.0)) ∙ sym e

  -- ## Nodes that are nowhere

  found-true : (n : NodeId) → IsFound (entries_of_step S) n → finds_node S n ≡ true
  found-true n h = (among_has (map (λ (f : Found). f.node) (entries_of_step S).found) n).1 h

  true-found : (n : NodeId) → finds_node S n ≡ true → IsFound (entries_of_step S) n
  true-found n e = (among_has (map (λ (f : Found). f.node) (entries_of_step S).found) n).0 e

  moves-found : (n : NodeId) → IsSome (A.nodes n) → A.place n ≢ T.place n → finds_node S n ≡ true
  moves-found n k h = found-true n (found-of A T S x s n Leave (leaves A T S x s n k h))

  loose-listed : (n : NodeId) → is_among (nodes_loose S.loose) n ≡ true → A.place n ≡ Spot.Nowhere
  loose-listed n e =
      let l = has-map (λ (l : Loose). l.node) S.loose n ((among_has (nodes_loose S.loose) n).0 e) in
      ap A.place (sym l.2) ∙ (loose-place A T S x s l.0 l.1).0

  nowhere-are : (n : NodeId) → IsSome (A.nodes n) → (nowhere_back S T n ≡ true) ↔ (A.place n ≡ Spot.Nowhere)
  nowhere-are n k = (there, back)
    where
      there : nowhere_back S T n ≡ true → A.place n ≡ Spot.Nowhere
      there e = elim (or-cases (is_among (nodes_loose S.loose) n) (not (finds_node S n) && is_nowhere (T.place n)) e) [
        | inl f ↦ loose-listed n f
        | inr f ↦ (let p = and-true (not (finds_node S n)) (is_nowhere (T.place n)) f in
            elim (nowhere-or (A.place n)) [
              | inl q ↦ q
              | inr q ↦ absurd (still (finds_node S n) p.0 (moves-found n k (λ r. q.0 (r ∙ nowhere-is (T.place n) p.1))))
            ])
      ]
        where
          still : (b : Bool) → not b ≡ true → b ≡ true → ⊥
          still true e f = cc
          still false e f = cc

      listed : (h : How) → FoundAt A T S x s n h → A.place n ≡ Spot.Nowhere → is_among (nodes_loose S.loose) n ≡ true
      listed h (at_row r a i j e) p = absurd (row-not-nowhere r.node a (sym e ∙ p))
      listed h (at_register r i e f) p = absurd (register-not-nowhere r.field (sym f ∙ p))
      listed h (at_loose l i e f g) p = (among_has (nodes_loose S.loose) n).1 (subst (Has (nodes_loose S.loose)) e (map-has (λ (l : Loose). l.node) S.loose l i))

      found-listed : IsFound (entries_of_step S) n → A.place n ≡ Spot.Nowhere → is_among (nodes_loose S.loose) n ≡ true
      found-listed h p =
          let f = has-map (λ (f : Found). f.node) (entries_of_step S).found n h in
          listed f.0.how (subst (λ k. FoundAt A T S x s k f.0.how) f.2 (found-at A T S x s f.0 f.1).0) p

      back : A.place n ≡ Spot.Nowhere → nowhere_back S T n ≡ true
      back p = go (finds_node S n) refl
        where
          go : (b : Bool) → finds_node S n ≡ b → nowhere_back S T n ≡ true
          go true f = or-left (is_among (nodes_loose S.loose) n) (not (finds_node S n) && is_nowhere (T.place n)) (found-listed (true-found n f) p)
          go false f = elim (nowhere-or (T.place n)) [
            | inl q ↦ or-right (is_among (nodes_loose S.loose) n) (not (finds_node S n) && is_nowhere (T.place n)) ((λ i. not (f i) && is_nowhere (q i)))
            | inr q ↦ absurd (true-false (moves-found n k (λ r. q.0 (sym r ∙ p))) f)
          ]

  -- ## Schema entries

  schemas-are : schemas_back S T ≡ A.schemas
  schemas-are = go S.schema s.schema
    where
      go : (o : Option SchemaStep) → IsSchemaStep A.schemas T.schemas o → schemas_by o T.schemas ≡ A.schemas
      go None e = sym e
      go (Some z) (front, before, after, on, rest) =
          let size : length T.schemas - length z.add ≡ length front = (let e : length T.schemas ≡ length front + length z.add = ap length after ∙ length-append front z.add in omega (arith, e)) in
          (λ i. take (size i) (after i) ++ z.cut) ∙ ap (λ l. l ++ z.cut) (take-append_seam front z.add) ∙ sym before

  -- ## Cells

  row-later : (c : CellId) (n : NodeId) → A.row_of c ≡ Some n → T.row_of c ≡ Some n
  row-later c n e = let o = (x.before.one_row c n).0 e in (x.after.one_row c n).1 (o.0, has_later (x.rows n) (owned_cell c o.0) o.1)

  row_ofs-are : (c : CellId) → row_of_back S T c ≡ A.row_of c
  row_ofs-are c = go (A.row_of c) refl (is_among_cells (in_rows cells_made S.rows) c) refl
    where
      -- the node in whose row a cell is made, which isn't there before
      made-in : is_among_cells (in_rows cells_made S.rows) c ≡ true → (n : NodeId) → A.row_of c ≡ Some n → ⊥
      made-in e n f =
          let q = has-flat_map (λ (r : RowMarks). cells_made (spread r.marks)) S.rows c (among-cell (in_rows cells_made S.rows) c e) in
          let w = make-of (spread q.0.marks) c q.2 in
          let r = q.0.node in
          let i : Has (step_row m (s.grows r)) (Make c w.0 w.1) = subst (λ ms. Has ms (Make c w.0 w.1)) (row-look A T S x s q.0 q.1).0 w.2 in
          let made = make-step m (s.grows r) (cells-once A T S x s r) c w.0 w.1 i in
          let later : T.row_of c ≡ Some r = in_document T x.after r c (map-has (λ (t : Slot). t.cell) (content T r) (cell_with c w.0 w.1) made.0) in
          let same : n ≡ r = one_some n r (sym (row-later c n f) ∙ later) in
          let o = (x.before.one_row c r).0 (f ∙ ap (λ k. Some k) same) in
          made.1 (map-has (λ (t : Slot). t.cell) (content A r) (slot A (owned_cell c o.0)) (map-has (slot A) (A.rows r) (owned_cell c o.0) o.1))

      -- a cell that is there only after is made
      comes : (n : NodeId) → T.row_of c ≡ Some n → A.row_of c ≡ None → is_among_cells (in_rows cells_made S.rows) c ≡ true
      comes n f e =
          let o = (x.after.one_row c n).0 f in
          let t = slot T (owned_cell c o.0) in
          elim (after-mark m (s.grows n) t (map-has (slot T) (T.rows n) (owned_cell c o.0) o.1)) [
            | inl w ↦ absurd (none-some (sym e ∙ in_document A x.before n c (subst (Has (cells_of (content A n))) w.same.0 (map-has (λ (t : Slot). t.cell) (content A n) w.slot w.there))))
            | inr i ↦ (let q = told-listed A T S x s n (Make t.cell t.node t.full) i refl in
                cell-among (in_rows cells_made S.rows) c (flat_map-has (λ (r : RowMarks). cells_made (spread r.marks)) S.rows q.0 c q.1 (made-of (spread q.0.marks) c t.node t.full q.3)))
          ]

      go : (o : Option NodeId) → A.row_of c ≡ o → (b : Bool) → is_among_cells (in_rows cells_made S.rows) c ≡ b → row_of_back S T c ≡ A.row_of c
      go None e true f = ap (λ b. cond b None (T.row_of c)) f ∙ sym e
      go None e false f = ap (λ b. cond b None (T.row_of c)) f ∙ none (T.row_of c) refl ∙ sym e
        where
          none : (o : Option NodeId) → T.row_of c ≡ o → T.row_of c ≡ None
          none None q = q
          none (Some n) q = absurd (true-false (comes n q e) f)
      go (Some n) e true f = absurd (made-in f n e)
      go (Some n) e false f = ap (λ b. cond b None (T.row_of c)) f ∙ row-later c n e ∙ sym e

  pub taken_back : IsTakenBack S T A
  taken_back = record { rows = rows-back; held = held-is; nodes = nodes-are; nowhere = nowhere-are; row_of = row_ofs-are; schemas = schemas-are }
