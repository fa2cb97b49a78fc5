-- No cell is made again, and so a change and a step that stand over one document agree.
use Rattle.std.proofs.Common.{◌≡◌, ◌≢◌, Bool, true, false, List, [], ◌∷◌, ◌++◌, Option, Some, None, cond, refl, sym, ap, ◌∙◌, subst, inl, inr, ◌⊎◌, ◌↔◌, IsSome, IsTrue, IfSome}
use Rattle.std.specs.List.{AllByRecursion, flat_map, list_any}
use Rattle.std.specs.Option.{option_map_or}
use Rattle.st_ids.specs.Listing.{Has, item_of}
use Rattle.st_ids.specs.Order.{node_cmp, same_cell}
use Rattle.st_ids.proofs.Orders.{node_cmp_exact, node_cmp_total, same_cell-true}
use Rattle.st_ids.specs.declared.names.CellId.{CellId}
use Rattle.st_ids.specs.declared.names.FieldId.{FieldId}
use Rattle.st_ids.specs.declared.names.NodeId.{NodeId}
use Rattle.st_marks.specs.declared.changes.Change.{Change}
use Rattle.st_marks.specs.declared.intents.Group.{Group}
use Rattle.st_marks.specs.declared.intents.Intent.{Intent}
use Rattle.st_marks.specs.declared.intents.Owned.{Owned}
use Rattle.st_marks.specs.declared.intents.To.{To}
use Rattle.st_marks.specs.declared.marks.How.TheVariants.{Stay}
use Rattle.st_marks.specs.declared.marks.RowMarks.{RowMarks}
use Rattle.st_marks.specs.declared.places.Slot.{Slot}
use Rattle.st_marks.specs.declared.schemas.SchemaEntry.{SchemaEntry}
use Rattle.st_marks.specs.declared.steps.Step.{Step}
use Rattle.st_marks.specs.Agree.{Agrees, MadeAgain, RebaseClash, broken, node_again, cell_again}
use Rattle.st_marks.specs.Document.{Document, content, owned_cell, slot}
use Rattle.st_marks.specs.Embedding.{IsEmbedding, row_marks, row_part, tells}
use Rattle.st_marks.specs.Extends.{IsExtendedBy, GainsItems, no_more, item_gained, item_kept}
use Rattle.st_marks.specs.Intent.{Fits, new_row_of}
use Rattle.st_marks.specs.Row.{CellMark, Counted, Gap, Touch, Fill, RowPart, SameCell, embed_cell, embed_cells, embed_made, embed_row, how, merge, spread, step_cell, step_row}
use Rattle.st_marks.specs.How.{is_here}
use Rattle.st_marks.specs.Listings.{cells_in, cells_made, is_among_cells, marks_of, names_of_change, names_of_step, listing_before_change, listing_before_step}
use Rattle.st_marks.specs.Step.{IsStep}
use Rattle.st_marks.specs.Verdict.{HasBase}
use Rattle.st_marks.proofs.Later.{row_later}
use Rattle.st_ids.proofs.Listings.{has-item_of}
use Rattle.st_marks.proofs.Lookups.{group_at-group, made_there}
use Rattle.st_marks.proofs.Members.{any-has, flat_map-has, has-flat_map, map-has}
use Rattle.st_rows.proofs.KindLaws.{spread-merge}
use Rattle.st_rows.specs.Sequence.{cells_of}
use Rattle.st_rows.proofs.Documents.{in_document}
use Rattle.st_rows.proofs.GainedCells.{AllGained, gained_new}
use Rattle.st_marks.proofs.Unique.{distinct_content}
use Rattle.st_agree_laws.proofs.MadeOnce.{nodes_of_change_old, nodes_of_step_old}
use Rattle.st_puts.proofs.OverDocuments.{row-told}
use Rattle.st_puts.proofs.StepRows.{in-row-after}
use Rattle.st_agree_laws.proofs.ShownTruth.{beside_agree}

cell-has : (cs : List CellId) (c : CellId) → is_among_cells cs c ≡ true → Has cs c
cell-has cs c e = let r = any-has (λ d. same_cell d c) cs e in subst (Has cs) (same_cell-true r.0 c r.2) r.1

-- ## What marks name

abbrev IsMadeBy : RowPart → CellId → Type 0
IsMadeBy p a = (k : Option CellId) × (o : Owned) × Has (p.new_cells k) o × (o.cell ≡ a)

module _ (p : RowPart) (a : CellId) where
  in-made : (c : List Slot) (k : Option CellId) (os : List Owned) (xs : List CellMark) → ((o : Owned) → Has os o → Has (p.new_cells k) o) → Has (cells_in (embed_made p os ++ xs)) a → (Has (cells_in xs) a → Has (cells_of c) a ⊎ IsMadeBy p a) → Has (cells_of c) a ⊎ IsMadeBy p a
  in-made c k [] xs sub h rest = rest h
  in-made c k (o ∷ os) xs sub (inl e) rest = inr (k, o, sub o (inl refl), e)
  in-made c k (o ∷ os) xs sub (inr h) rest = in-made c k os xs (λ q i. sub q (inr i)) h rest

  in-cell : (s : Slot) (c : List Slot) (b : Bool) (xs : List CellMark) → Has (cells_in (embed_cell p s.cell s.node b ∷ xs)) a → (s.cell ≡ a) ⊎ Has (cells_in xs) a
  in-cell s c true xs h = go (p.mentioned s.node) h
    where
      go : (z : Bool) → Has (cells_in (cond z (Touch s.cell s.node (how (p.target_of s.node) (To.Cell s.cell))) Counted ∷ xs)) a → (s.cell ≡ a) ⊎ Has (cells_in xs) a
      go true i = i
      go false i = inr i
  in-cell s c false xs h = go (is_here (how (p.target_of s.node) (To.Cell s.cell))) h
    where
      go : (z : Bool) → Has (cells_in (cond z (Fill s.cell s.node) (Gap s.cell) ∷ xs)) a → (s.cell ≡ a) ⊎ Has (cells_in xs) a
      go true i = i
      go false i = i

  further : (s : Slot) (c : List Slot) → Has (cells_of c) a ⊎ IsMadeBy p a → Has (cells_of (s ∷ c)) a ⊎ IsMadeBy p a
  further s c (inl h) = inl (inr h)
  further s c (inr h) = inr h

  in-cells : (c : List Slot) → Has (cells_in (embed_cells p c)) a → Has (cells_of c) a ⊎ IsMadeBy p a
  in-cells [] h = absurd h
  in-cells (s ∷ c) h = elim (in-cell s c s.full (embed_made p (p.new_cells (Some s.cell)) ++ embed_cells p c) h) [
    | inl e ↦ inl (inl e)
    | inr i ↦ in-made (s ∷ c) (Some s.cell) (p.new_cells (Some s.cell)) (embed_cells p c) (λ o j. j) i (λ j. further s c (in-cells c j))
  ]

  pub in-row : (c : List Slot) → Has (cells_in (embed_row p c)) a → Has (cells_of c) a ⊎ IsMadeBy p a
  in-row c h = in-made c None (p.new_cells None) (embed_cells p c) (λ o j. j) h (in-cells c)

  made-made : (k : Option CellId) (os : List Owned) (xs : List CellMark) → ((o : Owned) → Has os o → Has (p.new_cells k) o) → Has (cells_made (embed_made p os ++ xs)) a → (Has (cells_made xs) a → IsMadeBy p a) → IsMadeBy p a
  made-made k [] xs sub h rest = rest h
  made-made k (o ∷ os) xs sub (inl e) rest = (k, o, sub o (inl refl), e)
  made-made k (o ∷ os) xs sub (inr h) rest = made-made k os xs (λ q i. sub q (inr i)) h rest

  made-cell : (s : Slot) (b : Bool) (xs : List CellMark) → Has (cells_made (embed_cell p s.cell s.node b ∷ xs)) a → Has (cells_made xs) a
  made-cell s true xs h = go (p.mentioned s.node) h
    where
      go : (z : Bool) → Has (cells_made (cond z (Touch s.cell s.node (how (p.target_of s.node) (To.Cell s.cell))) Counted ∷ xs)) a → Has (cells_made xs) a
      go true i = i
      go false i = i
  made-cell s false xs h = go (is_here (how (p.target_of s.node) (To.Cell s.cell))) h
    where
      go : (z : Bool) → Has (cells_made (cond z (Fill s.cell s.node) (Gap s.cell) ∷ xs)) a → Has (cells_made xs) a
      go true i = i
      go false i = i

  made-cells : (c : List Slot) → Has (cells_made (embed_cells p c)) a → IsMadeBy p a
  made-cells [] h = absurd h
  made-cells (s ∷ c) h = made-made (Some s.cell) (p.new_cells (Some s.cell)) (embed_cells p c) (λ o j. j) (made-cell s s.full (embed_made p (p.new_cells (Some s.cell)) ++ embed_cells p c) h) (made-cells c)

  pub made-row : (c : List Slot) → Has (cells_made (embed_row p c)) a → IsMadeBy p a
  made-row c h = made-made None (p.new_cells None) (embed_cells p c) (λ o j. j) h (made-cells c)

step-cell : (m : NodeId → Bool) (c : CellId) (n : NodeId) (x y : Bool) (xs : List CellMark) (a : CellId) → Has (cells_in (step_cell m c n x y ∷ xs)) a → (c ≡ a) ⊎ Has (cells_in xs) a
step-cell m c n true true xs a h = go (m n) h
  where
    go : (z : Bool) → Has (cells_in (cond z (Touch c n Stay) Counted ∷ xs)) a → (c ≡ a) ⊎ Has (cells_in xs) a
    go true i = i
    go false i = inr i
step-cell m c n true false xs a h = h
step-cell m c n false true xs a h = h
step-cell m c n false false xs a h = h

step-made : (m : NodeId → Bool) (c : CellId) (n : NodeId) (x y : Bool) (xs : List CellMark) (a : CellId) → Has (cells_made (step_cell m c n x y ∷ xs)) a → Has (cells_made xs) a
step-made m c n true true xs a h = go (m n) h
  where
    go : (z : Bool) → Has (cells_made (cond z (Touch c n Stay) Counted ∷ xs)) a → Has (cells_made xs) a
    go true i = i
    go false i = i
step-made m c n true false xs a h = h
step-made m c n false true xs a h = h
step-made m c n false false xs a h = h

made-step : (m : NodeId → Bool) (P : Slot → Type 0) {c d : List Slot} (g : GainsItems SameCell c d) (a : CellId) → AllGained P g → Has (cells_made (step_row m g)) a → (t : Slot) × P t × (t.cell ≡ a)
made-step m P no_more a k h = absurd h
made-step m P (item_gained {y = t} g) a k (inl e) = (t, k.0, e)
made-step m P (item_gained g) a k (inr h) = made-step m P g a k.1 h
made-step m P (item_kept {x = s} {y = t} w g) a k h = made-step m P g a k (step-made m s.cell s.node s.full t.full (step_row m g) a h)

-- the marks of a row that is listed, or none
marks_told : (rows : List RowMarks) (n : NodeId) (cells : List CellMark) (a : CellId) → item_of node_cmp (λ (r : RowMarks). r.node) rows n ≡ row_marks n cells → Has (cells_in (marks_of rows n)) a → Has (cells_in cells) a
marks_told rows n cells a e h = go (list_any tells cells) (subst (λ o. Has (cells_in (option_map_or (λ (r : RowMarks). spread r.marks) o [])) a) e h)
  where
    go : (b : Bool) → Has (cells_in (option_map_or (λ (r : RowMarks). spread r.marks) (cond b (Some (record { node = n; marks = merge cells })) None) [])) a → Has (cells_in cells) a
    go true i = subst (λ l. Has (cells_in l) a) (spread-merge cells) i
    go false i = absurd i

module _ (D E : Document) (N : Intent) (C : Change) (S : Step) (x : IsExtendedBy D E) (f : Fits D N) (g : Fits E N) (emb : IsEmbedding D N C) (step : IsStep D E S) where
  made_new : (r : NodeId) (m : NodeId → Bool) (a : CellId) → IsMadeBy (row_part m N r) a → IsSome (new_row_of N a)
  made_new r m a w = let q = group_at-group N r w.0 w.1 w.2 in subst (λ c. IsSome (new_row_of N c)) w.3 (made_there N w.1 (flat_map-has (λ (k : Group). k.cells) N.groups q.group w.1 q.listed q.cell))

  no_row : (a : CellId) (r : NodeId) → E.row_of a ≡ Some r → E.row_of a ≡ None → ⊥
  no_row a r e h = let q : ◌≡◌ {A = Option NodeId} None (Some r) = sym h ∙ e in cc

  node_in : {y z : NodeId} → ◌≡◌ {A = Option NodeId} (Some y) (Some z) → y ≡ z
  node_in {y} e = ap at e
    where
      at : Option NodeId → NodeId
      at None = y
      at (Some d) = d

  -- the cells that the change names, and makes
  change_cell : (q : NodeId) (a : CellId) → IsTrue ((names_of_change C).names_cell q a) → (D.row_of a ≡ Some q) ⊎ IsSome (new_row_of N a)
  change_cell q a e = elim (in-row (row_part emb.mentioned N q) a (content D q) (marks_told C.rows q (embed_row (row_part emb.mentioned N q) (content D q)) a (emb.rows.at_each q) (cell-has (cells_in (marks_of C.rows q)) a e))) [
    | inl h ↦ inl (in_document D x.before q a h)
    | inr h ↦ inr (made_new q emb.mentioned a h)
  ]

  change_made : (a : CellId) → IsTrue ((names_of_change C).makes_cell a) → IsSome (new_row_of N a)
  change_made a e =
      let r = has-flat_map (λ (r : RowMarks). cells_made (spread r.marks)) C.rows a (cell-has (flat_map (λ (r : RowMarks). cells_made (spread r.marks)) C.rows) a e) in
      let w = row-told r.0 r.0.node (embed_row (row_part emb.mentioned N r.0.node) (content D r.0.node)) (sym (emb.rows.at_each r.0.node) ∙ has-item_of node_cmp node_cmp_total node_cmp_exact (λ (r : RowMarks). r.node) C.rows r.0 emb.rows.rising r.1) in
      made_new r.0.node emb.mentioned a (made-row (row_part emb.mentioned N r.0.node) a (content D r.0.node) (subst (λ l. Has (cells_made l) a) w.0 r.2))

  -- the cells that the step names, and makes
  step_cell_there : (q : NodeId) (a : CellId) → IsTrue ((names_of_step S).names_cell q a) → E.row_of a ≡ Some q
  step_cell_there q a e = in_document E x.after q a (in-row-after step.mentioned (step.grows q) a (marks_told S.rows q (step_row step.mentioned (step.grows q)) a (step.rows.at_each q) (cell-has (cells_in (marks_of S.rows q)) a e)))

  step_made : (a : CellId) → IsTrue ((names_of_step S).makes_cell a) → (r : NodeId) × (Has (cells_of (content D r)) a → ⊥) × (E.row_of a ≡ Some r)
  step_made a e =
      let r = has-flat_map (λ (r : RowMarks). cells_made (spread r.marks)) S.rows a (cell-has (flat_map (λ (r : RowMarks). cells_made (spread r.marks)) S.rows) a e) in
      let w = row-told r.0 r.0.node (step_row step.mentioned (step.grows r.0.node)) (sym (step.rows.at_each r.0.node) ∙ has-item_of node_cmp node_cmp_total node_cmp_exact (λ (r : RowMarks). r.node) S.rows r.0 step.rows.rising r.1) in
      let t = made-step step.mentioned (λ t. (Has (cells_of (content D r.0.node)) t.cell → ⊥) × Has (content E r.0.node) t) (step.grows r.0.node) a
      (gained_new (step.grows r.0.node) (distinct_content E (E.rows r.0.node) (x.after.once r.0.node))) (subst (λ l. Has (cells_made l) a) w.0 r.2) in
      (r.0.node, (λ h. t.1.0 (subst (Has (cells_of (content D r.0.node))) (sym t.2) h)), in_document E x.after r.0.node a (subst (Has (cells_of (content E r.0.node))) t.2 (map-has (λ (s : Slot). s.cell) (content E r.0.node) t.0 t.1.1)))

  none_again : (k : FieldId) → MadeAgain (listing_before_change C) (listing_before_step S) k → ⊥
  none_again k (node_again n made named) = nodes_of_change_old D E N C S x f g emb step n made named
  none_again k (cell_again c q r made named w) =
      let s = step_made c made in
      elim (change_cell q c named) [
        | inl h ↦ (
            let same : q ≡ s.0 = node_in (sym (row_later D E N x f c q h) ∙ s.2) in
            let o = (x.before.one_row c q).0 h in
            s.1 (subst (λ y. Has (cells_of (content D y)) c) same (map-has (λ (s : Slot). s.cell) (content D q) (slot D (owned_cell c o.0)) (map-has (slot D) (D.rows q) (owned_cell c o.0) o.1))))
        | inr h ↦ no_row c s.0 s.2 (g.fresh_cells c h)
      ]

  none_again_back : (k : FieldId) → MadeAgain (listing_before_step S) (listing_before_change C) k → ⊥
  none_again_back k (node_again n made named) = nodes_of_step_old D E N C S x f g emb step n made named
  none_again_back k (cell_again c q r made named w) = no_row c q (step_cell_there q c named) (g.fresh_cells c (change_made c made))

  -- a change and a step that stand over one document agree
  pub agree_over : Agrees (RebaseClash C S)
  agree_over k (inl w) = beside_agree D E N C S x.before emb step k w
  agree_over k (inr (inl w)) = none_again k w
  agree_over k (inr (inr (inl w))) = none_again_back k w
  agree_over k (inr (inr (inr (broken bad)))) = bad (
    D.schemas,
    E.schemas,
    record { in_effect = x.before.in_effect; base = based; fresh = fresh_by D.schemas f.fresh_schema },
    record { before_in_effect = x.before.in_effect; after_in_effect = x.after.in_effect; step = step.schema },
    fresh_by E.schemas g.fresh_schema,
  )
    where
      based : IsTrue C.base ↔ HasBase D.schemas C.schema C.under
      based = subst (λ o. IsTrue C.base ↔ HasBase D.schemas o C.under) (sym emb.schema) (subst (λ u. IsTrue C.base ↔ HasBase D.schemas N.schema u) (sym emb.under) emb.base)

      fresh_by : (entries : List SchemaEntry) → IfSome N.schema (λ _. AllByRecursion (λ (e : SchemaEntry). e.rev ≢ N.rev) entries) → IfSome C.schema (λ _. AllByRecursion (λ (e : SchemaEntry). e.rev ≢ C.rev) entries)
      fresh_by entries h = subst (λ o. IfSome o (λ _. AllByRecursion (λ (e : SchemaEntry). e.rev ≢ C.rev) entries)) (sym emb.schema) (subst (λ v. IfSome N.schema (λ _. AllByRecursion (λ (e : SchemaEntry). e.rev ≢ v) entries)) (sym emb.rev) h)
