-- The change of an intent lists names of the document and new names alone, and so can be told.
use Rattle.std.proofs.Common.{◌≡◌, ◌++◌, ◌||◌, ◌<◌, ◌^◌, Bool, true, false, List, [], ◌∷◌, map, Option, None, Some, IsSome, IfSome, cond, refl, sym, ap, ◌∙◌, subst, inl, inr, ℕ}
use Rattle.std.specs.List.{AllByRecursion, list_any}
use Rattle.st_ids.specs.Listing.{Has}
use Rattle.st_ids.specs.Order.{node_cmp, same_node}
use Rattle.st_ids.specs.declared.names.Atom.{Atom}
use Rattle.st_ids.specs.declared.names.CellId.{CellId}
use Rattle.st_ids.specs.declared.names.FieldId.{FieldId}
use Rattle.st_ids.specs.declared.names.NodeId.{NodeId}
use Rattle.st_ids.specs.declared.names.Rev.{Rev}
use Rattle.st_ids.proofs.Listings.{has-item_of}
use Rattle.st_ids.proofs.Orders.{node_cmp_exact, node_cmp_total, same_node-true}
use Rattle.st_marks.specs.declared.changes.Change.{Change}
use Rattle.st_marks.specs.declared.changes.NewNode.{NewNode}
use Rattle.st_marks.specs.declared.intents.Group.{Group}
use Rattle.st_marks.specs.declared.intents.Intent.{Intent}
use Rattle.st_marks.specs.declared.intents.Owned.{Owned}
use Rattle.st_marks.specs.declared.intents.Put.{Put}
use Rattle.st_marks.specs.declared.intents.To.{To}
use Rattle.st_marks.specs.declared.marks.RegMark.{RegMark}
use Rattle.st_marks.specs.declared.marks.RowMarks.{RowMarks}
use Rattle.st_marks.specs.CarryOut.{full}
use Rattle.st_marks.specs.Document.{Document, HasShortRows, IsSoundInForm, content, slot}
use Rattle.st_marks.specs.Embedding.{IsEmbedding, is_among, register_part, row_part, tells}
use Rattle.st_marks.specs.Intent.{Fits, IsKnown, Owns, cell_of, clears, group_at, group_cells, register_of}
use Rattle.st_marks.specs.Register.{holds_mentioned}
use Rattle.st_marks.specs.Row.{RowPart, embed_cells, embed_made, embed_row, merge, spread}
use Rattle.st_marks.proofs.Lookups.{clears-has, group_at-group, put_in-has}
use Rattle.st_marks.proofs.Members.{all-has, any-has, first-has, has-all}
use Rattle.st_marks.proofs.NewRows.{made_listed}
use Rattle.st_puts.proofs.OverDocuments.{embedding_over, held-is, reg-look, row-look}
use Rattle.st_puts.proofs.RegisterRules.{fill-put}
use Rattle.st_normal_laws.proofs.EasyRules.{marks_are_merged}
use Rattle.st_normal_laws.proofs.Lengths.{row-length}
use Rattle.st_normal_laws.proofs.SchemaRules.{schema_embedding_obeys}
use Rattle.st_change_laws.specs.Within.{ChangeIsWithin, ContentIsWithin, DocumentIsWithin, FieldIsWithin, IntentIsWithin, IsSchemaText, KeyIsShort, LooseIsWithin, MarkIsWithin, NewIsWithin, NodeIsWithin, OccupantIsWithin, RegisterIsWithin, RowIsWithin}
use Rattle.st_within_laws.proofs.Documents.{new_within}
use Rattle.st_within_laws.proofs.MarksWithin.{CellIsWithin, merge_within, row_within, slots_within}

module _ (A : Atom → Type 0) (D : Document) (N : Intent) (C : Change) (x : IsSoundInForm D) (d : DocumentIsWithin A D) (i : IntentIsWithin A N) (f : Fits D N) (short : HasShortRows (full D N)) (emb : IsEmbedding D N C) where
  abbrev m : NodeId → Bool
  m = emb.mentioned

  abbrev part : NodeId → RowPart
  part n = row_part m N n

  known : (n : NodeId) → IsKnown D N n → A n.0
  known n (inl h) = new_within A N i n h
  known n (inr h) = d.nodes n h

  -- ## Nodes

  need : AllByRecursion (NodeIsWithin A) C.need
  need = has-all (NodeIsWithin A) C.need (λ n h.
      let e = sym (emb.need.at_each n) ∙ has-item_of node_cmp node_cmp_total node_cmp_exact (λ (k : NodeId). k) C.need n emb.need.rising h in
      let r = any-has (λ k. same_node k n) N.need (said n (is_among N.need n) e) in
      d.nodes n (subst (λ k. IsSome (D.nodes k)) (same_node-true r.0 n r.2) (all-has (λ n. IsSome (D.nodes n)) N.need r.0 f.needs_known r.1)))
    where
      said : (n : NodeId) (b : Bool) → cond b (Some n) None ≡ Some n → b ≡ true
      said n true e = refl
      said n false e = cc

  new : AllByRecursion (NewIsWithin A) C.new
  new = has-all (NewIsWithin A) C.new (λ k h.
      let e = sym (emb.new.at_each k.node) ∙ has-item_of node_cmp node_cmp_total node_cmp_exact (λ (k : NewNode). k.node) C.new k emb.new.rising h in
      all-has (NewIsWithin A) N.new k i.new (first-has (λ (y : NewNode). same_node y.node k.node) N.new k e).0)

  loose : AllByRecursion (LooseIsWithin A) C.loose
  loose = has-all (LooseIsWithin A) C.loose (λ l h. d.nodes l.node ((embedding_over D N C x f emb).loose l h).1)

  -- ## Rows

  made : (n : NodeId) (a : Option CellId) (o : Owned) → Has (group_at N n a) o → A o.cell.0 × A o.node.0
  made n a o h =
      let k = made_listed N n a o h in
      (all-has (λ (o : Owned). A o.cell.0) (group_cells N) o i.cells k, known o.node (all-has (λ (o : Owned). IsKnown D N o.node) (group_cells N) o f.owners_known k))

  old : (n : NodeId) (o : Owned) → Has (D.rows n) o → A o.cell.0 × A o.node.0
  old n o h = (d.cells n o h, d.nodes o.node (x.cells_known n o h).1)

  cells : (n : NodeId) → AllByRecursion (CellIsWithin A) (embed_row (part n) (content D n))
  cells n = row_within A (part n) (made n) (content D n) (slots_within A D (D.rows n) (old n))

  -- a row that tells something has a cell, or one is made in it
  row_node : (n : NodeId) → list_any tells (embed_row (part n) (content D n)) ≡ true → A n.0
  row_node n t = go (group_at N n None) refl (D.rows n) refl t
    where
      go : (g : List Owned) → group_at N n None ≡ g → (os : List Owned) → D.rows n ≡ os → list_any tells (embed_made (part n) g ++ embed_cells (part n) (map (slot D) os)) ≡ true → A n.0
      go [] e [] q t = cc
      go [] e (o ∷ os) q t = d.nodes n (x.cells_known n o (subst (λ l. Has l o) (sym q) (inl refl))).0
      go (o ∷ g) e os q t =
          let k = group_at-group N n None o (subst (λ l. Has l o) (sym e) (inl refl)) in
          known n (subst (IsKnown D N) k.node (all-has (λ (g : Group). IsKnown D N g.node × IfSome g.after (λ c. D.row_of c ≡ Some g.node)) N.groups k.group f.groups_known k.listed).0)

  marks_are : (r : RowMarks) → Has C.rows r → r.marks ≡ merge (embed_row (part r.node) (content D r.node))
  marks_are r h = all-has (λ (r : RowMarks). r.marks ≡ merge (spread r.marks)) C.rows r (marks_are_merged D N C x f emb) h ∙ ap merge (row-look D N C x f emb r h).0

  rows : AllByRecursion (RowIsWithin A) C.rows
  rows = has-all (RowIsWithin A) C.rows (λ r h. (
    row_node r.node (row-look D N C x f emb r h).1,
    subst (AllByRecursion (MarkIsWithin A)) (sym (marks_are r h))
        (merge_within A (embed_row (part r.node) (content D r.node)) (subst (λ k. k < 2 ^ 32) (sym (row-length D N m r.node)) (short r.node)) (cells r.node)),
  ))

  -- ## Registers

  held_here : (r : RegMark) → Has C.regs r → (D.held r.field ≡ r.held) × ((clears N r.field || holds_mentioned m (D.held r.field)) ≡ true)
  held_here r h = held-is D N C x f emb r.field (register_part m N r.field) (D.held r.field) r (reg-look D N C x f emb r h)

  field : (r : RegMark) → Has C.regs r → FieldIsWithin A r.field
  field r h = go (clears N r.field) refl (D.held r.field) refl (held_here r h).1
    where
      go : (b : Bool) → clears N r.field ≡ b → (q : Option NodeId) → D.held r.field ≡ q → (b || holds_mentioned m q) ≡ true → FieldIsWithin A r.field
      go true e q g t =
          let k = clears-has N.clear r.field e in
          (known r.field.node (all-has (λ (g : FieldId). IsKnown D N g.node) N.clear r.field f.clears_known k), all-has KeyIsShort N.clear r.field i.clears k)
      go false e None g t = cc
      go false e (Some n) g t = (d.nodes r.field.node (x.held_known n r.field g).1, d.keys n r.field ((x.one_held n r.field).0 g))

  held : (r : RegMark) → Has C.regs r → OccupantIsWithin A r.held
  held r h = subst (OccupantIsWithin A) (held_here r h).0 (go (D.held r.field) refl)
    where
      go : (q : Option NodeId) → D.held r.field ≡ q → OccupantIsWithin A q
      go None g = tt
      go (Some n) g = d.nodes n (x.held_known n r.field g).0

  fill : (r : RegMark) → Has C.regs r → OccupantIsWithin A r.fill
  fill r h = go r.fill refl
    where
      go : (q : Option NodeId) → r.fill ≡ q → OccupantIsWithin A q
      go None g = tt
      go (Some n) g =
          let k = put_in-has N r.field n (fill-put D N C x f emb r n h g).0 in
          known n (all-has (λ (p : Put). IsKnown D N p.node × IfSome (cell_of p.to) (Owns D N p.node) × IfSome (register_of p.to) (λ f. IsKnown D N f.node)) N.put (record { node = n; to = To.Register r.field }) f.puts_known k).0

  regs : AllByRecursion (RegisterIsWithin A) C.regs
  regs = has-all (RegisterIsWithin A) C.regs (λ r h. (field r h, held r h, fill r h))

  -- ## The change

  content_within : ContentIsWithin A C C.schema
  content_within = subst (ContentIsWithin A C) (sym emb.schema) (go N.schema refl)
    where
      go : (o : Option (List ℕ)) → N.schema ≡ o → ContentIsWithin A C o
      go None s = record { need = need; new = new; rows = rows; regs = regs; loose = loose }
      go (Some t) s =
          let a = (schema_embedding_obeys D N C x f emb t s).alone in
          (subst (λ (o : Option (List ℕ)). IfSome o IsSchemaText) s i.schema, record { need = a.0; new = a.1; rows = a.2; regs = a.3; loose = a.4 })

  pub change_within : (R : Rev → Type 0) → R N.rev → R N.under → ChangeIsWithin R A C
  change_within R r u = record { rev = subst R (sym emb.rev) r; under = subst R (sym emb.under) u; content = content_within }
