-- The names of a change and of a step that stand over one document: neither names what the other makes.
use Rattle.std.proofs.Common.{◌≡◌, Bool, true, false, ◌&&◌, ◌||◌, List, [], ◌∷◌, ◌++◌, Option, Some, None, cond, refl, sym, ap, ◌∙◌, subst, inl, inr, ◌⊎◌, IsSome, IsTrue, IfSome}
use Rattle.std.specs.List.{flat_map, list_any}
use Rattle.st_ids.specs.Listing.{Has}
use Rattle.st_ids.specs.Order.{field_cmp, node_cmp, same_field, same_node}
use Rattle.st_ids.proofs.Orders.{field_cmp_exact, field_cmp_total, node_cmp_exact, node_cmp_total, same_field-true, same_node-true}
use Rattle.st_ids.specs.declared.names.CellId.{CellId}
use Rattle.st_ids.specs.declared.names.FieldId.{FieldId}
use Rattle.st_ids.specs.declared.names.NodeId.{NodeId}
use Rattle.st_marks.specs.declared.changes.Change.{Change}
use Rattle.st_marks.specs.declared.changes.NewNode.{NewNode}
use Rattle.st_marks.specs.declared.intents.Group.{Group}
use Rattle.st_marks.specs.declared.intents.Intent.{Intent}
use Rattle.st_marks.specs.declared.intents.Owned.{Owned}
use Rattle.st_marks.specs.declared.intents.Put.{Put}
use Rattle.st_marks.specs.declared.intents.To.{To}
use Rattle.st_marks.specs.declared.marks.Loose.{Loose}
use Rattle.st_marks.specs.declared.marks.RegMark.{RegMark}
use Rattle.st_marks.specs.declared.marks.RowMarks.{RowMarks}
use Rattle.st_marks.specs.declared.places.Slot.{Slot}
use Rattle.st_marks.specs.Document.{Document, IsSoundInForm, content, owned_cell, slot}
use Rattle.st_marks.specs.Embedding.{IsEmbedding, is_among, register_part, row_part, tells}
use Rattle.st_marks.specs.Intent.{Fits, IsKnown, cell_of, clears, group_at, group_cells, is_new, new_node, put_in, register_of}
use Rattle.st_marks.specs.Register.{comes_in, embed_register, holds_mentioned}
use Rattle.st_marks.specs.Row.{CellMark, Counted, Gap, Touch, Fill, RowPart, embed_cell, embed_cells, embed_made, embed_row, how, spread}
use Rattle.st_marks.specs.How.{is_here}
use Rattle.st_marks.specs.Listings.{names_of_change, nodes_in, nodes_loose, nodes_new, nodes_of_rows, one_or_none}
use Rattle.st_ids.proofs.Listings.{has-item_of}
use Rattle.st_marks.proofs.Lookups.{group_at-group, put_in-has}
use Rattle.st_marks.proofs.Members.{all-has, any-has, flat_map-has, has-append, has-flat_map, has-map}
use Rattle.st_puts.proofs.OverDocuments.{climb-known, row-told}

pub among-has : (ns : List NodeId) (n : NodeId) → is_among ns n ≡ true → Has ns n
among-has ns n e = let r = any-has (λ k. same_node k n) ns e in subst (Has ns) (same_node-true r.0 n r.2) r.1

-- ## What the marks of a row name

-- a slot of the row, or a cell that is made in it
abbrev IsOfRow : RowPart → List Slot → (Owned → Type 0) → Type 0
IsOfRow p c P = ((s : Slot) × Has c s × P (owned_cell s.cell s.node)) ⊎ ((a : Option CellId) × (o : Owned) × Has (p.new_cells a) o × P o)

module _ (p : RowPart) (P : Owned → Type 0) where
  later : (s : Slot) (c : List Slot) → IsOfRow p c P → IsOfRow p (s ∷ c) P
  later s c (inl r) = inl (r.0, inr r.1, r.2)
  later s c (inr r) = inr r

-- the nodes that the marks name own cells that are there or made
module _ (p : RowPart) (n : NodeId) where
  nodes-made : (c : List Slot) (a : Option CellId) (os : List Owned) (xs : List CellMark) → ((o : Owned) → Has os o → Has (p.new_cells a) o) → Has (nodes_in (embed_made p os ++ xs)) n → (Has (nodes_in xs) n → IsOfRow p c (λ o. o.node ≡ n)) → IsOfRow p c (λ o. o.node ≡ n)
  nodes-made c a [] xs sub h rest = rest h
  nodes-made c a (o ∷ os) xs sub (inl e) rest = inr (a, o, sub o (inl refl), e)
  nodes-made c a (o ∷ os) xs sub (inr h) rest = nodes-made c a os xs (λ q i. sub q (inr i)) h rest

  nodes-cell : (s : Slot) (c : List Slot) (b : Bool) (xs : List CellMark) → Has (nodes_in (embed_cell p s.cell s.node b ∷ xs)) n → (Has (nodes_in xs) n → IsOfRow p (s ∷ c) (λ o. o.node ≡ n)) → IsOfRow p (s ∷ c) (λ o. o.node ≡ n)
  nodes-cell s c true xs h rest = elim (p.mentioned s.node) as (λ z. Has (nodes_in (cond z (Touch s.cell s.node (how (p.target_of s.node) (To.Cell s.cell))) Counted ∷ xs)) n → IsOfRow p (s ∷ c) (λ o. o.node ≡ n)) [
    | true ↦ (λ i. elim i [ inl e ↦ inl (s, inl refl, e) | inr j ↦ rest j ])
    | false ↦ (λ i. rest i)
  ] h
  nodes-cell s c false xs h rest = elim (is_here (how (p.target_of s.node) (To.Cell s.cell))) as (λ z. Has (nodes_in (cond z (Fill s.cell s.node) (Gap s.cell) ∷ xs)) n → IsOfRow p (s ∷ c) (λ o. o.node ≡ n)) [
    | true ↦ (λ i. elim i [ inl e ↦ inl (s, inl refl, e) | inr j ↦ rest j ])
    | false ↦ (λ i. rest i)
  ] h

  nodes-cells : (c : List Slot) → Has (nodes_in (embed_cells p c)) n → IsOfRow p c (λ o. o.node ≡ n)
  nodes-cells [] h = absurd h
  nodes-cells (s ∷ c) h = nodes-cell s c s.full (embed_made p (p.new_cells (Some s.cell)) ++ embed_cells p c) h (λ i. nodes-made (s ∷ c) (Some s.cell) (p.new_cells (Some s.cell)) (embed_cells p c) (λ o j. j) i (λ j. later p (λ o. o.node ≡ n) s c (nodes-cells c j)))

  pub nodes-row : (c : List Slot) → Has (nodes_in (embed_row p c)) n → IsOfRow p c (λ o. o.node ≡ n)
  nodes-row c h = nodes-made c None (p.new_cells None) (embed_cells p c) (λ o j. j) h (λ i. nodes-cells c i)

-- a row that tells something has a cell, or one is made in it
pub tells_some : (p : RowPart) (c : List Slot) → list_any tells (embed_row p c) ≡ true → IsOfRow p c (λ o. Unit {0})
tells_some p (s ∷ c) e = inl (s, inl refl, tt)
tells_some p [] e = go (p.new_cells None) refl e
  where
    go : (os : List Owned) → p.new_cells None ≡ os → list_any tells (embed_made p os ++ []) ≡ true → IsOfRow p [] (λ o. Unit {0})
    go [] f q = cc
    go (o ∷ os) f q = inr (None, o, subst (λ l. Has l o) (sym f) (inl refl), tt)

-- ## The nodes that a change names are known

module _ (D : Document) (N : Intent) (C : Change) (x : IsSoundInForm D) (f : Fits D N) (emb : IsEmbedding D N C) where
  old_known : (n : NodeId) → IsSome (D.nodes n) → IsKnown D N n
  old_known n h = inr h

  made_known : (r : NodeId) (a : Option CellId) (o : Owned) → Has (group_at N r a) o → IsKnown D N r × IsKnown D N o.node
  made_known r a o h =
      let g = group_at-group N r a o h in (
        subst (IsKnown D N) g.node (all-has (λ (k : Group). IsKnown D N k.node × IfSome k.after (λ c. D.row_of c ≡ Some k.node)) N.groups g.group f.groups_known g.listed).0,
        all-has (λ (q : Owned). IsKnown D N q.node) (group_cells N) o f.owners_known (flat_map-has (λ (k : Group). k.cells) N.groups g.group o g.listed g.cell),
      )

  slot_known : (r : NodeId) (s : Slot) → Has (content D r) s → IsSome (D.nodes r) × IsSome (D.nodes s.node)
  slot_known r s h = let o = has-map (slot D) (D.rows r) s h in let k = x.cells_known r o.0 o.1 in (k.0, subst (λ (t : Slot). IsSome (D.nodes t.node)) o.2 k.1)

  of_row_known : (r : NodeId) (m : NodeId → Bool) (P : Owned → Type 0) (n : NodeId) → IsOfRow (row_part m N r) (content D r) P → ((o : Owned) → P o → o.node ≡ n) → IsKnown D N n
  of_row_known r m P n (inl w) h = inr (subst (λ k. IsSome (D.nodes k)) (h _ w.2) (slot_known r w.0 w.1).1)
  of_row_known r m P n (inr w) h = subst (IsKnown D N) (h w.1 w.3) (made_known r w.0 w.1 w.2).1

  row_known : (r : NodeId) (m : NodeId → Bool) → IsOfRow (row_part m N r) (content D r) (λ o. Unit {0}) → IsKnown D N r
  row_known r m (inl w) = inr (slot_known r w.0 w.1).0
  row_known r m (inr w) = (made_known r w.0 w.1 w.2).0

  -- a listed row
  row_of_change : (r : RowMarks) → Has C.rows r → (spread r.marks ≡ embed_row (row_part emb.mentioned N r.node) (content D r.node)) × (list_any tells (embed_row (row_part emb.mentioned N r.node) (content D r.node)) ≡ true)
  row_of_change r h = row-told r r.node (embed_row (row_part emb.mentioned N r.node) (content D r.node)) (sym (emb.rows.at_each r.node) ∙ has-item_of node_cmp node_cmp_total node_cmp_exact (λ (r : RowMarks). r.node) C.rows r emb.rows.rising h)

  rows_known : (n : NodeId) → Has (nodes_of_rows C.rows) n → IsKnown D N n
  rows_known n h = let r = has-flat_map (λ (r : RowMarks). r.node ∷ nodes_in (spread r.marks)) C.rows n h in let w = row_of_change r.0 r.1 in elim r.2 [
    | inl e ↦ subst (IsKnown D N) e (row_known r.0.node emb.mentioned (tells_some (row_part emb.mentioned N r.0.node) (content D r.0.node) w.1))
    | inr i ↦ of_row_known r.0.node emb.mentioned (λ o. o.node ≡ n) n (nodes-row (row_part emb.mentioned N r.0.node) n (content D r.0.node) (subst (λ l. Has (nodes_in l) n) w.0 i)) (λ o e. e)
  ]

  reg_of_change : (r : RegMark) → Has C.regs r → (r.held ≡ D.held r.field) × (r.fill ≡ comes_in (D.held r.field) (put_in N r.field)) × ((clears N r.field || holds_mentioned emb.mentioned (D.held r.field)) ≡ true)
  reg_of_change r h = reg_listed r.field (register_part emb.mentioned N r.field) (D.held r.field) r (sym (emb.regs.at_each r.field) ∙ has-item_of field_cmp field_cmp_total field_cmp_exact (λ (r : RegMark). r.field) C.regs r emb.regs.rising h)
    where
      reg_listed : (k : FieldId) (p : Rattle.st_marks.specs.Register.RegisterPart) (o : Option NodeId) (r : RegMark) → embed_register k p o ≡ Some r → (r.held ≡ o) × (r.fill ≡ comes_in o p.fill) × ((p.clear || holds_mentioned p.mentioned o) ≡ true)
      reg_listed k p o r q = go (p.clear || holds_mentioned p.mentioned o) refl
        where
          abbrev_mark : RegMark
          abbrev_mark = record { field = k; held = o; how = Rattle.st_marks.specs.Register.how_held k p o; clear = p.clear; fill = comes_in o p.fill }

          go : (b : Bool) → (p.clear || holds_mentioned p.mentioned o) ≡ b → (r.held ≡ o) × (r.fill ≡ comes_in o p.fill) × (b ≡ true)
          go true e = (
            ap (at_held o) (sym q ∙ ap (λ b. cond b (Some (record { field = k; held = o; how = Rattle.st_marks.specs.Register.how_held k p o; clear = p.clear; fill = comes_in o p.fill })) None) e),
            ap (at_fill (comes_in o p.fill)) (sym q ∙ ap (λ b. cond b (Some (record { field = k; held = o; how = Rattle.st_marks.specs.Register.how_held k p o; clear = p.clear; fill = comes_in o p.fill })) None) e),
            refl,
          )
            where
              at_held : Option NodeId → Option RegMark → Option NodeId
              at_held d None = d
              at_held d (Some z) = z.held

              at_fill : Option NodeId → Option RegMark → Option NodeId
              at_fill d None = d
              at_fill d (Some z) = z.fill
          go false e = let z : None ≡ Some r = ap (λ b. cond b (Some (record { field = k; held = o; how = Rattle.st_marks.specs.Register.how_held k p o; clear = p.clear; fill = comes_in o p.fill })) None) (sym e) ∙ q in cc

  field_known : (k : FieldId) → (clears N k || holds_mentioned emb.mentioned (D.held k)) ≡ true → IsKnown D N k.node
  field_known k e = go (clears N k) refl (D.held k) refl e
    where
      go : (b : Bool) → clears N k ≡ b → (o : Option NodeId) → D.held k ≡ o → (b || holds_mentioned emb.mentioned o) ≡ true → IsKnown D N k.node
      go true p o q e = let r = any-has (λ g. same_field g k) N.clear p in subst (λ (g : FieldId). IsKnown D N g.node) (same_field-true r.0 k r.2) (all-has (λ (g : FieldId). IsKnown D N g.node) N.clear r.0 f.clears_known r.1)
      go false p None q e = cc
      go false p (Some n) q e = inr (x.held_known n k q).1

  fill_known : (k : FieldId) (n : NodeId) → put_in N k ≡ Some n → IsKnown D N n
  fill_known k n e = (all-has (λ (p : Put). IsKnown D N p.node × IfSome (cell_of p.to) (Rattle.st_marks.specs.Intent.Owns D N p.node) × IfSome (register_of p.to) (λ g. IsKnown D N g.node)) N.put (record { node = n; to = To.Register k }) f.puts_known (put_in-has N k n e)).0

  one-has : (o : Option NodeId) (n : NodeId) → Has (one_or_none o) n → o ≡ Some n
  one-has None n h = absurd h
  one-has (Some k) n (inl e) = ap (λ y. Some y) e
  one-has (Some k) n (inr h) = absurd h

  comes-some : (o p : Option NodeId) (n : NodeId) → comes_in o p ≡ Some n → p ≡ Some n
  comes-some o p n e = go (Rattle.st_marks.specs.Intent.same_option same_node o p) e
    where
      go : (b : Bool) → cond b None p ≡ Some n → p ≡ Some n
      go true q = cc
      go false q = q

  regs_known : (n : NodeId) → Has (flat_map (λ (r : RegMark). r.field.node ∷ (one_or_none r.held ++ one_or_none r.fill)) C.regs) n → IsKnown D N n
  regs_known n h = let r = has-flat_map (λ (r : RegMark). r.field.node ∷ (one_or_none r.held ++ one_or_none r.fill)) C.regs n h in let w = reg_of_change r.0 r.1 in elim r.2 [
    | inl e ↦ subst (IsKnown D N) e (field_known r.0.field w.2)
    | inr i ↦ elim (has-append (one_or_none r.0.held) (one_or_none r.0.fill) n i) [
      | inl j ↦ inr (x.held_known n r.0.field (sym w.0 ∙ one-has r.0.held n j)).0
      | inr j ↦ fill_known r.0.field n (comes-some (D.held r.0.field) (put_in N r.0.field) n (sym w.1 ∙ one-has r.0.fill n j))
    ]
  ]

  loose_known : (n : NodeId) → Has (nodes_loose C.loose) n → IsKnown D N n
  loose_known n h =
      let o = has-map (λ (l : Loose). l.node) C.loose n h in
      let found = sym (emb.loose.at_each o.0.node) ∙ has-item_of node_cmp node_cmp_total node_cmp_exact (λ (l : Loose). l.node) C.loose o.0 emb.loose.rising o.1 in
      let k = (emb.which o.0.node).0 (said (emb.mentioned o.0.node) _ _ _ _ found) in
      inr (subst (λ y. IsSome (D.nodes y)) o.2 (climb-known D x k.3 k.0 o.0.node k.2 k.4))
    where
      said : (a b c : Bool) (l r : Loose) → cond (a && b && c) (Some l) None ≡ Some r → a ≡ true
      said true b c l r e = refl
      said false b c l r e = cc

  new_said : (n : NodeId) → Has (nodes_new C.new) n → is_new N n ≡ true
  new_said n h =
      let o = has-map (λ (k : NewNode). k.node) C.new n h in
      let found = sym (emb.new.at_each o.0.node) ∙ has-item_of node_cmp node_cmp_total node_cmp_exact (λ (k : NewNode). k.node) C.new o.0 emb.new.rising o.1 in
      subst (λ y. is_new N y ≡ true) o.2 (said o.0.node o.0 found)
    where
      said : (y : NodeId) (k : NewNode) → new_node N y ≡ Some k → is_new N y ≡ true
      said y k e = rw e refl

  need_known : (n : NodeId) → Has C.need n → IsKnown D N n
  need_known n h =
      let found = sym (emb.need.at_each n) ∙ has-item_of node_cmp node_cmp_total node_cmp_exact (λ (k : NodeId). k) C.need n emb.need.rising h in
      inr (all-has (λ k. IsSome (D.nodes k)) N.need n f.needs_known (among-has N.need n (said (is_among N.need n) found)))
    where
      said : (b : Bool) → cond b (Some n) None ≡ Some n → b ≡ true
      said true e = refl
      said false e = cc

  abbrev in_regs : List NodeId
  in_regs = flat_map (λ (r : RegMark). r.field.node ∷ (one_or_none r.held ++ one_or_none r.fill)) C.regs

  named_known : (n : NodeId) → Has (C.need ++ nodes_new C.new ++ nodes_of_rows C.rows ++ in_regs ++ nodes_loose C.loose) n → IsKnown D N n
  named_known n h = elim (has-append (C.need ++ nodes_new C.new ++ nodes_of_rows C.rows ++ in_regs) (nodes_loose C.loose) n h) [
    | inr k ↦ loose_known n k
    | inl i ↦ elim (has-append (C.need ++ nodes_new C.new ++ nodes_of_rows C.rows) in_regs n i) [
      | inr k ↦ regs_known n k
      | inl j ↦ elim (has-append (C.need ++ nodes_new C.new) (nodes_of_rows C.rows) n j) [
        | inr k ↦ rows_known n k
        | inl l ↦ elim (has-append C.need (nodes_new C.new) n l) [ inl k ↦ need_known n k | inr k ↦ inl (new_said n k) ]
      ]
    ]
  ]

  -- each node that the change names is new or the document has it
  pub change_names_known : (n : NodeId) → IsTrue ((names_of_change C).names_node n) → IsKnown D N n
  change_names_known n e = named_known n (among-has (C.need ++ nodes_new C.new ++ nodes_of_rows C.rows ++ in_regs ++ nodes_loose C.loose) n e)

  -- and those that it makes are new
  pub change_makes_new : (n : NodeId) → IsTrue ((names_of_change C).makes_node n) → is_new N n ≡ true
  change_makes_new n e = new_said n (among-has (nodes_new C.new) n e)
