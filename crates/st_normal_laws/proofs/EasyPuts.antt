-- The easy half, in part: who is put is new or leaves, the root stays, and filled cells are of old nodes.
use Rattle.std.proofs.Common.{◌≡◌, ◌≢◌, ◌++◌, ◌&&◌, zero, Bool, true, false, not, List, [], ◌∷◌, map, Option, Some, None, IfSome, cond, refl, sym, ap, ◌∙◌, subst, inl, inr, ◌⊎◌, option_and_then}
use Rattle.std.specs.List.{filter_map, flat_map}
use Rattle.st_ids.specs.Listing.{Has}
use Rattle.st_ids.specs.Order.{same_node}
use Rattle.st_ids.proofs.Orders.{same_node-itself}
use Rattle.st_ids.specs.declared.names.CellId.{CellId}
use Rattle.st_ids.specs.declared.names.FieldId.{FieldId}
use Rattle.st_ids.specs.declared.names.NodeId.{NodeId}
use Rattle.st_marks.specs.declared.changes.Change.{Change}
use Rattle.st_marks.specs.declared.intents.Group.{Group}
use Rattle.st_marks.specs.declared.intents.Intent.{Intent}
use Rattle.st_marks.specs.declared.intents.Owned.{Owned}
use Rattle.st_marks.specs.declared.intents.To.{To}
use Rattle.st_normal.specs.declared.entries.Found.{Found}
use Rattle.st_marks.specs.declared.marks.How.{How}
use Rattle.st_marks.specs.declared.marks.RowMarks.{RowMarks}
use Rattle.st_marks.specs.declared.places.Slot.{Slot}
use Rattle.st_marks.specs.declared.places.Spot.{Spot}
use Rattle.st_marks.specs.Document.{Document, IsSoundInForm, content, slot}
use Rattle.st_ids.specs.Root.{root}
use Rattle.st_marks.specs.Embedding.{IsEmbedding, is_nowhere, row_part, register_part}
use Rattle.st_marks.specs.Intent.{Fits, group_at, IsKnown, cell_of, put_of}
use Rattle.st_marks.specs.Register.{how_held}
use Rattle.st_marks.specs.Row.{CellMark, Counted, Gap, Touch, Fill, RowPart, embed_cell, embed_cells, embed_made, embed_row, how, spread, same_to}
use Rattle.st_marks.specs.How.{is_here}
use Rattle.st_normal.specs.Rules.{Entries, in_rows, entries_of_change, IsFoundAs, PutNodesLeave, RootStays, incoming_nodes, put_at}
use Rattle.st_marks.proofs.Lookups.{group_at-group, made_there, put-has, has-put, put_in-has}
use Rattle.st_marks.proofs.Members.{all-has, append_left, has-append, map-has, has-map, flat_map-has, has-flat_map, has-all}
use Rattle.st_puts.specs.Meant.{IsOver}
use Rattle.st_marks.specs.declared.intents.Put.{Put}
use Rattle.st_puts.proofs.FoundPlaces.{PlacedAs, as_row, as_held, as_loose, found_placed}
use Rattle.st_puts.proofs.OverDocuments.{embedding_over, mentioned-found, row-look, loose-is, loose-look, parts}
use Rattle.st_puts.proofs.PutsOfIntents.{is_here-put}
use Rattle.st_marks.proofs.Shared.{same_to-true}
use Rattle.st_marks.specs.declared.marks.How.TheVariants.{Here, Leave}
use Rattle.st_puts.proofs.FoundOnce.{has-new}
use Rattle.st_puts.proofs.RegisterRules.{fill-put, how_is}
use Rattle.st_puts.proofs.StayingNodes.{loose-how, touch-row}
use Rattle.st_puts.proofs.Basics.{not-true, one-is, register-not-nowhere, row-not-nowhere}
use Rattle.st_lemmas.proofs.Bools.{true-false}

-- who comes into a cell is put there; the cell is made, or empty
abbrev ComesTo : RowPart → List Slot → NodeId → CellId → Type 0
ComesTo p c n d = (p.target_of n ≡ Some (To.Cell d)) × (((a : Option CellId) × Has (p.new_cells a) (record { cell = d; node = n })) ⊎ Has c (record { cell = d; node = n; full = false }))

further : (p : RowPart) (s : Slot) (c : List Slot) (n : NodeId) → ((d : CellId) × ComesTo p c n d) → (d : CellId) × ComesTo p (s ∷ c) n d
further p s c n r = (r.0, (r.1.0, elim r.1.1 [ inl a ↦ inl a | inr h ↦ inr (inr h) ]))

made-incoming : (p : RowPart) (c : List Slot) (a : Option CellId) (os : List Owned) (ms : List CellMark) (n : NodeId) → ((o : Owned) → Has os o → Has (p.new_cells a) o) → Has (incoming_nodes (embed_made p os ++ ms)) n → (Has (incoming_nodes ms) n → (d : CellId) × ComesTo p c n d) → (d : CellId) × ComesTo p c n d
made-incoming p c a [] ms n sub h rest = rest h
made-incoming p c a (o ∷ os) ms n sub h rest = go (is_here (how (p.target_of o.node) (To.Cell o.cell))) refl h (λ i. made-incoming p c a os ms n (λ q j. sub q (inr j)) i rest)
  where
    go : (b : Bool) → is_here (how (p.target_of o.node) (To.Cell o.cell)) ≡ b → Has (cond b (o.node ∷ []) [] ++ incoming_nodes (embed_made p os ++ ms)) n → (Has (incoming_nodes (embed_made p os ++ ms)) n → (d : CellId) × ComesTo p c n d) → (d : CellId) × ComesTo p c n d
    go false e i more = more i
    go true e (inl q) more = (o.cell, (ap p.target_of (sym q) ∙ is_here-put (p.target_of o.node) (To.Cell o.cell) e, inl (a, subst (λ n. Has (p.new_cells a) (record { cell = o.cell; node = n })) q (sub o (inl refl)))))
    go true e (inr i) more = more i

cells-incoming : (p : RowPart) (c : List Slot) (n : NodeId) → Has (incoming_nodes (embed_cells p c)) n → (d : CellId) × ComesTo p c n d
cells-incoming p [] n h = absurd h
cells-incoming p (s ∷ c) n h = go s.full refl h (λ i. further p s c n (cells-incoming p c n i))
  where
    rest : Has (incoming_nodes (embed_made p (p.new_cells (Some s.cell)) ++ embed_cells p c)) n → (Has (incoming_nodes (embed_cells p c)) n → (d : CellId) × ComesTo p (s ∷ c) n d) → (d : CellId) × ComesTo p (s ∷ c) n d
    rest i more = made-incoming p (s ∷ c) (Some s.cell) (p.new_cells (Some s.cell)) (embed_cells p c) n (λ o j. j) i more

    go : (b : Bool) → s.full ≡ b → Has (incoming_nodes (embed_cell p s.cell s.node b ∷ (embed_made p (p.new_cells (Some s.cell)) ++ embed_cells p c))) n → (Has (incoming_nodes (embed_cells p c)) n → (d : CellId) × ComesTo p (s ∷ c) n d) → (d : CellId) × ComesTo p (s ∷ c) n d
    go true e i more = full (p.mentioned s.node) i
      where
        full : (z : Bool) → Has (incoming_nodes (cond z (Touch s.cell s.node (how (p.target_of s.node) (To.Cell s.cell))) Counted ∷ (embed_made p (p.new_cells (Some s.cell)) ++ embed_cells p c))) n → (d : CellId) × ComesTo p (s ∷ c) n d
        full true i = rest i more
        full false i = rest i more
    go false e i more = empty (is_here (how (p.target_of s.node) (To.Cell s.cell))) refl i
      where
        empty : (z : Bool) → is_here (how (p.target_of s.node) (To.Cell s.cell)) ≡ z → Has (incoming_nodes (cond z (Fill s.cell s.node) (Gap s.cell) ∷ (embed_made p (p.new_cells (Some s.cell)) ++ embed_cells p c))) n → (d : CellId) × ComesTo p (s ∷ c) n d
        empty true g (inl q) = (s.cell, (ap p.target_of (sym q) ∙ is_here-put (p.target_of s.node) (To.Cell s.cell) g, inr (inl (λ i. record { cell = s.cell; node = q i; full = e i }))))
        empty true g (inr i) = rest i more
        empty false g i = rest i more

pub row-incoming : (p : RowPart) (c : List Slot) (n : NodeId) → Has (incoming_nodes (embed_row p c)) n → (d : CellId) × ComesTo p c n d
row-incoming p c n h = made-incoming p c None (p.new_cells None) (embed_cells p c) n (λ o j. j) h (λ i. cells-incoming p c n i)

leave-is : (o : Option To) (t u : To) → o ≡ Some t → (t ≢ u) → how o u ≡ Leave
leave-is o t u e apart = ap (λ o. how o u) e ∙ go (same_to t u) refl
  where
    go : (b : Bool) → same_to t u ≡ b → cond b Here Leave ≡ Leave
    go true q = absurd (apart (same_to-true t u q))
    go false q = refl

module _ (D : Document) (N : Intent) (C : Change) (x : IsSoundInForm D) (f : Fits D N) (emb : IsEmbedding D N C) where
  abbrev L : Entries
  L = entries_of_change C

  abbrev m : NodeId → Bool
  m = emb.mentioned

  o : IsOver D C
  o = embedding_over D N C x f emb

  -- where one that is put comes: a place where it doesn't stand
  abbrev ComesElsewhere : NodeId → Type 0
  ComesElsewhere n = (t : To) × (put_of N n ≡ Some t) × ((c : CellId) (r : NodeId) → D.place n ≡ Spot.Row r c → t ≢ To.Cell c) × ((k : FieldId) → D.held k ≡ Some n → t ≢ To.Register k) × (t ≢ To.Nowhere)

  comes : (n : NodeId) → Has L.put n → ComesElsewhere n
  comes n h = elim (has-append (in_rows incoming_nodes C.rows) (flat_map put_at C.regs) n h) [
    | inl i ↦ (let r = has-flat_map (λ (r : RowMarks). incoming_nodes (spread r.marks)) C.rows n i in
        let w = row-incoming (row_part m N r.0.node) (content D r.0.node) n (subst (λ ms. Has (incoming_nodes ms) n) (row-look D N C x f emb r.0 r.1).0 r.2) in
        (To.Cell w.0, w.1.0, λ c k p e. in_cell r.0.node w.0 w.1.1 c k p (same-cell w.0 c e), λ k p e. cell-register w.0 k e, λ e. cell-nowhere w.0 e))
    | inr i ↦ (let r = has-flat_map put_at C.regs n i in let e = one-is r.0.fill n r.2 in let w = fill-put D N C x f emb r.0 n r.1 e in (
      To.Register r.0.field,
      has-put N f.itself (record { node = n; to = To.Register r.0.field }) (put_in-has N r.0.field n w.0),
      λ c k p g. register-cell r.0.field c g,
      λ k p g. w.1 (sym p ∙ ap D.held (sym (same-register r.0.field k g)) ∙ o.held r.0 r.1),
      λ g. stays-held r.0.field g,
    ))
  ]
    where
      same-cell : (a b : CellId) → To.Cell a ≡ To.Cell b → a ≡ b
      same-cell a b e = cc

      same-register : (a b : FieldId) → To.Register a ≡ To.Register b → a ≡ b
      same-register a b e = cc

      cell-register : (a : CellId) (b : FieldId) → To.Cell a ≡ To.Register b → ⊥
      cell-register a b e = cc

      register-cell : (b : FieldId) (a : CellId) → To.Register b ≡ To.Cell a → ⊥
      register-cell b a e = cc

      cell-nowhere : (a : CellId) → To.Cell a ≡ To.Nowhere → ⊥
      cell-nowhere a e = cc

      stays-held : (b : FieldId) → To.Register b ≡ To.Nowhere → ⊥
      stays-held b e = cc

      in_cell : (r : NodeId) (d : CellId) → (((a : Option CellId) × Has (group_at N r a) (record { cell = d; node = n })) ⊎ Has (content D r) (record { cell = d; node = n; full = false })) → (c : CellId) (k : NodeId) → D.place n ≡ Spot.Row k c → d ≡ c → ⊥
      in_cell r d (inl a) c k p e =
          let g = group_at-group N r a.0 (record { cell = d; node = n }) a.1 in
          let fresh = f.fresh_cells d (made_there N (record { cell = d; node = n }) (flat_map-has (λ (k : Group). k.cells) N.groups g.group (record { cell = d; node = n }) g.listed g.cell)) in
          let row = (x.one_row c k).1 (n, x.own_cell n k c p) in
          let bad : None ≡ Some k = sym fresh ∙ ap D.row_of e ∙ row in cc
      in_cell r d (inr h) c k p e =
          let s = has-map (slot D) (D.rows r) (record { cell = d; node = n; full = false }) h in
          let full : Rattle.st_marks.specs.Document.is_cell s.0.cell (D.place s.0.node) ≡ false = ap (λ (s : Slot). s.full) s.2 in
          let same : Rattle.st_marks.specs.Document.is_cell s.0.cell (D.place s.0.node) ≡ true = (λ i. Rattle.st_marks.specs.Document.is_cell ((ap (λ (s : Slot). s.cell) s.2 ∙ e) i) (D.place ((s.2 i).node))) ∙ ap (Rattle.st_marks.specs.Document.is_cell c) p ∙ Rattle.st_ids.proofs.Orders.same_cell-itself c in
          true-false same full

  pub root_stays : RootStays L
  root_stays = (
    λ h. (let g = has-map (λ (g : Found). g.node) L.found root h in found-root g.0.how (subst (λ n. PlacedAs D C n g.0.how) g.2 (found_placed D C x o g.0 g.1))),
    λ h. (let w = comes root h in let bad : None ≡ Some w.0 = sym f.itself.root_stays ∙ w.1 in cc),
  )
    where
      found-root : (h : How) → PlacedAs D C root h → ⊥
      found-root h (as_row r c i j p) = row-not-nowhere r.node c (sym p ∙ x.root_nowhere)
      found-root h (as_held r i e g p) = register-not-nowhere r.field (sym p ∙ x.root_nowhere)
      found-root h (as_loose l i e g p k) =
          let q = parts D N C x f emb (m l.node && is_nowhere (D.place l.node)) (not (same_node l.node root)) (loose-is D N C x f emb l.node l (loose-look D N C x f emb l i)) in
          not-true (same_node l.node root) q.1 (ap (λ n. same_node n root) e ∙ same_node-itself root)

  -- who is put and found leaves
  leaves : (n : NodeId) → ComesElsewhere n → (h : How) → PlacedAs D C n h → h ≡ Leave
  leaves n w h (as_row r c i j p) =
      let t = touch-row (row_part m N r.node) (content D r.node) c n h (subst (λ ms. Has ms (Touch c n h)) (row-look D N C x f emb r i).0 j) in
      sym t.1 ∙ leave-is (put_of N n) w.0 (To.Cell c) w.1 (w.2 c r.node p)
  leaves n w h (as_held r i e g p) = sym g ∙ sym (how_is D N C x f emb r i) ∙ ap (how_held r.field (register_part m N r.field)) e ∙ leave-is (put_of N n) w.0 (To.Register r.field) w.1 (w.3 r.field (o.held r i ∙ e))
  leaves n w h (as_loose l i e g p k) = sym g ∙ sym (loose-how D N C x f emb l.node l (loose-look D N C x f emb l i)) ∙ ap (λ k. how (put_of N k) To.Nowhere) e ∙ leave-is (put_of N n) w.0 To.Nowhere w.1 w.4

  pub put_nodes_leave : PutNodesLeave L
  put_nodes_leave = has-all (λ n. Has L.new n ⊎ IsFoundAs L n Leave) L.put (λ n h. let w = comes n h in
      let p : Put = record { node = n; to = w.0 } in
      let i = put-has N n w.0 w.1 in
      known n h w i (all-has (λ (p : Put). IsKnown D N p.node × IfSome (cell_of p.to) (Rattle.st_marks.specs.Intent.Owns D N p.node) × IfSome (Rattle.st_marks.specs.Intent.register_of p.to) (λ k. IsKnown D N k.node)) N.put p f.puts_known i).0)
    where
      known : (n : NodeId) → Has L.put n → (w : ComesElsewhere n) → Has N.put (record { node = n; to = w.0 }) → IsKnown D N n → Has L.new n ⊎ IsFoundAs L n Leave
      known n h w i (inl e) = inl (has-new D N C x f emb n e)
      known n h w i (inr k) =
          let named = append_left (map (λ (p : Put). p.node) N.put ++ N.need ++ map (λ (g : Group). g.node) N.groups ++ filter_map (λ (p : Put). option_and_then D.row_of (cell_of p.to)) N.put) (map (λ (k : FieldId). k.node) N.clear) n
          (append_left (map (λ (p : Put). p.node) N.put ++ N.need ++ map (λ (g : Group). g.node) N.groups) (filter_map (λ (p : Put). option_and_then D.row_of (cell_of p.to)) N.put) n
          (append_left (map (λ (p : Put). p.node) N.put ++ N.need) (map (λ (g : Group). g.node) N.groups) n (append_left (map (λ (p : Put). p.node) N.put) N.need n (map-has (λ (p : Put). p.node) N.put (record { node = n; to = w.0 }) i)))) in
          elim (mentioned-found D N C x f emb n ((emb.which n).1 (n, named, k, zero, refl))) [
            | inl q ↦ absurd (root_stays.1 (subst (Has L.put) q h))
            | inr j ↦ (let g = has-map (λ (g : Found). g.node) L.found n j in
                inr (subst (Has L.found) (λ z. record { node = g.2 z; how = leaves n w g.0.how (subst (λ k. PlacedAs D C k g.0.how) g.2 (found_placed D C x o g.0 g.1)) z }) g.1))
          ]
