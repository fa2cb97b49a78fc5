-- The easy half, in part: a node that is nowhere leaves only where it is put.
use Rattle.std.proofs.Common.{◌≡◌, ◌++◌, ◌||◌, Bool, true, false, List, [], ◌∷◌, Option, Some, None, IfSome, cond, refl, sym, ap, ◌∙◌, subst, inl, inr}
use Rattle.std.specs.List.{flat_map, list_any}
use Rattle.st_ids.specs.Listing.{Has}
use Rattle.st_ids.specs.Order.{field_cmp, same_node}
use Rattle.st_ids.proofs.Orders.{field_cmp_exact, field_cmp_total, same_node-true}
use Rattle.st_ids.specs.declared.names.CellId.{CellId}
use Rattle.st_ids.specs.declared.names.FieldId.{FieldId}
use Rattle.st_ids.specs.declared.names.NodeId.{NodeId}
use Rattle.st_marks.specs.declared.changes.Change.{Change}
use Rattle.st_marks.specs.declared.intents.Group.{Group}
use Rattle.st_marks.specs.declared.intents.Intent.{Intent}
use Rattle.st_marks.specs.declared.intents.Owned.{Owned}
use Rattle.st_marks.specs.declared.intents.Put.{Put}
use Rattle.st_marks.specs.declared.intents.To.{To}
use Rattle.st_marks.specs.declared.marks.How.TheVariants.{Leave}
use Rattle.st_marks.specs.declared.marks.Loose.{Loose}
use Rattle.st_marks.specs.declared.marks.RegMark.{RegMark}
use Rattle.st_marks.specs.declared.marks.RowMarks.{RowMarks}
use Rattle.st_marks.specs.declared.places.Slot.{Slot}
use Rattle.st_marks.specs.declared.places.Spot.{Spot}
use Rattle.st_marks.specs.Document.{Document, IsSoundInForm, content, is_cell, owned_cell, slot}
use Rattle.st_marks.specs.Embedding.{IsEmbedding, register_part, row_part, tells}
use Rattle.st_marks.specs.Intent.{Fits, IsKnown, Owns, cell_of, clears, group_at, put_in, put_of, register_of}
use Rattle.st_marks.specs.Register.{comes_in, how_held, holds_mentioned}
use Rattle.st_marks.specs.Row.{CellMark, Counted, Gap, Touch, Make, Fill, RowPart, embed_cell, embed_cells, embed_made, embed_row, how, spread}
use Rattle.st_marks.specs.How.{is_here}
use Rattle.st_marks.proofs.Lookups.{group_found, has-put_in, put-has, put_clears}
use Rattle.st_marks.proofs.Members.{all-has, append_left, append_right, flat_map-has, has-all, has-flat_map, map-has}
use Rattle.st_normal.specs.Rules.{Entries, LooseNodesArePut, incoming_nodes, in_rows, entries_of_change, put_at}
use Rattle.st_ids.proofs.Listings.{item_of-has}
use Rattle.st_puts.proofs.Basics.{is-one, register-not-nowhere}
use Rattle.st_puts.proofs.OverDocuments.{embedding_over, loose-look, row-listed}
use Rattle.st_puts.proofs.StayingNodes.{loose-how}
use Rattle.st_puts.proofs.PutsOfIntents.{put-is_here}

-- marks by which a node comes in tell something
incoming-tells : (ms : List CellMark) (n : NodeId) → Has (incoming_nodes ms) n → list_any tells ms ≡ true
incoming-tells [] n h = absurd h
incoming-tells (Counted ∷ ms) n h = incoming-tells ms n h
incoming-tells (Gap c ∷ ms) n h = incoming-tells ms n h
incoming-tells (Touch c k g ∷ ms) n h = refl
incoming-tells (Make c k b ∷ ms) n h = refl
incoming-tells (Fill c k ∷ ms) n h = refl

skip-mark : (y : CellMark) (ms : List CellMark) (n : NodeId) → Has (incoming_nodes ms) n → Has (incoming_nodes (y ∷ ms)) n
skip-mark Counted ms n h = h
skip-mark (Gap c) ms n h = h
skip-mark (Touch c k g) ms n h = h
skip-mark (Make c k true) ms n h = inr h
skip-mark (Make c k false) ms n h = h
skip-mark (Fill c k) ms n h = inr h

skip-made : (p : RowPart) (os : List Owned) (ms : List CellMark) (n : NodeId) → Has (incoming_nodes ms) n → Has (incoming_nodes (embed_made p os ++ ms)) n
skip-made p [] ms n h = h
skip-made p (o ∷ os) ms n h = skip-mark (Make o.cell o.node (is_here (how (p.target_of o.node) (To.Cell o.cell)))) (embed_made p os ++ ms) n (skip-made p os ms n h)

-- the owner of a cell that is made comes in if it is put there
made-comes : (p : RowPart) (os : List Owned) (ms : List CellMark) (o : Owned) → Has os o → p.target_of o.node ≡ Some (To.Cell o.cell) → Has (incoming_nodes (embed_made p os ++ ms)) o.node
made-comes p [] ms o h e = absurd h
made-comes p (q ∷ os) ms o (inr h) e = skip-mark (Make q.cell q.node (is_here (how (p.target_of q.node) (To.Cell q.cell)))) (embed_made p os ++ ms) o.node (made-comes p os ms o h e)
made-comes p (q ∷ os) ms o (inl s) e = subst (λ (b : Bool). Has (cond b (q.node ∷ []) [] ++ incoming_nodes (embed_made p os ++ ms)) o.node)
    (sym ((λ i. is_here (how (p.target_of (s i).node) (To.Cell (s i).cell))) ∙ ap is_here (put-is_here (p.target_of o.node) (To.Cell o.cell) e))) (inl (ap (λ (o : Owned). o.node) s))

behind-comes : (p : RowPart) (c : List Slot) (s : Slot) (o : Owned) → Has c s → Has (p.new_cells (Some s.cell)) o → p.target_of o.node ≡ Some (To.Cell o.cell) → Has (incoming_nodes (embed_cells p c)) o.node
behind-comes p [] s o h i e = absurd h
behind-comes p (t ∷ c) s o (inl q) i e = skip-mark (embed_cell p t.cell t.node t.full) (embed_made p (p.new_cells (Some t.cell)) ++ embed_cells p c) o.node
    (made-comes p (p.new_cells (Some t.cell)) (embed_cells p c) o (subst (λ (t : Slot). Has (p.new_cells (Some t.cell)) o) (sym q) i) e)
behind-comes p (t ∷ c) s o (inr h) i e = skip-mark (embed_cell p t.cell t.node t.full) (embed_made p (p.new_cells (Some t.cell)) ++ embed_cells p c) o.node
    (skip-made p (p.new_cells (Some t.cell)) (embed_cells p c) o.node (behind-comes p c s o h i e))

fill-comes : (p : RowPart) (c : List Slot) (d : CellId) (n : NodeId) → Has c (record { cell = d; node = n; full = false }) → p.target_of n ≡ Some (To.Cell d) → Has (incoming_nodes (embed_cells p c)) n
fill-comes p [] d n h e = absurd h
fill-comes p (t ∷ c) d n (inl q) e = subst (λ y. Has (incoming_nodes (y ∷ (embed_made p (p.new_cells (Some t.cell)) ++ embed_cells p c))) n)
    (sym ((λ i. embed_cell p (q i).cell (q i).node (q i).full) ∙ ap (λ h. cond (is_here h) (Fill d n) (Gap d)) (put-is_here (p.target_of n) (To.Cell d) e))) (inl refl)
fill-comes p (t ∷ c) d n (inr h) e = skip-mark (embed_cell p t.cell t.node t.full) (embed_made p (p.new_cells (Some t.cell)) ++ embed_cells p c) n
    (skip-made p (p.new_cells (Some t.cell)) (embed_cells p c) n (fill-comes p c d n h e))

module _ (D : Document) (N : Intent) (C : Change) (x : IsSoundInForm D) (f : Fits D N) (emb : IsEmbedding D N C) where
  abbrev L : Entries
  L = entries_of_change C

  abbrev part : NodeId → RowPart
  part n = row_part emb.mentioned N n

  by-row : (r n : NodeId) → Has (incoming_nodes (embed_row (part r) (content D r))) n → Has L.put n
  by-row r n h = let q = row-listed D N C x f emb r (incoming-tells (embed_row (part r) (content D r)) n h) in
      append_left (in_rows incoming_nodes C.rows) (flat_map put_at C.regs) n (flat_map-has (λ (r : RowMarks). incoming_nodes (spread r.marks)) C.rows q.0 n q.1 (subst (λ ms. Has (incoming_nodes ms) n) (sym q.3) h))

  by-cell : (n : NodeId) (c : CellId) → D.place n ≡ Spot.Nowhere → put_of N n ≡ Some (To.Cell c) → Owns D N n c → Has L.put n
  by-cell n c p e (inl r) = by-row r.0 n (skip-made (part r.0) (group_at N r.0 None) (embed_cells (part r.0) (content D r.0)) n (fill-comes (part r.0) (content D r.0) c n
      (subst (λ b. Has (content D r.0) (record { cell = c; node = n; full = b })) (ap (is_cell c) p) (map-has (slot D) (D.rows r.0) (owned_cell c n) r.1)) e))
  by-cell n c p e (inr h) = let g = has-flat_map (λ (g : Group). g.cells) N.groups (owned_cell c n) h in
      by-row g.0.node n (at g.0 g.1 g.0.after refl (subst (λ l. Has l (owned_cell c n)) (sym (group_found N f.itself g.0 g.1)) g.2))
    where
      at : (g : Group) → Has N.groups g → (a : Option CellId) → g.after ≡ a → Has (group_at N g.node g.after) (owned_cell c n) → Has (incoming_nodes (embed_row (part g.node) (content D g.node))) n
      at g i None q j = made-comes (part g.node) (group_at N g.node None) (embed_cells (part g.node) (content D g.node)) (owned_cell c n) (subst (λ a. Has (group_at N g.node a) (owned_cell c n)) q j) e
      at g i (Some a) q j =
          let known = (all-has (λ (k : Group). IsKnown D N k.node × IfSome k.after (λ c. D.row_of c ≡ Some k.node)) N.groups g f.groups_known i).1 in
          let row = (x.one_row a g.node).0 (subst (λ a. IfSome a (λ c. D.row_of c ≡ Some g.node)) q known) in
          skip-made (part g.node) (group_at N g.node None) (embed_cells (part g.node) (content D g.node)) n
          (behind-comes (part g.node) (content D g.node) (slot D (owned_cell a row.0)) (owned_cell c n) (map-has (slot D) (D.rows g.node) (owned_cell a row.0) row.1) (subst (λ a. Has (group_at N g.node a) (owned_cell c n)) q j) e)

  by-register : (n : NodeId) (k : FieldId) → D.place n ≡ Spot.Nowhere → Has N.put (record { node = n; to = To.Register k }) → Has L.put n
  by-register n k p h =
      let mark : RegMark = record { field = k; held = D.held k; how = how_held k (register_part emb.mentioned N k) (D.held k); clear = clears N k; fill = comes_in (D.held k) (put_in N k) } in
      let i = item_of-has field_cmp field_cmp_total field_cmp_exact (λ (r : RegMark). r.field) C.regs k mark (emb.regs.at_each k ∙ ap (λ b. cond (b || holds_mentioned emb.mentioned (D.held k)) (Some mark) None) (put_clears N f.itself n k h)) in
      append_right (in_rows incoming_nodes C.rows) (flat_map put_at C.regs) n (flat_map-has put_at C.regs mark n i.0 (is-one mark.fill n (ap (comes_in (D.held k)) (has-put_in N f.itself n k h) ∙ in_it (D.held k) refl)))
    where
      in_it : (q : Option NodeId) → D.held k ≡ q → comes_in q (Some n) ≡ Some n
      in_it None e = refl
      in_it (Some j) e = go (same_node j n) refl
        where
          go : (b : Bool) → same_node j n ≡ b → cond b None (Some n) ≡ Some n
          go false g = refl
          go true g = absurd (register-not-nowhere k (sym ((x.one_held n k).0 (e ∙ ap (λ j. Some j) (same_node-true j n g))) ∙ p))

  pub loose_are_put : LooseNodesArePut L C.loose
  loose_are_put = has-all (λ (l : Loose). l.how ≡ Leave → Has L.put l.node) C.loose (λ l i e.
      by-put l.node (put_of N l.node) refl ((embedding_over D N C x f emb).loose l i).0 (loose-how D N C x f emb l.node l (loose-look D N C x f emb l i) ∙ e))
    where
      by-put : (n : NodeId) (q : Option To) → put_of N n ≡ q → D.place n ≡ Spot.Nowhere → how (put_of N n) To.Nowhere ≡ Leave → Has L.put n
      by-put n None g p e = let bad = sym e ∙ ap (λ o. how o To.Nowhere) g in cc
      by-put n (Some To.Nowhere) g p e = let bad = sym e ∙ ap (λ o. how o To.Nowhere) g in cc
      by-put n (Some (To.Register k)) g p e = by-register n k p (put-has N n (To.Register k) g)
      by-put n (Some (To.Cell c)) g p e = by-cell n c p g (all-has (λ (p : Put). IsKnown D N p.node × IfSome (cell_of p.to) (Owns D N p.node) × IfSome (register_of p.to) (λ k. IsKnown D N k.node)) N.put (record { node = n; to = To.Cell c }) f.puts_known (put-has N n (To.Cell c) g)).1
