-- The easy half, in part: new names, the owners of cells, and how long rows are.
use Rattle.std.proofs.Common.{◌≡◌, ◌++◌, ◌<◌, ◌^◌, zero, suc, Bool, true, false, List, [], ◌∷◌, length, map, Option, Some, None, IsSome, cond, refl, sym, ap, ◌∙◌, subst, inl, inr, ◌⊎◌, option_and_then}
use Rattle.std.specs.List.{filter_map}
use Rattle.std.proofs.lemmas.Slice.Zip.{AllZip-long}
use Rattle.st_ids.specs.Listing.{Has}
use Rattle.st_ids.specs.Order.{same_node, node_cmp}
use Rattle.st_ids.proofs.Orders.{node_cmp_exact, node_cmp_total}
use Rattle.st_ids.specs.declared.names.CellId.{CellId}
use Rattle.st_ids.specs.declared.names.FieldId.{FieldId}
use Rattle.st_ids.specs.declared.names.NodeId.{NodeId}
use Rattle.st_marks.specs.declared.changes.Change.{Change}
use Rattle.st_marks.specs.declared.changes.NewNode.{NewNode}
use Rattle.st_marks.specs.declared.intents.Group.{Group}
use Rattle.st_marks.specs.declared.intents.Intent.{Intent}
use Rattle.st_marks.specs.declared.intents.Owned.{Owned}
use Rattle.st_marks.specs.declared.intents.Put.{Put}
use Rattle.st_marks.specs.declared.intents.To.{To}
use Rattle.st_marks.specs.declared.marks.How.{How}
use Rattle.st_marks.specs.declared.marks.How.TheVariants.{Here, Leave}
use Rattle.st_marks.specs.declared.marks.RowMarks.{RowMarks}
use Rattle.st_marks.specs.declared.places.Slot.{Slot}
use Rattle.st_marks.specs.CarryOut.{full}
use Rattle.st_marks.specs.Document.{Document, HasShortRows, IsSoundInForm, content, slot}
use Rattle.st_marks.specs.Embedding.{IsEmbedding, register_part, row_part}
use Rattle.st_marks.specs.Intent.{Fits, IsKnown, cell_of, group_cells, is_new, put_of}
use Rattle.st_marks.specs.Register.{how_held}
use Rattle.st_marks.specs.Row.{CellMark, Counted, Gap, Touch, Make, Fill, RowPart, embed_cell, embed_cells, embed_made, embed_row, how, same_to, spread}
use Rattle.st_marks.specs.How.{is_here}
use Rattle.st_marks.specs.Listings.{cells_after, cells_before, cells_made, nodes_new}
use Rattle.st_marks.proofs.Lookups.{group_at-group}
use Rattle.st_marks.proofs.Members.{all-has, append_left, first-has, flat_map-has, has-all, has-flat_map, has-map, map-has}
use Rattle.st_normal.specs.declared.entries.Found.{Found}
use Rattle.st_normal.specs.Rules.{FilledCellsAreOld, HolesHaveMovers, IsFoundAs, Entries, NewNamesHaveItsRevision, RowsAreShort, fill_owners, hole_owners, in_rows, entries_of_change}
use Rattle.st_ids.proofs.Listings.{has-item_of}
use Rattle.st_puts.specs.Meant.{IsOver}
use Rattle.st_puts.specs.Seen.{IsAsSeen}
use Rattle.st_puts.proofs.OverDocuments.{embedding_over, loose-look, mentioned-found, row-look, row-makes}
use Rattle.st_puts.proofs.FoundOnce.{has-new}
use Rattle.st_puts.proofs.RegisterRules.{how_is}
use Rattle.st_puts.proofs.StayingNodes.{loose-how, touch-row}
use Rattle.st_puts.proofs.FoundPlaces.{PlacedAs, as_row, as_held, as_loose, filled, found_placed}
use Rattle.st_normal_laws.proofs.Lengths.{row-length}
use Rattle.st_rows.proofs.ShortRows.{all_after}

-- an owner of a filled cell, with the cell
pub fill-owner : (ms : List CellMark) (n : NodeId) → Has (fill_owners ms) n → (d : CellId) × Has ms (Fill d n)
fill-owner [] n h = absurd h
fill-owner (Counted ∷ ms) n h = let r = fill-owner ms n h in (r.0, inr r.1)
fill-owner (Gap c ∷ ms) n h = let r = fill-owner ms n h in (r.0, inr r.1)
fill-owner (Touch c k g ∷ ms) n h = let r = fill-owner ms n h in (r.0, inr r.1)
fill-owner (Make c k b ∷ ms) n h = let r = fill-owner ms n h in (r.0, inr r.1)
fill-owner (Fill c k ∷ ms) n (inl q) = (c, inl (ap (λ k. Fill c k) q))
fill-owner (Fill c k ∷ ms) n (inr h) = let r = fill-owner ms n h in (r.0, inr r.1)

-- an owner of a cell that is made empty, with the cell
hole-owner : (ms : List CellMark) (n : NodeId) → Has (hole_owners ms) n → (d : CellId) × Has ms (Make d n false)
hole-owner [] n h = absurd h
hole-owner (Counted ∷ ms) n h = let r = hole-owner ms n h in (r.0, inr r.1)
hole-owner (Gap c ∷ ms) n h = let r = hole-owner ms n h in (r.0, inr r.1)
hole-owner (Touch c k g ∷ ms) n h = let r = hole-owner ms n h in (r.0, inr r.1)
hole-owner (Make c k true ∷ ms) n h = let r = hole-owner ms n h in (r.0, inr r.1)
hole-owner (Make c k false ∷ ms) n (inl q) = (c, inl (ap (λ k. Make c k false) q))
hole-owner (Make c k false ∷ ms) n (inr h) = let r = hole-owner ms n h in (r.0, inr r.1)
hole-owner (Fill c k ∷ ms) n h = let r = hole-owner ms n h in (r.0, inr r.1)

-- a cell that is made is in a group, with its owner
abbrev IsOfGroup : RowPart → CellId → NodeId → Type 0
IsOfGroup p d n = (a : Option CellId) × Has (p.new_cells a) (record { cell = d; node = n })

made-mark : (p : RowPart) (a : Option CellId) (os : List Owned) (ms : List CellMark) (d : CellId) (n : NodeId) (b : Bool) → ((o : Owned) → Has os o → Has (p.new_cells a) o)
    → Has (embed_made p os ++ ms) (Make d n b) → (Has ms (Make d n b) → IsOfGroup p d n) → IsOfGroup p d n
made-mark p a [] ms d n b sub h rest = rest h
made-mark p a (o ∷ os) ms d n b sub (inl q) rest = let e : o.cell ≡ d = cc in let g : o.node ≡ n = cc in
    (a, subst (Has (p.new_cells a)) (λ z. record { cell = e z; node = g z }) (sub o (inl refl)))
made-mark p a (o ∷ os) ms d n b sub (inr h) rest = made-mark p a os ms d n b (λ q i. sub q (inr i)) h rest

cells-mark : (p : RowPart) (c : List Slot) (d : CellId) (n : NodeId) (b : Bool) → Has (embed_cells p c) (Make d n b) → IsOfGroup p d n
cells-mark p [] d n b h = absurd h
cells-mark p (s ∷ c) d n b (inl q) = absurd (other s.full q)
  where
    other : (f : Bool) → embed_cell p s.cell s.node f ≡ Make d n b → ⊥
    other true q = full (p.mentioned s.node) q
      where
        full : (z : Bool) → cond z (Touch s.cell s.node (how (p.target_of s.node) (To.Cell s.cell))) Counted ≡ Make d n b → ⊥
        full true q = cc
        full false q = cc
    other false q = empty (is_here (how (p.target_of s.node) (To.Cell s.cell))) q
      where
        empty : (z : Bool) → cond z (Fill s.cell s.node) (Gap s.cell) ≡ Make d n b → ⊥
        empty true q = cc
        empty false q = cc
cells-mark p (s ∷ c) d n b (inr h) = made-mark p (Some s.cell) (p.new_cells (Some s.cell)) (embed_cells p c) d n b (λ o i. i) h (λ i. cells-mark p c d n b i)

row-mark : (p : RowPart) (c : List Slot) (d : CellId) (n : NodeId) (b : Bool) → Has (embed_row p c) (Make d n b) → IsOfGroup p d n
row-mark p c d n b h = made-mark p None (p.new_cells None) (embed_cells p c) d n b (λ o i. i) h (λ i. cells-mark p c d n b i)

-- who is put is set where it is, or leaves
abbrev Moves : How → Type 0
Moves h = (h ≡ Here) ⊎ (h ≡ Leave)

moves : (o : Option To) (u : To) → IsSome o → Moves (how o u)
moves None u e = cc
moves (Some t) u e = go (same_to t u)
  where
    go : (b : Bool) → Moves (cond b Here Leave)
    go true = inl refl
    go false = inr refl

module _ (D : Document) (N : Intent) (C : Change) (x : IsSoundInForm D) (f : Fits D N) (emb : IsEmbedding D N C) where
  abbrev L : Entries
  L = entries_of_change C

  abbrev m : NodeId → Bool
  m = emb.mentioned

  o : IsOver D C
  o = embedding_over D N C x f emb

  pub new_names_have_its_revision : NewNamesHaveItsRevision C
  new_names_have_its_revision = (
    has-all (λ (k : NewNode). k.node.0.rev ≡ C.rev) C.new (λ k i.
        let e = sym (emb.new.at_each k.node) ∙ has-item_of node_cmp node_cmp_total node_cmp_exact (λ (k : NewNode). k.node) C.new k emb.new.rising i in
        let r = first-has (λ (y : NewNode). same_node y.node k.node) N.new k e in
        all-has (λ (k : NewNode). k.node.0.rev ≡ N.rev) N.new k f.itself.new_rev r.0 ∙ sym emb.rev),
    has-all (λ (c : CellId). c.0.rev ≡ C.rev) (in_rows cells_made C.rows) (λ c h.
        let r = has-flat_map (λ (r : RowMarks). cells_made (spread r.marks)) C.rows c h in
        let w = row-makes (row_part m N r.0.node) (content D r.0.node) c (subst (λ ms. Has (cells_made ms) c) (row-look D N C x f emb r.0 r.1).0 r.2) in
        let g = group_at-group N r.0.node w.0 w.1 w.2 in
        subst (λ (c : CellId). c.0.rev ≡ C.rev) w.3 (all-has (λ (o : Owned). o.cell.0.rev ≡ N.rev) (group_cells N) w.1 f.itself.cell_rev (flat_map-has (λ (k : Group). k.cells) N.groups g.group w.1 g.listed g.cell) ∙ sym emb.rev)),
  )

  unknown : (n : NodeId) → D.nodes n ≡ None → IsSome (D.nodes n) → ⊥
  unknown n e k = let bad : ◌≡◌ {A = Bool} false true = rw e at k in cc

  pub filled_cells_are_old : FilledCellsAreOld L
  filled_cells_are_old = has-all (λ n. Has L.new n → ⊥) (in_rows fill_owners C.rows) (λ n h i.
      let r = has-flat_map (λ (r : RowMarks). fill_owners (spread r.marks)) C.rows n h in
      let w = fill-owner (spread r.0.marks) n r.2 in
      let s = has-map (slot D) (D.rows r.0.node) (record { cell = w.0; node = n; full = false }) (filled (content D r.0.node) (spread r.0.marks) w.0 n (o.rows r.0 r.1) w.1) in
      unknown n (o.new_nodes n i) (subst (λ k. IsSome (D.nodes k)) (ap (λ (s : Slot). s.node) s.2) (x.cells_known r.0.node s.0 s.1).1))

  -- what becomes of a node that is put
  put-moves : (n : NodeId) → IsSome (put_of N n) → (h : How) → PlacedAs D C n h → Moves h
  put-moves n e h (as_row r c i j p) =
      let t = touch-row (row_part m N r.node) (content D r.node) c n h (subst (λ ms. Has ms (Touch c n h)) (row-look D N C x f emb r i).0 j) in
      subst Moves t.1 (moves (put_of N n) (To.Cell c) e)
  put-moves n e h (as_held r i q g p) = subst Moves (sym (ap (how_held r.field (register_part m N r.field)) q) ∙ how_is D N C x f emb r i ∙ g) (moves (put_of N n) (To.Register r.field) e)
  put-moves n e h (as_loose l i q g p k) = subst Moves (sym (ap (λ k. how (put_of N k) To.Nowhere) q) ∙ loose-how D N C x f emb l.node l (loose-look D N C x f emb l i) ∙ g) (moves (put_of N n) To.Nowhere e)

  pub rows_are_short : HasShortRows (full D N) → RowsAreShort L
  rows_are_short s = has-all (λ (r : RowMarks). (length (cells_before (spread r.marks)) < 2 ^ 32) × (length (cells_after (spread r.marks)) < 2 ^ 32)) C.rows (λ r i. (before r i, after r i))
    where
      map-long : (os : List Owned) → length os ≡ length (map (slot D) os)
      map-long [] = refl
      map-long (q ∷ os) = ap suc (map-long os)

      before : (r : RowMarks) → Has C.rows r → length (cells_before (spread r.marks)) < 2 ^ 32
      before r i = subst (λ k. k < 2 ^ 32) (map-long (D.rows r.node) ∙ sym (AllZip-long IsAsSeen (content D r.node) (cells_before (spread r.marks)) (o.rows r i))) (x.short r.node)

      after : (r : RowMarks) → Has C.rows r → length (cells_after (spread r.marks)) < 2 ^ 32
      after r i = subst (λ k. k < 2 ^ 32) (sym (all_after (spread r.marks) ∙ ap length (row-look D N C x f emb r i).0 ∙ row-length D N m r.node)) (s r.node)

  -- one for which an empty cell may be made
  abbrev Mover : NodeId → Type 0
  Mover n = Has (nodes_new C.new) n ⊎ IsFoundAs L n Here ⊎ IsFoundAs L n Leave

  pub holes_have_movers : HolesHaveMovers C
  holes_have_movers = has-all (λ n. Has (nodes_new C.new) n ⊎ IsFoundAs L n Here ⊎ IsFoundAs L n Leave) (in_rows hole_owners C.rows) (λ n h.
      let r = has-flat_map (λ (r : RowMarks). hole_owners (spread r.marks)) C.rows n h in
      let w = hole-owner (spread r.0.marks) n r.2 in
      let k = row-mark (row_part m N r.0.node) (content D r.0.node) w.0 n false (subst (λ ms. Has ms (Make w.0 n false)) (row-look D N C x f emb r.0 r.1).0 w.1) in
      let g = group_at-group N r.0.node k.0 (record { cell = w.0; node = n }) k.1 in
      let i = flat_map-has (λ (k : Group). k.cells) N.groups g.group (record { cell = w.0; node = n }) g.listed g.cell in
      owner n (all-has (λ (o : Owned). (is_new N o.node ≡ true) ⊎ IsSome (put_of N o.node)) (group_cells N) (record { cell = w.0; node = n }) f.itself.owners i) (all-has (λ (o : Owned). IsKnown D N o.node) (group_cells N) (record { cell = w.0; node = n }) f.owners_known i))
    where
      as-found : (n : NodeId) (g : Found) → Has L.found g → g.node ≡ n → Moves g.how → Mover n
      as-found n g i q (inl e) = inr (inl (subst (Has L.found) (λ z. record { node = q z; how = e z }) i))
      as-found n g i q (inr e) = inr (inr (subst (Has L.found) (λ z. record { node = q z; how = e z }) i))

      put : (n : NodeId) → (q : Option To) → put_of N n ≡ q → IsSome q → IsSome (D.nodes n) → Mover n
      put n None e s k = cc
      put n (Some t) e s k =
          let i = Rattle.st_marks.proofs.Lookups.put-has N n t e in
          let named = append_left (map (λ (p : Put). p.node) N.put ++ N.need ++ map (λ (g : Group). g.node) N.groups ++ filter_map (λ (p : Put). option_and_then D.row_of (cell_of p.to)) N.put) (map (λ (k : FieldId). k.node) N.clear) n
          (append_left (map (λ (p : Put). p.node) N.put ++ N.need ++ map (λ (g : Group). g.node) N.groups) (filter_map (λ (p : Put). option_and_then D.row_of (cell_of p.to)) N.put) n
          (append_left (map (λ (p : Put). p.node) N.put ++ N.need) (map (λ (g : Group). g.node) N.groups) n (append_left (map (λ (p : Put). p.node) N.put) N.need n (map-has (λ (p : Put). p.node) N.put (record { node = n; to = t }) i)))) in
          elim (mentioned-found D N C x f emb n ((emb.which n).1 (n, named, k, zero, refl))) [
            | inl q ↦ (let bad : None ≡ Some t = sym f.itself.root_stays ∙ ap (put_of N) (sym q) ∙ e in cc)
            | inr j ↦ (let g = has-map (λ (g : Found). g.node) L.found n j in
                as-found n g.0 g.1 g.2 (put-moves n (rw e refl) g.0.how (subst (λ k. PlacedAs D C k g.0.how) g.2 (found_placed D C x o g.0 g.1))))
          ]

      owner : (n : NodeId) → (is_new N n ≡ true) ⊎ IsSome (put_of N n) → IsKnown D N n → Mover n
      owner n (inl e) k = inl (has-new D N C x f emb n e)
      owner n (inr s) (inl e) = inl (has-new D N C x f emb n e)
      owner n (inr s) (inr k) = put n (put_of N n) refl s k
