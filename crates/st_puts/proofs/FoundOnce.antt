-- The easy half, in part: an embedding finds each node once, and the fields that it lists are of found nodes.
use Rattle.std.proofs.Common.{◌≡◌, ◌≢◌, ◌++◌, ◌||◌, zero, suc, Bool, true, false, List, [], ◌∷◌, map, Option, Some, None, IsSome, IfSome, cond, refl, sym, ap, ◌∙◌, subst, inl, inr, ◌⊎◌, is_some, option_map, option_and_then}
use Rattle.std.specs.List.{filter_map, flat_map, list_any}
use Rattle.st_ids.specs.Listing.{AreDistinct, Has}
use Rattle.st_ids.specs.Order.{field_cmp, node_cmp}
use Rattle.st_ids.proofs.Orders.{field_cmp_total, node_cmp_exact, node_cmp_total}
use Rattle.st_ids.specs.declared.names.CellId.{CellId}
use Rattle.st_ids.specs.declared.names.FieldId.{FieldId}
use Rattle.st_ids.specs.declared.names.NodeId.{NodeId}
use Rattle.st_marks.specs.declared.changes.Change.{Change}
use Rattle.st_marks.specs.declared.changes.NewNode.{NewNode}
use Rattle.st_marks.specs.declared.intents.Group.{Group}
use Rattle.st_marks.specs.declared.intents.Intent.{Intent}
use Rattle.st_marks.specs.declared.intents.Owned.{Owned}
use Rattle.st_marks.specs.declared.intents.To.{To}
use Rattle.st_normal.specs.declared.entries.Found.{Found}
use Rattle.st_marks.specs.declared.marks.How.{How}
use Rattle.st_marks.specs.declared.marks.Loose.{Loose}
use Rattle.st_marks.specs.declared.marks.RegMark.{RegMark}
use Rattle.st_marks.specs.declared.marks.RowMarks.{RowMarks}
use Rattle.st_marks.specs.declared.places.Slot.{Slot}
use Rattle.st_marks.specs.declared.places.Spot.{Spot}
use Rattle.st_marks.specs.Document.{Document, IsSoundInForm, above, climb, content, node_of, owned_cell, slot}
use Rattle.st_ids.specs.Root.{root}
use Rattle.st_marks.specs.Embedding.{IsEmbedding, row_part, register_part, tells, named_by_intent}
use Rattle.st_marks.specs.Intent.{Fits, is_new, new_node, IsKnown, cell_of, clears, put_of}
use Rattle.st_marks.specs.Register.{holds_mentioned}
use Rattle.st_marks.specs.Row.{CellMark, Counted, Gap, Touch, Make, Fill, RowPart, embed_cell, embed_cells, embed_made, embed_row, how, spread}
use Rattle.st_marks.specs.How.{is_here}
use Rattle.st_normal.specs.Rules.{IsFound, Entries, found_at, found_held, found_in, found_loose, in_rows, entries_of_change, FieldsAreFound, NodesAreFoundOnce, fields_of}
use Rattle.st_marks.specs.Listings.{cells_before}
use Rattle.st_marks.proofs.Climb.{climb_more, stands}
use Rattle.st_ids.proofs.Listings.{item_of-has}
use Rattle.st_marks.proofs.Lookups.{group_at-group, put-has, clears-has}
use Rattle.st_marks.proofs.Members.{all-has, append_left, append_right, has-append, map-has, has-map, has-flat_map, distinct-append, has-all, has-filter_map}
use Rattle.st_puts.specs.Seen.{AreAsSeen}
use Rattle.st_puts.specs.Meant.{IsOver}
use Rattle.st_marks.specs.declared.intents.Put.{Put}
use Rattle.st_puts.proofs.FoundPlaces.{found_in-has, found_held-is, held_place, touch_place, touched}
use Rattle.st_puts.proofs.OverDocuments.{embedding_over, held-is, mentioned-found, reg-look, row-look}
use Rattle.st_puts.proofs.Groups.{distinct-flat}
use Rattle.st_puts.proofs.MeaningFits.{rising_distinct}
use Rattle.st_puts.proofs.PutsOfIntents.{is_here-put}
use Rattle.st_puts.proofs.Basics.{register-not-nowhere, row-not-nowhere}

-- ## What tells

data WhyTold (p : RowPart) (c : List Slot) : Type 0 where
  by_touch : (s : Slot) → Has c s → s.full ≡ true → p.mentioned s.node ≡ true → WhyTold p c
  by_fill : (s : Slot) → Has c s → is_here (how (p.target_of s.node) (To.Cell s.cell)) ≡ true → WhyTold p c
  by_make : (a : Option CellId) (o : Owned) → Has (p.new_cells a) o → WhyTold p c

later : (p : RowPart) (s : Slot) (c : List Slot) → WhyTold p c → WhyTold p (s ∷ c)
later p s c (by_touch t h e f) = by_touch t (inr h) e f
later p s c (by_fill t h e) = by_fill t (inr h) e
later p s c (by_make a o h) = by_make a o h

told-made : (p : RowPart) (c : List Slot) (a : Option CellId) (os : List Owned) (ms : List CellMark) → ((o : Owned) → Has os o → Has (p.new_cells a) o) → list_any tells (embed_made p os ++ ms) ≡ true → (list_any tells ms ≡ true → WhyTold p c) → WhyTold p c
told-made p c a [] ms sub e rest = rest e
told-made p c a (o ∷ os) ms sub e rest = by_make a o (sub o (inl refl))

told-cells : (p : RowPart) (c : List Slot) → list_any tells (embed_cells p c) ≡ true → WhyTold p c
told-cells p [] e = cc
told-cells p (s ∷ c) e = go s.full refl e (λ q. told-cells p c q)
  where
    rest : list_any tells (embed_made p (p.new_cells (Some s.cell)) ++ embed_cells p c) ≡ true → (list_any tells (embed_cells p c) ≡ true → WhyTold p c) → WhyTold p (s ∷ c)
    rest q more = told-made p (s ∷ c) (Some s.cell) (p.new_cells (Some s.cell)) (embed_cells p c) (λ o h. h) q (λ r. later p s c (more r))

    go : (b : Bool) → s.full ≡ b → (tells (embed_cell p s.cell s.node b) || list_any tells (embed_made p (p.new_cells (Some s.cell)) ++ embed_cells p c)) ≡ true → (list_any tells (embed_cells p c) ≡ true → WhyTold p c) → WhyTold p (s ∷ c)
    go true f q more = full (p.mentioned s.node) refl q
      where
        full : (z : Bool) → p.mentioned s.node ≡ z → (tells (cond z (Touch s.cell s.node (how (p.target_of s.node) (To.Cell s.cell))) Counted) || list_any tells (embed_made p (p.new_cells (Some s.cell)) ++ embed_cells p c)) ≡ true → WhyTold p (s ∷ c)
        full true g q = by_touch s (inl refl) f g
        full false g q = rest q more
    go false f q more = empty (is_here (how (p.target_of s.node) (To.Cell s.cell))) refl q
      where
        empty : (z : Bool) → is_here (how (p.target_of s.node) (To.Cell s.cell)) ≡ z → (tells (cond z (Fill s.cell s.node) (Gap s.cell)) || list_any tells (embed_made p (p.new_cells (Some s.cell)) ++ embed_cells p c)) ≡ true → WhyTold p (s ∷ c)
        empty true g q = by_fill s (inl refl) g
        empty false g q = rest q more

told-row : (p : RowPart) (c : List Slot) → list_any tells (embed_row p c) ≡ true → WhyTold p c
told-row p c e = told-made p c None (p.new_cells None) (embed_cells p c) (λ o h. h) e (λ q. told-cells p c q)

-- ## Found once in a row

pub touched-once : (c : List Slot) (ms : List CellMark) → AreAsSeen c (cells_before ms) → AreDistinct (λ (s : Slot). s.cell) c
    → ((d e : CellId) (n : NodeId) → Has c (record { cell = d; node = n; full = true }) → Has c (record { cell = e; node = n; full = true }) → d ≡ e) → AreDistinct (λ (f : Found). f.node) (found_in ms)
touched-once c [] p d one = tt
touched-once c (Make e k b ∷ ms) p d one = touched-once c ms p d one
touched-once [] (Counted ∷ ms) p d one = absurd p
touched-once (s ∷ c) (Counted ∷ ms) p d one = touched-once c ms p.1 d.1 (λ a b n h i. one a b n (inr h) (inr i))
touched-once [] (Gap e ∷ ms) p d one = absurd p
touched-once (s ∷ c) (Gap e ∷ ms) p d one = touched-once c ms p.1 d.1 (λ a b n h i. one a b n (inr h) (inr i))
touched-once [] (Touch e k h ∷ ms) p d one = absurd p
touched-once (s ∷ c) (Touch e k h ∷ ms) p d one = (
  has-all (λ (f : Found). f.node ≢ k) (found_in ms) (λ f i q. let t = found_in-has ms f i in
      let u = touched c ms t.0 f.node f.how p.1 t.1 in
      let same = one t.0 e k (inr (subst (λ n. Has c (record { cell = t.0; node = n; full = true })) q u)) (inl (λ z. record { cell = sym p.0.1 z; node = sym p.0.2 z; full = sym p.0.0 z })) in
      all-has (λ (t : Slot). t.cell ≢ s.cell) c (record { cell = t.0; node = f.node; full = true }) d.0 u (same ∙ p.0.1)),
  touched-once c ms p.1 d.1 (λ a b n h i. one a b n (inr h) (inr i)),
)
touched-once [] (Fill e k ∷ ms) p d one = absurd p
touched-once (s ∷ c) (Fill e k ∷ ms) p d one = touched-once c ms p.1 d.1 (λ a b n h i. one a b n (inr h) (inr i))

-- ## Found once in registers and nowhere

pub loose-once : (ls : List Loose) → AreDistinct (λ (l : Loose). l.node) ls → AreDistinct (λ (g : Found). g.node) (found_loose ls)
loose-once [] d = tt
loose-once (l ∷ ls) d = (has-all (λ (g : Found). g.node ≢ l.node) (found_loose ls) (λ g h. let k = has-map (λ (l : Loose). let g : Found = record { node = l.node; how = l.how } in g) ls g h in λ e. all-has (λ (k : Loose). k.node ≢ l.node) ls k.0 d.0 k.1 (ap (λ (g : Found). g.node) k.2 ∙ e)), loose-once ls d.1)

pub held-alone : (q : Option NodeId) (h : How) → AreDistinct (λ (g : Found). g.node) (found_held q h)
held-alone None h = tt
held-alone (Some n) h = (tt, tt)

module _ (D : Document) (N : Intent) (C : Change) (x : IsSoundInForm D) (f : Fits D N) (emb : IsEmbedding D N C) where
  abbrev L : Entries
  L = entries_of_change C

  abbrev m : NodeId → Bool
  m = emb.mentioned

  o : IsOver D C
  o = embedding_over D N C x f emb

  -- ## Fields are found

  abbrev put_nodes : List NodeId
  put_nodes = map (λ (p : Put). p.node) N.put

  abbrev group_nodes : List NodeId
  group_nodes = map (λ (g : Group). g.node) N.groups

  abbrev target_nodes : List NodeId
  target_nodes = filter_map (λ (p : Put). option_and_then D.row_of (cell_of p.to)) N.put

  abbrev clear_nodes : List NodeId
  clear_nodes = map (λ (k : FieldId). k.node) N.clear

  named : (n : NodeId) → Has (named_by_intent D N) n → IsSome (D.nodes n) → m n ≡ true
  named n h k = (emb.which n).1 (n, h, k, zero, refl)

  -- the node above one that is mentioned is mentioned
  pub mentioned-up : (n p : NodeId) → m n ≡ true → above D n ≡ Some p → m p ≡ true
  mentioned-up n p e q = let k = (emb.which n).0 e in (emb.which p).1 (k.0, k.1, k.2, suc k.3, climb_more (above D) k.3 k.0 n p k.4 q)

  abbrev IsField : NodeId → Type 0
  IsField n = (n ≡ root) ⊎ Has L.new n ⊎ IsFound L n

  by-mention : (n : NodeId) → m n ≡ true → IsField n
  by-mention n e = elim (mentioned-found D N C x f emb n e) [ inl q ↦ inl q | inr i ↦ inr (inr i) ]

  pub has-new : (n : NodeId) → is_new N n ≡ true → Has L.new n
  has-new n e = go (new_node N n) refl e
    where
      go : (q : Option NewNode) → new_node N n ≡ q → is_some (option_map (λ (k : NewNode). let t : Rattle.st_marks.specs.Document.NodeType = record { ty = k.ty; leaf = k.leaf } in t) q) ≡ true → Has L.new n
      go None g t = cc
      go (Some k) g t = let i = item_of-has node_cmp node_cmp_total node_cmp_exact (λ (k : NewNode). k.node) C.new n k (emb.new.at_each n ∙ g) in subst (Has L.new) i.1 (map-has (λ (k : NewNode). k.node) C.new k i.0)

  by-known : (n : NodeId) → Has (named_by_intent D N) n → IsKnown D N n → IsField n
  by-known n h (inl e) = inr (inl (has-new n e))
  by-known n h (inr k) = by-mention n (named n h k)

  row-known : (n : NodeId) (s : Slot) → Has (content D n) s → (D.row_of s.cell ≡ Some n) × IsSome (D.nodes n)
  row-known n s h = let q = has-map (slot D) (D.rows n) s h in ((x.one_row s.cell n).1 (q.0.node, subst (λ c. Has (D.rows n) (owned_cell c q.0.node)) (ap (λ (s : Slot). s.cell) q.2) q.1), (x.cells_known n q.0 q.1).0)

  row-field : (n : NodeId) → WhyTold (row_part m N n) (content D n) → IsField n
  row-field n (by_touch s h e g) = by-mention n (mentioned-up s.node n g (ap node_of (stands D x s.node n s.cell (subst (λ b. Has (content D n) (record { cell = s.cell; node = s.node; full = b })) e h))))
  row-field n (by_fill s h e) = let k = row-known n s h in
      by-known n (append_left (put_nodes ++ N.need ++ group_nodes ++ target_nodes) clear_nodes n (append_right (put_nodes ++ N.need ++ group_nodes) target_nodes n
      (has-filter_map (λ (p : Put). option_and_then D.row_of (cell_of p.to)) N.put (record { node = s.node; to = To.Cell s.cell }) n (put-has N s.node (To.Cell s.cell) (is_here-put (put_of N s.node) (To.Cell s.cell) e)) k.0))) (inr k.1)
  row-field n (by_make a q h) = let g = group_at-group N n a q h in
      by-known n (append_left (put_nodes ++ N.need ++ group_nodes ++ target_nodes) clear_nodes n (append_left (put_nodes ++ N.need ++ group_nodes) target_nodes n (append_right (put_nodes ++ N.need) group_nodes n (subst (Has group_nodes) g.node (map-has (λ (g : Group). g.node) N.groups g.group g.listed)))))
      (subst (IsKnown D N) g.node (all-has (λ (k : Group). IsKnown D N k.node × IfSome k.after (λ c. D.row_of c ≡ Some k.node)) N.groups g.group f.groups_known g.listed).0)

  reg-field : (r : RegMark) → Has C.regs r → IsField r.field.node
  reg-field r i = go (clears N r.field) refl (held-is D N C x f emb r.field (register_part m N r.field) (D.held r.field) r (reg-look D N C x f emb r i)).1
    where
      held : (q : Option NodeId) → D.held r.field ≡ q → holds_mentioned m q ≡ true → IsField r.field.node
      held None e t = cc
      held (Some n) e t = by-mention r.field.node (mentioned-up n r.field.node t (ap node_of ((x.one_held n r.field).0 e)))

      go : (b : Bool) → clears N r.field ≡ b → (b || holds_mentioned m (D.held r.field)) ≡ true → IsField r.field.node
      go true e t = let h = clears-has N.clear r.field e in by-known r.field.node (append_right (put_nodes ++ N.need ++ group_nodes ++ target_nodes) clear_nodes r.field.node (map-has (λ (k : FieldId). k.node) N.clear r.field h)) (all-has (λ (k : FieldId). IsKnown D N k.node) N.clear r.field f.clears_known h)
      go false e t = held (D.held r.field) refl t

  pub fields_are_found : FieldsAreFound L
  fields_are_found = has-all (λ n. (n ≡ root) ⊎ Has L.new n ⊎ IsFound L n) (fields_of L) (λ n h. elim (has-append (map (λ (r : RowMarks). r.node) C.rows) (map (λ (k : FieldId). k.node) L.registers) n h) [
    | inl i ↦ (let r = has-map (λ (r : RowMarks). r.node) C.rows n i in subst IsField r.2 (row-field r.0.node (told-row (row_part m N r.0.node) (content D r.0.node) (row-look D N C x f emb r.0 r.1).1)))
    | inr i ↦ (let k = has-map (λ (k : FieldId). k.node) L.registers n i in let r = has-map (λ (r : RegMark). r.field) C.regs k.0 k.1 in subst IsField (ap (λ (k : FieldId). k.node) r.2 ∙ k.2) (reg-field r.0 r.1))
  ])

  -- ## Each node is found once

  pub content_once : (n : NodeId) → AreDistinct (λ (s : Slot). s.cell) (content D n)
  content_once n = go (D.rows n) (x.once n)
    where
      go : (os : List Owned) → AreDistinct (λ (o : Owned). o.cell) os → AreDistinct (λ (s : Slot). s.cell) (map (slot D) os)
      go [] d = tt
      go (p ∷ os) d = (has-all (λ (s : Slot). s.cell ≢ p.cell) (map (slot D) os) (λ s h. let q = has-map (slot D) os s h in λ e. all-has (λ (q : Owned). q.cell ≢ p.cell) os q.0 d.0 q.1 (ap (λ (s : Slot). s.cell) q.2 ∙ e)), go os d.1)

  one-cell : (n : NodeId) (d e : CellId) (k : NodeId) → Has (content D n) (record { cell = d; node = k; full = true }) → Has (content D n) (record { cell = e; node = k; full = true }) → d ≡ e
  one-cell n d e k h i = let s : Spot.Row n d ≡ Spot.Row n e = sym (stands D x k n d h) ∙ stands D x k n e i in cc

  same-row : (n k : NodeId) (d e : CellId) → Spot.Row n d ≡ Spot.Row k e → n ≡ k
  same-row n k d e s = cc

  same-register : (a b : FieldId) → Spot.Register a ≡ Spot.Register b → a ≡ b
  same-register a b s = cc

  row-register : (n : NodeId) (d : CellId) (k : FieldId) → Spot.Row n d ≡ Spot.Register k → ⊥
  row-register n d k s = cc

  row-place : (r : RowMarks) (g : Found) → Has C.rows r → Has (found_in (spread r.marks)) g → (c : CellId) × (D.place g.node ≡ Spot.Row r.node c)
  row-place r g i h = let t = found_in-has (spread r.marks) g h in (t.0, touch_place D C x o r t.0 g.node g.how i t.1)

  reg-place : (r : RegMark) (g : Found) → Has C.regs r → Has (found_at r) g → D.place g.node ≡ Spot.Register r.field
  reg-place r g i h = held_place D C x o r g.node i (found_held-is r.held r.how g h).0

  loose-place : (g : Found) → Has (found_loose C.loose) g → D.place g.node ≡ Spot.Nowhere
  loose-place g h = let l = has-map (λ (l : Loose). let g : Found = record { node = l.node; how = l.how } in g) C.loose g h in subst (λ n. D.place n ≡ Spot.Nowhere) (ap (λ (g : Found). g.node) l.2) (o.loose l.0 l.1).0

  abbrev found_node : Found → NodeId
  found_node g = g.node

  pub nodes_are_found_once : NodesAreFoundOnce L
  nodes_are_found_once =
      distinct-append found_node (in_rows found_in C.rows) (flat_map found_at C.regs ++ found_loose C.loose)
      (distinct-flat found_node (λ (r : RowMarks). found_in (spread r.marks)) (λ (r : RowMarks). r.node) C.rows (rising_distinct node_cmp node_cmp_total (λ (r : RowMarks). r.node) C.rows emb.rows.rising)
      (λ r i. touched-once (content D r.node) (spread r.marks) (o.rows r i) (content_once r.node) (λ d e k h j. one-cell r.node d e k h j))
      (λ r q a b i j h k e. let u = row-place r a i h in let v = row-place q b j k in same-row q.node r.node v.0 u.0 (sym v.1 ∙ ap D.place e ∙ u.1)))
      (distinct-append found_node (flat_map found_at C.regs) (found_loose C.loose)
      (distinct-flat found_node found_at (λ (r : RegMark). r.field) C.regs (rising_distinct field_cmp field_cmp_total (λ (r : RegMark). r.field) C.regs emb.regs.rising)
      (λ r i. held-alone r.held r.how)
      (λ r q a b i j h k e. same-register q.field r.field (sym (reg-place q b j k) ∙ ap D.place e ∙ reg-place r a i h)))
      (loose-once C.loose (rising_distinct node_cmp node_cmp_total (λ (l : Loose). l.node) C.loose emb.loose.rising))
      (λ a b h i e. let r = has-flat_map found_at C.regs a h in register-not-nowhere r.0.field (sym (reg-place r.0 a r.1 r.2) ∙ ap D.place (sym e) ∙ loose-place b i)))
      (λ a b h i e. let r = has-flat_map (λ (r : RowMarks). found_in (spread r.marks)) C.rows a h in let u = row-place r.0 a r.1 r.2 in
      elim (has-append (flat_map found_at C.regs) (found_loose C.loose) b i) [
        | inl j ↦ (let q = has-flat_map found_at C.regs b j in row-register r.0.node u.0 q.0.field (sym u.1 ∙ ap D.place (sym e) ∙ reg-place q.0 b q.1 q.2))
        | inr j ↦ row-not-nowhere r.0.node u.0 (sym u.1 ∙ ap D.place (sym e) ∙ loose-place b j)
      ])
