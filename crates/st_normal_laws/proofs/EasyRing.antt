-- The easy half, in part: new nodes inside new nodes form no ring.
use Rattle.std.proofs.Common.{◌++◌, ◌≡◌, ◌&&◌, Bool, true, false, not, List, [], ◌∷◌, ℕ, Option, Some, None, IfSome, IsSome, cond, refl, ap, ◌∙◌, subst, inl, inr, ◌⊎◌, option_and_then, option_map}
use Rattle.std.specs.Prelude.{slice_get}
use Rattle.std.specs.Option.{option_or}
use Rattle.st_ids.specs.Listing.{Has, item_of}
use Rattle.st_ids.specs.Order.{field_cmp, node_cmp}
use Rattle.st_ids.proofs.Orders.{field_cmp_exact, field_cmp_total, node_cmp_exact, node_cmp_total}
use Rattle.st_ids.specs.declared.names.CellId.{CellId}
use Rattle.st_ids.specs.declared.names.FieldId.{FieldId}
use Rattle.st_ids.specs.declared.names.NodeId.{NodeId}
use Rattle.st_marks.specs.declared.changes.Change.{Change}
use Rattle.st_marks.specs.declared.intents.Intent.{Intent}
use Rattle.st_marks.specs.declared.intents.To.{To}
use Rattle.st_marks.specs.declared.marks.How.{How}
use Rattle.st_marks.specs.declared.marks.RegMark.{RegMark}
use Rattle.st_marks.specs.declared.marks.RowMarks.{RowMarks}
use Rattle.st_marks.specs.declared.places.Slot.{Slot}
use Rattle.st_marks.specs.declared.places.Spot.{Spot}
use Rattle.st_marks.specs.Agree.{LeadsUp}
use Rattle.st_marks.specs.Agree.LeadsUp.{one_up, further_up}
use Rattle.st_marks.specs.Document.{Document, IsSoundInForm, content, node_of, slot, Reaches}
use Rattle.st_marks.specs.Embedding.{IsEmbedding, is_among, row_part}
use Rattle.st_marks.specs.Intent.{Fits, above_new, group_at, is_new, new_row_of, put_of, put_under}
use Rattle.st_marks.specs.Row.{CellMark, Counted, Gap, Touch, Make, Fill, spread}
use Rattle.st_marks.specs.Listings.{Places, placed_in_row, placed_in_register, placed_nowhere, CellView, cells_after, held_after, nodes_new, cell_view, listing_after_change}
use Rattle.st_marks.specs.How.{is_leave}
use Rattle.st_marks.proofs.Lookups.{group_at-group, has-put, new_row_of-group, put_in-has}
use Rattle.st_marks.proofs.Members.{has-map}
use Rattle.st_normal.specs.inside.Links.{stands_after}
use Rattle.st_normal.specs.Rules.{IsNewInNew, NoRingOfNewNodes, incoming_nodes}
use Rattle.st_normal.proofs.AboveItself.{never_ends, one_step, step_before}
use Rattle.st_ids.proofs.Listings.{item_of-has}
use Rattle.st_normal.proofs.ShownPlaces.{after_stands}
use Rattle.st_puts.specs.Meant.{IsOver}
use Rattle.st_puts.proofs.OverDocuments.{embedding_over, new-is, row-look}
use Rattle.st_normal_laws.proofs.EasyPuts.{row-incoming}
use Rattle.st_puts.proofs.RegisterRules.{fill-put}
use Rattle.st_puts.proofs.FoundPlaces.{touched}

-- who stands in a row after stood there before, or comes in
after-comes : (ms : List CellMark) (n : NodeId) → Has (stands_after ms) n → ((d : CellId) × (h : How) × Has ms (Touch d n h)) ⊎ Has (incoming_nodes ms) n
after-comes [] n i = absurd i
after-comes (Counted ∷ ms) n i = elim (after-comes ms n i) [ inl r ↦ inl (r.0, r.1, inr r.2) | inr j ↦ inr j ]
after-comes (Gap e ∷ ms) n i = elim (after-comes ms n i) [ inl r ↦ inl (r.0, r.1, inr r.2) | inr j ↦ inr j ]
after-comes (Touch e k g ∷ ms) n i = go (is_leave g) i (λ j. after-comes ms n j)
  where
    rest : ((d : CellId) × (h : How) × Has ms (Touch d n h)) ⊎ Has (incoming_nodes ms) n → ((d : CellId) × (h : How) × Has (Touch e k g ∷ ms) (Touch d n h)) ⊎ Has (incoming_nodes ms) n
    rest (inl r) = inl (r.0, r.1, inr r.2)
    rest (inr j) = inr j

    go : (b : Bool) → Has (cond b [] (k ∷ []) ++ stands_after ms) n → (Has (stands_after ms) n → ((d : CellId) × (h : How) × Has ms (Touch d n h)) ⊎ Has (incoming_nodes ms) n) → ((d : CellId) × (h : How) × Has (Touch e k g ∷ ms) (Touch d n h)) ⊎ Has (incoming_nodes ms) n
    go true j more = rest (more j)
    go false (inl q) more = inl (e, g, inl (ap (λ k. Touch e k g) q))
    go false (inr j) more = rest (more j)
after-comes (Make e k true ∷ ms) n (inl q) = inr (inl q)
after-comes (Make e k true ∷ ms) n (inr i) = elim (after-comes ms n i) [ inl r ↦ inl (r.0, r.1, inr r.2) | inr j ↦ inr (inr j) ]
after-comes (Make e k false ∷ ms) n i = elim (after-comes ms n i) [ inl r ↦ inl (r.0, r.1, inr r.2) | inr j ↦ inr j ]
after-comes (Fill e k ∷ ms) n (inl q) = inr (inl q)
after-comes (Fill e k ∷ ms) n (inr i) = elim (after-comes ms n i) [ inl r ↦ inl (r.0, r.1, inr r.2) | inr j ↦ inr (inr j) ]

-- who is in a register after comes in, or was there before
held-comes : (r : RegMark) (n : NodeId) → held_after r ≡ Some n → (r.fill ≡ Some n) ⊎ (r.held ≡ Some n)
held-comes r n e = go r.fill refl e
  where
    kept : (a b : Bool) → cond a None (cond b None r.held) ≡ Some n → r.held ≡ Some n
    kept true b e = cc
    kept false true e = cc
    kept false false e = e

    go : (q : Option NodeId) → r.fill ≡ q → option_or q (cond (is_leave r.how) None (cond (r.clear && not (Rattle.st_marks.specs.How.is_here r.how)) None r.held)) ≡ Some n → (r.fill ≡ Some n) ⊎ (r.held ≡ Some n)
    go (Some k) f e = inl (f ∙ e)
    go None f e = inr (kept (is_leave r.how) (r.clear && not (Rattle.st_marks.specs.How.is_here r.how)) e)

module _ (D : Document) (N : Intent) (C : Change) (x : IsSoundInForm D) (f : Fits D N) (emb : IsEmbedding D N C) where
  abbrev m : NodeId → Bool
  m = emb.mentioned

  o : IsOver D C
  o = embedding_over D N C x f emb

  abbrev New : NodeId → Type 0
  New n = Has (nodes_new C.new) n

  old : (n : NodeId) → New n → IsSome (D.nodes n) → ⊥
  old n h k = let bad : ◌≡◌ {A = Bool} false true = rw (o.new_nodes n h) at k in cc

  owner-known : (r n : NodeId) (c : CellId) (b : Bool) → Has (content D r) (record { cell = c; node = n; full = b }) → IsSome (D.nodes n)
  owner-known r n c b h = let s = has-map (slot D) (D.rows r) (record { cell = c; node = n; full = b }) h in subst (λ k. IsSome (D.nodes k)) (ap (λ (s : Slot). s.node) s.2) (x.cells_known r s.0 s.1).1

  up-new : (n p : NodeId) → New n → New p → put_under N (put_of N n) ≡ Some p → above_new N n ≡ Some p
  up-new n p h i e = (λ z. cond (new-is D N C x f emb n h z) (option_and_then (λ (q : NodeId). cond (is_new N q) (Some q) None) (e z)) None) ∙ ap (λ b. cond b (Some p) None) (new-is D N C x f emb p i)

  in-row : (r : RowMarks) (n : NodeId) → Has C.rows r → New n → Has (stands_after (spread r.marks)) n → put_under N (put_of N n) ≡ Some r.node
  in-row r n i h s = elim (after-comes (spread r.marks) n s) [
    | inl t ↦ absurd (old n h (owner-known r.node n t.0 true (touched (content D r.node) (spread r.marks) t.0 n t.1 (o.rows r i) t.2)))
    | inr j ↦ (let w = row-incoming (row_part m N r.node) (content D r.node) n (subst (λ ms. Has (incoming_nodes ms) n) (row-look D N C x f emb r i).0 j) in
        ap (put_under N) w.1.0 ∙ of_cell w.0 w.1.1)
  ]
    where
      of_cell : (d : CellId) → ((a : Option CellId) × Has (group_at N r.node a) (record { cell = d; node = n })) ⊎ Has (content D r.node) (record { cell = d; node = n; full = false }) → new_row_of N d ≡ Some r.node
      of_cell d (inl a) = let g = group_at-group N r.node a.0 (record { cell = d; node = n }) a.1 in new_row_of-group N f.itself g.group (record { cell = d; node = n }) g.listed g.cell ∙ ap (λ k. Some k) g.node
      of_cell d (inr c) = absurd (old n h (owner-known r.node n d false c))

  in-register : (r : RegMark) (n : NodeId) → Has C.regs r → New n → held_after r ≡ Some n → put_under N (put_of N n) ≡ Some r.field.node
  in-register r n i h e = elim (held-comes r n e) [
    | inl q ↦ ap (put_under N) (has-put N f.itself (record { node = n; to = To.Register r.field }) (put_in-has N r.field n (fill-put D N C x f emb r n i q).0))
    | inr q ↦ absurd (old n h (x.held_known n r.field (o.held r i ∙ q)).0)
  ]

  row-says : (n k : NodeId) (cells : List CellView) (b : Bool) (q : Option RowMarks) → item_of node_cmp (λ (r : RowMarks). r.node) C.rows k ≡ q
      → option_or (option_map (λ (r : RowMarks). cells_after (spread r.marks)) q) (cond b (Some []) None) ≡ Some cells
      → (j : ℕ) (c : CellId) → slice_get cells j ≡ Some (cell_view c n true) → New n → put_under N (put_of N n) ≡ Some k
  row-says n k cells true None e g j c h i = let same : [] ≡ cells = cc in let bad : None ≡ Some (cell_view c n true) = ap (λ l. slice_get l j) same ∙ h in cc
  row-says n k cells false None e g j c h i = cc
  row-says n k cells b (Some r) e g j c h i =
      let l = item_of-has node_cmp node_cmp_total node_cmp_exact (λ (r : RowMarks). r.node) C.rows k r e in
      let same : cells_after (spread r.marks) ≡ cells = cc in
      in-row r n l.0 i (after_stands (spread r.marks) j c n (ap (λ l. slice_get l j) same ∙ h)) ∙ ap (λ k. Some k) l.1

  reg-says : (n : NodeId) (k : FieldId) (b : Bool) (q : Option RegMark) → item_of field_cmp (λ (r : RegMark). r.field) C.regs k ≡ q
      → option_or (option_map held_after q) (cond b (Some None) None) ≡ Some (Some n) → New n → put_under N (put_of N n) ≡ Some k.node
  reg-says n k true None e g i = cc
  reg-says n k false None e g i = cc
  reg-says n k b (Some r) e g i =
      let l = item_of-has field_cmp field_cmp_total field_cmp_exact (λ (r : RegMark). r.field) C.regs k r e in
      let same : held_after r ≡ Some n = cc in
      in-register r n l.0 i same ∙ ap (λ (k : FieldId). Some k.node) l.1

  says-under : (n p : NodeId) (s : Spot) → Places (listing_after_change C) n s → New n → node_of s ≡ Some p → put_under N (put_of N n) ≡ Some p
  says-under n p s (placed_in_row k _ c cells j e h) i g = row-says n k cells (is_among (nodes_new C.new) k) (item_of node_cmp (λ (r : RowMarks). r.node) C.rows k) refl e j c h i ∙ g
  says-under n p s (placed_in_register k _ e) i g = reg-says n k (is_among (nodes_new C.new) k.node) (item_of field_cmp (λ (r : RegMark). r.field) C.regs k) refl e i ∙ g
  says-under n p s (placed_nowhere _ e) i g = cc

  says-above : (n p : NodeId) (s : Spot) → IsNewInNew C n s → node_of s ≡ Some p → above_new N n ≡ Some p
  says-above n p s a g = up-new n p a.0 (subst (λ (q : Option NodeId). IfSome q New) g a.1) (says-under n p s a.2 a.0 g)

  reaches : (n q : NodeId) → LeadsUp (IsNewInNew C) n q → Reaches (above_new N) n q
  reaches n q (one_up s a e) = one_step (above_new N) n q (says-above n q s a e)
  reaches n q (further_up {p = k} s a e l) = step_before (above_new N) n k q (says-above n k s a e) (reaches k q l)

  pub no_ring_of_new : NoRingOfNewNodes C
  no_ring_of_new n l = let e = f.itself.no_ring n in never_ends (above_new N) e.0 n (reaches n n l) e.1
