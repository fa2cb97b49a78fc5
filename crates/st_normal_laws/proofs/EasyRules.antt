-- The easy half, in part: the rules that an embedding obeys by its listings and by what fits.
use Rattle.std.proofs.Common.{◌≡◌, ◌≢◌, ◌++◌, ℕ, zero, Bool, true, false, List, [], ◌∷◌, map, Option, Some, None, IsSome, IsTrue, cond, refl, sym, ap, ◌∙◌, subst, inl, inr, ◌⊎◌, option_map, option_and_then}
use Rattle.std.specs.List.{AllByRecursion, filter_map, find, flat_map, list_any}
use Rattle.st_ids.specs.Listing.{Has, item_of}
use Rattle.st_ids.specs.Order.{field_cmp, node_cmp}
use Rattle.st_ids.proofs.Orders.{field_cmp_exact, field_cmp_total, node_cmp_exact, node_cmp_total}
use Rattle.st_ids.specs.declared.names.CellId.{CellId}
use Rattle.st_ids.specs.declared.names.FieldId.{FieldId}
use Rattle.st_ids.specs.declared.names.NodeId.{NodeId}
use Rattle.st_marks.specs.declared.changes.Change.{Change}
use Rattle.st_marks.specs.declared.intents.Group.{Group}
use Rattle.st_marks.specs.declared.intents.Intent.{Intent}
use Rattle.st_marks.specs.declared.marks.How.{How}
use Rattle.st_marks.specs.declared.marks.RegMark.{RegMark}
use Rattle.st_marks.specs.declared.marks.RowMarks.{RowMarks}
use Rattle.st_marks.specs.declared.places.Spot.{Spot}
use Rattle.st_marks.specs.Document.{Document, IsSoundInForm, above, content, node_of, first_of, revs, Reaches}
use Rattle.st_ids.specs.Root.{root, opening}
use Rattle.st_marks.specs.Embedding.{IsEmbedding, row_marks, row_part, tells, is_among}
use Rattle.st_marks.specs.Intent.{Fits, cell_of}
use Rattle.st_marks.specs.Row.{CellMark, Counted, Gap, Touch, Make, Fill, embed_row, merge, spread}
use Rattle.st_normal.specs.Rules.{IsFound, Entries, entries_of_change, ChangeIsRising, MarksAreMerged, NeededNodesAreFound, NewNodesAreNotFound, NewRegistersAreEmpty, NoRingBeforeChange, OpeningIsBase, RowsTell}
use Rattle.st_marks.specs.Listings.{cells_before, nodes_new, Places, placed_in_row, placed_in_register, placed_nowhere, CellView, cell_view, listing_before_change}
use Rattle.st_ids.proofs.Listings.{has-item_of, item_of-has}
use Rattle.st_marks.proofs.Members.{all-has, append_left, append_right, has-all}
use Rattle.st_puts.specs.Meant.{IsOver}
use Rattle.st_marks.specs.declared.intents.Put.{Put}
use Rattle.st_puts.proofs.FoundPlaces.{held_place, touch_place, found_there}
use Rattle.st_puts.proofs.OverDocuments.{embedding_over, mentioned-found, row-look, row-told}
use Rattle.st_marks.specs.Agree.{LeadsUp}
use Rattle.st_marks.specs.Agree.LeadsUp.{one_up, further_up}
use Rattle.st_marks.specs.Verdict.{HasBase}
use Rattle.st_normal.proofs.AboveItself.{never_ends, one_step, step_before}
use Rattle.st_normal.proofs.NoRings.{among_has}
use Rattle.st_normal.proofs.ShownPlaces.{before_stands}
use Rattle.st_normal.specs.inside.Links.{stands_before}

pub merged-told : (r : RowMarks) (n : NodeId) (cells : List CellMark) → row_marks n cells ≡ Some r → r.marks ≡ merge cells
merged-told r n cells e = ap at (sym e ∙ ap (λ b. cond b (Some (record { node = n; marks = merge cells })) None) (row-told r n cells e).1)
  where
    at : Option RowMarks → List Rattle.st_marks.specs.declared.marks.Mark.Mark
    at None = r.marks
    at (Some y) = y.marks

stands-touch : (ms : List CellMark) (n : NodeId) → Has (stands_before ms) n → (d : CellId) × (h : How) × Has ms (Touch d n h)
stands-touch [] n i = absurd i
stands-touch (Counted ∷ ms) n i = let r = stands-touch ms n i in (r.0, r.1, inr r.2)
stands-touch (Gap e ∷ ms) n i = let r = stands-touch ms n i in (r.0, r.1, inr r.2)
stands-touch (Touch e k g ∷ ms) n (inl q) = (e, g, inl (ap (λ k. Touch e k g) q))
stands-touch (Touch e k g ∷ ms) n (inr i) = let r = stands-touch ms n i in (r.0, r.1, inr r.2)
stands-touch (Make e k b ∷ ms) n i = let r = stands-touch ms n i in (r.0, r.1, inr r.2)
stands-touch (Fill e k ∷ ms) n i = let r = stands-touch ms n i in (r.0, r.1, inr r.2)

module _ (D : Document) (N : Intent) (C : Change) (x : IsSoundInForm D) (f : Fits D N) (emb : IsEmbedding D N C) where
  abbrev L : Entries
  L = entries_of_change C

  abbrev m : NodeId → Bool
  m = emb.mentioned

  o : IsOver D C
  o = embedding_over D N C x f emb

  unknown : (n : NodeId) → D.nodes n ≡ None → IsSome (D.nodes n) → ⊥
  unknown n e k = let bad : ◌≡◌ {A = Bool} false true = rw e at k in cc

  pub marks_are_merged : MarksAreMerged L
  marks_are_merged = has-all (λ (r : RowMarks). r.marks ≡ merge (spread r.marks)) C.rows (λ r i.
      merged-told r r.node (embed_row (row_part m N r.node) (content D r.node)) (sym (emb.rows.at_each r.node) ∙ has-item_of node_cmp node_cmp_total node_cmp_exact (λ (r : RowMarks). r.node) C.rows r emb.rows.rising i)
      ∙ ap merge (sym (row-look D N C x f emb r i).0))

  pub rows_tell : RowsTell L
  rows_tell = has-all (λ (r : RowMarks). IsTrue (list_any tells (spread r.marks))) C.rows (λ r i. let w = row-look D N C x f emb r i in ap (list_any tells) w.0 ∙ w.1)

  pub lists_rise : ChangeIsRising C
  lists_rise = record { need = emb.need.rising; new = emb.new.rising; rows = emb.rows.rising; regs = emb.regs.rising; loose = emb.loose.rising }

  pub new_not_found : NewNodesAreNotFound L
  new_not_found = has-all (λ n. (n ≢ root) × (IsFound L n → ⊥)) L.new (λ n h. let e = o.new_nodes n h in
      (λ q. unknown n e (subst (λ k. IsSome (D.nodes k)) (sym q) x.root_known), λ i. unknown n e (found_there D C x o n i)))

  in-need : (n : NodeId) → Has C.need n → Has N.need n
  in-need n h = (among_has N.need n).0 (said (is_among N.need n) (sym (emb.need.at_each n) ∙ has-item_of node_cmp node_cmp_total node_cmp_exact (λ (k : NodeId). k) C.need n emb.need.rising h))
    where
      said : (b : Bool) → cond b (Some n) None ≡ Some n → b ≡ true
      said true e = refl
      said false e = cc

  pub needed_are_found : NeededNodesAreFound C
  needed_are_found = has-all (λ n. (n ≡ root) ⊎ IsFound L n) C.need (λ n h. let i = in-need n h in
      mentioned-found D N C x f emb n ((emb.which n).1 (
        n,
        append_left (map (λ (p : Put). p.node) N.put ++ N.need ++ map (λ (g : Group). g.node) N.groups ++ filter_map (λ (p : Put). option_and_then D.row_of (cell_of p.to)) N.put) (map (λ (k : FieldId). k.node) N.clear) n
            (append_left (map (λ (p : Put). p.node) N.put ++ N.need ++ map (λ (g : Group). g.node) N.groups) (filter_map (λ (p : Put). option_and_then D.row_of (cell_of p.to)) N.put) n
            (append_left (map (λ (p : Put). p.node) N.put ++ N.need) (map (λ (g : Group). g.node) N.groups) n (append_right (map (λ (p : Put). p.node) N.put) N.need n i))),
        all-has (λ n. IsSome (D.nodes n)) N.need n f.needs_known i,
        zero,
        refl,
      )))

  pub new_registers_are_empty : NewRegistersAreEmpty C
  new_registers_are_empty = has-all (λ (r : RegMark). Has (nodes_new C.new) r.field.node → r.held ≡ None) C.regs (λ r i h. go r i h r.held refl)
    where
      go : (r : RegMark) → Has C.regs r → Has (nodes_new C.new) r.field.node → (q : Option NodeId) → r.held ≡ q → q ≡ None
      go r i h None e = refl
      go r i h (Some n) e = absurd (unknown r.field.node (o.new_nodes r.field.node h) (x.held_known n r.field (o.held r i ∙ e)).1)

  -- ## No ring

  row-says : (n k : NodeId) (cells : List CellView) (q : Option RowMarks) → item_of node_cmp (λ (r : RowMarks). r.node) C.rows k ≡ q → option_map (λ (r : RowMarks). cells_before (spread r.marks)) q ≡ Some cells
      → (j : ℕ) (c : CellId) → Rattle.std.specs.Prelude.slice_get cells j ≡ Some (cell_view c n true) → above D n ≡ Some k
  row-says n k cells None e g j c h = cc
  row-says n k cells (Some r) e g j c h =
      let i = item_of-has node_cmp node_cmp_total node_cmp_exact (λ (r : RowMarks). r.node) C.rows k r e in
      let same : cells_before (spread r.marks) ≡ cells = cc in
      let t = stands-touch (spread r.marks) n (before_stands (spread r.marks) j c n (subst (λ l. Rattle.std.specs.Prelude.slice_get l j ≡ Some (cell_view c n true)) (sym same) h)) in
      ap node_of (touch_place D C x o r t.0 n t.1 i.0 t.2) ∙ ap (λ k. Some k) i.1

  reg-says : (n : NodeId) (k : FieldId) (q : Option RegMark) → item_of field_cmp (λ (r : RegMark). r.field) C.regs k ≡ q → option_map (λ (r : RegMark). r.held) q ≡ Some (Some n) → above D n ≡ Some k.node
  reg-says n k None e g = cc
  reg-says n k (Some r) e g =
      let i = item_of-has field_cmp field_cmp_total field_cmp_exact (λ (r : RegMark). r.field) C.regs k r e in
      let same : r.held ≡ Some n = cc in
      ap node_of (held_place D C x o r n i.0 same) ∙ ap (λ (k : FieldId). Some k.node) i.1

  says-above : (n p : NodeId) (s : Spot) → Places (listing_before_change C) n s → node_of s ≡ Some p → above D n ≡ Some p
  says-above n p s (placed_in_row k _ c cells j e h) g = row-says n k cells (item_of node_cmp (λ (r : RowMarks). r.node) C.rows k) refl e j c h ∙ g
  says-above n p s (placed_in_register k _ e) g = reg-says n k (item_of field_cmp (λ (r : RegMark). r.field) C.regs k) refl e ∙ g
  says-above n p s (placed_nowhere _ e) g = cc

  reaches : (n q : NodeId) → LeadsUp (Places (listing_before_change C)) n q → Reaches (above D) n q
  reaches n q (one_up s a e) = one_step (above D) n q (says-above n q s a e)
  reaches n q (further_up {p = k} s a e l) = step_before (above D) n k q (says-above n k s a e) (reaches k q l)

  pub no_ring_before : NoRingBeforeChange C
  no_ring_before n l = let e = x.no_ring n in never_ends (above D) e.0 n (reaches n n l) e.1

  -- ## The base

  pub opening_is_base : N.schema ≡ None → OpeningIsBase C
  opening_is_base plain e = emb.base.1 (subst (λ (s : Option (List ℕ)). HasBase D.schemas s N.under) (sym plain) (subst (Has (revs D.schemas)) (sym e ∙ emb.under) (first (revs D.schemas) x.in_effect.begun)))
    where
      first : (rs : List Rattle.st_ids.specs.declared.names.Rev.Rev) → first_of rs ≡ Some opening → Has rs opening
      first [] q = cc
      first (r ∷ rs) q = let same : r ≡ opening = cc in inl same
