-- A document that is laid out from lists is sound, and has the rows from which it is laid out.
use Rattle.std.proofs.Common.{◌≡◌, ◌≢◌, ◌↔◌, ◌<◌, ◌^◌, suc, Bool, true, false, List, [], ◌∷◌, map, length, Option, Some, None, option_map, IsSome, cond, refl, sym, ap, ◌∙◌, subst, inl, inr, lit<}
use Rattle.std.specs.Option.{option_map_or}
use Rattle.std.specs.List.{find, flat_map, list_any}
use Rattle.st_ids.specs.Listing.{AreDistinct, Has}
use Rattle.st_ids.specs.Order.{same_cell, same_field, same_node}
use Rattle.st_ids.proofs.Orders.{same_cell-true, same_cell-itself, same_field-true, same_field-itself, same_node-true, same_node-itself}
use Rattle.st_ids.specs.declared.names.CellId.{CellId}
use Rattle.st_ids.specs.declared.names.FieldId.{FieldId}
use Rattle.st_ids.specs.declared.names.NodeId.{NodeId}
use Rattle.st_marks.specs.declared.intents.Owned.{Owned}
use Rattle.st_marks.specs.declared.places.Slot.{Slot}
use Rattle.st_marks.specs.declared.places.Spot.{Spot}
use Rattle.st_marks.specs.Document.{IsSoundInForm, ClimbsToAnEnd, above, climb, content, is_cell, node_of, owned_cell, slot}
use Rattle.st_ids.specs.Root.{root}
use Rattle.st_normal.specs.inside.Ring.{AreListed}
use Rattle.st_normal.proofs.AboveItself.{no_ring-leads_up, too_long}
use Rattle.st_marks.proofs.Climb.{is_cell-true}
use Rattle.st_marks.proofs.Members.{all-has, has-all, append_left, append_right, has-append, map-has, has-map, flat_map-has, has-flat_map, first-has, none-has, any-has, has-any, distinct-has, first-distinct, one_list, list_distinct}
use Rattle.st_normal_laws.specs.Laid.{LaidRow, LaidHeld, Stand, Layout, cells_at, stands_in, all_stands, owned_at, laid_document, StandsAt, IsLayout}
use Rattle.st_lemmas.proofs.Bools.{true-false}

-- ## Rows

pub stands-has : (n : NodeId) (ss : List Slot) (s : Slot) → Has ss s → s.full ≡ true → Has (stands_in n ss) (record { node = s.node; spot = Spot.Row n s.cell })
stands-has n [] s h e = absurd h
stands-has n (t ∷ ss) s (inl q) e = subst (λ b. Has (cond b (record { node = t.node; spot = Spot.Row n t.cell } ∷ stands_in n ss) (stands_in n ss)) (record { node = s.node; spot = Spot.Row n s.cell })) (sym (ap (λ (x : Slot). x.full) q ∙ e)) (inl (λ i. record { node = (q i).node; spot = Spot.Row n (q i).cell }))
stands-has n (t ∷ ss) s (inr h) e = elim t.full as (λ b. Has (cond b (record { node = t.node; spot = Spot.Row n t.cell } ∷ stands_in n ss) (stands_in n ss)) (record { node = s.node; spot = Spot.Row n s.cell })) [
  | true ↦ inr (stands-has n ss s h e)
  | false ↦ stands-has n ss s h e
]

pub has-stands : (n : NodeId) (ss : List Slot) (x : Stand) → Has (stands_in n ss) x → (s : Slot) × Has ss s × (s.full ≡ true) × (x.node ≡ s.node) × (x.spot ≡ Spot.Row n s.cell)
has-stands n [] x h = absurd h
has-stands n (t ∷ ss) x h = go t.full refl (λ i. has-stands n ss x i) h
  where
    go : (b : Bool) → t.full ≡ b → (Has (stands_in n ss) x → (s : Slot) × Has ss s × (s.full ≡ true) × (x.node ≡ s.node) × (x.spot ≡ Spot.Row n s.cell))
        → Has (cond b (record { node = t.node; spot = Spot.Row n t.cell } ∷ stands_in n ss) (stands_in n ss)) x → (s : Slot) × Has (t ∷ ss) s × (s.full ≡ true) × (x.node ≡ s.node) × (x.spot ≡ Spot.Row n s.cell)
    go true e rest (inl q) = (t, inl refl, e, ap (λ (y : Stand). y.node) (sym q), ap (λ (y : Stand). y.spot) (sym q))
    go true e rest (inr i) = let r = rest i in (r.0, inr r.1, r.2, r.3, r.4)
    go false e rest i = let r = rest i in (r.0, inr r.1, r.2, r.3, r.4)

module _ (L : Layout) (w : IsLayout L) where
  abbrev stands : List Stand
  stands = all_stands L

  -- a row is found
  pub row_found : (r : LaidRow) → Has L.rows r → cells_at L.rows r.node ≡ r.cells
  row_found r h = ap (λ o. option_map_or (λ (r : LaidRow). r.cells) o []) (first-distinct (λ (r : LaidRow). r.node) L.rows (λ (q : LaidRow). same_node q.node r.node) r w.rows_once h (same_node-itself r.node) (λ q t. same_node-true q.node r.node t))

  -- and a cell that is there is in one
  pub cell_found : (n : NodeId) (s : Slot) → Has (cells_at L.rows n) s → (r : LaidRow) × Has L.rows r × Has r.cells s × (r.node ≡ n)
  cell_found n s h = go (find (λ (r : LaidRow). same_node r.node n) L.rows) refl h
    where
      go : (o : Option LaidRow) → find (λ (r : LaidRow). same_node r.node n) L.rows ≡ o → Has (option_map_or (λ (r : LaidRow). r.cells) o []) s → (r : LaidRow) × Has L.rows r × Has r.cells s × (r.node ≡ n)
      go None e i = absurd i
      go (Some r) e i = let f = first-has (λ (r : LaidRow). same_node r.node n) L.rows r e in (r, f.0, i, same_node-true r.node n f.1)

  abbrev all_cells : List Slot
  all_cells = flat_map (λ (r : LaidRow). r.cells) L.rows

  among : (r : LaidRow) (s : Slot) → Has L.rows r → Has r.cells s → Has all_cells s
  among r s h i = flat_map-has (λ (r : LaidRow). r.cells) L.rows r s h i

  same_row : (r q : LaidRow) (s t : Slot) → Has L.rows r → Has L.rows q → Has r.cells s → Has q.cells t → s.cell ≡ t.cell → r ≡ q
  same_row r q s t h k i j e = one_list (λ (r : LaidRow). r.cells) (λ (s : Slot). s.cell) L.rows r q s t w.cells_once h k i j e

  -- ## Places

  pub standing_place : (n : NodeId) (s : Spot) → StandsAt stands n s → (laid_document L).place n ≡ s
  standing_place n s h = ap (λ o. option_map_or (λ (s : Stand). s.spot) o Spot.Nowhere) (first-distinct (λ (s : Stand). s.node) stands (λ (x : Stand). same_node x.node n) (record { node = n; spot = s }) w.stands_once h (same_node-itself n) (λ x t. same_node-true x.node n t))

  pub place_standing : (n : NodeId) (s : Spot) → (laid_document L).place n ≡ s → s ≢ Spot.Nowhere → StandsAt stands n s
  place_standing n s e d = go (find (λ (x : Stand). same_node x.node n) stands) refl e
    where
      go : (o : Option Stand) → find (λ (x : Stand). same_node x.node n) stands ≡ o → option_map_or (λ (s : Stand). s.spot) o Spot.Nowhere ≡ s → StandsAt stands n s
      go None f g = absurd (d (sym g))
      go (Some x) f g = let r = first-has (λ (x : Stand). same_node x.node n) stands x f in subst (Has stands) (λ i. record { node = same_node-true x.node n r.1 i; spot = g i }) r.0

  -- who stands in a row has a full cell there
  pub stands_row : (m n : NodeId) (c : CellId) → StandsAt stands m (Spot.Row n c) → (r : LaidRow) × Has L.rows r × (r.node ≡ n) × Has r.cells (record { cell = c; node = m; full = true })
  stands_row m n c h = elim (has-append (flat_map (λ (r : LaidRow). stands_in r.node r.cells) L.rows) (map (λ (h : LaidHeld). let s : Stand = record { node = h.node; spot = Spot.Register h.field } in s) L.held) (record { node = m; spot = Spot.Row n c }) h) [
    | inl i ↦ (let r = has-flat_map (λ (r : LaidRow). stands_in r.node r.cells) L.rows (record { node = m; spot = Spot.Row n c }) i in
        let s = has-stands r.0.node r.0.cells (record { node = m; spot = Spot.Row n c }) r.2 in
        let at : Spot.Row n c ≡ Spot.Row r.0.node s.0.cell = s.4 in
        let row : n ≡ r.0.node = cc in
        let cell : c ≡ s.0.cell = cc in
        (r.0, r.1, sym row, subst (Has r.0.cells) (λ i. record { cell = sym cell i; node = sym s.3 i; full = s.2 i }) s.1))
    | inr i ↦ (let r = has-map (λ (h : LaidHeld). let s : Stand = record { node = h.node; spot = Spot.Register h.field } in s) L.held (record { node = m; spot = Spot.Row n c }) i in
        let bad : Spot.Register r.0.field ≡ Spot.Row n c = ap (λ (s : Stand). s.spot) r.2 in absurd (not_row r.0.field n c bad))
  ]
    where
      not_row : (f : FieldId) (n : NodeId) (c : CellId) → Spot.Register f ≡ Spot.Row n c → ⊥
      not_row f n c e = cc

  pub row_stands : (r : LaidRow) (c : CellId) (m : NodeId) → Has L.rows r → Has r.cells (record { cell = c; node = m; full = true }) → StandsAt stands m (Spot.Row r.node c)
  row_stands r c m h i = append_left (flat_map (λ (r : LaidRow). stands_in r.node r.cells) L.rows) _ (record { node = m; spot = Spot.Row r.node c })
      (flat_map-has (λ (r : LaidRow). stands_in r.node r.cells) L.rows r (record { node = m; spot = Spot.Row r.node c }) h (stands-has r.node r.cells (record { cell = c; node = m; full = true }) i refl))

  pub stands_register : (m : NodeId) (f : FieldId) → StandsAt stands m (Spot.Register f) → Has L.held (record { field = f; node = m })
  stands_register m f h = elim (has-append (flat_map (λ (r : LaidRow). stands_in r.node r.cells) L.rows) (map (λ (h : LaidHeld). let s : Stand = record { node = h.node; spot = Spot.Register h.field } in s) L.held) (record { node = m; spot = Spot.Register f }) h) [
    | inl i ↦ (let r = has-flat_map (λ (r : LaidRow). stands_in r.node r.cells) L.rows (record { node = m; spot = Spot.Register f }) i in
        let s = has-stands r.0.node r.0.cells (record { node = m; spot = Spot.Register f }) r.2 in
        absurd (not_register f r.0.node s.0.cell s.4))
    | inr i ↦ (let r = has-map (λ (h : LaidHeld). let s : Stand = record { node = h.node; spot = Spot.Register h.field } in s) L.held (record { node = m; spot = Spot.Register f }) i in
        let field : r.0.field ≡ f = same_register r.0.field f (ap (λ (s : Stand). s.spot) r.2) in
        subst (Has L.held) (λ i. record { field = field i; node = (r.2 i).node }) r.1)
  ]
    where
      not_register : (f : FieldId) (n : NodeId) (c : CellId) → Spot.Register f ≡ Spot.Row n c → ⊥
      not_register f n c e = cc

      same_register : (f g : FieldId) → Spot.Register f ≡ Spot.Register g → f ≡ g
      same_register f g e = cc

  pub register_stands : (h : LaidHeld) → Has L.held h → StandsAt stands h.node (Spot.Register h.field)
  register_stands h i = append_right (flat_map (λ (r : LaidRow). stands_in r.node r.cells) L.rows) _ (record { node = h.node; spot = Spot.Register h.field })
      (map-has (λ (h : LaidHeld). let s : Stand = record { node = h.node; spot = Spot.Register h.field } in s) L.held h i)

  -- ## What a row shows

  -- a cell is full in the document as it is laid out
  full_is : (r : LaidRow) (s : Slot) → Has L.rows r → Has r.cells s → is_cell s.cell ((laid_document L).place s.node) ≡ s.full
  full_is r s h i = go s.full refl
    where
      spot_not : (t : Spot) → (laid_document L).place s.node ≡ t → s.full ≡ false → is_cell s.cell t ≡ false
      spot_not t e f = decide (is_cell s.cell t) refl
        where
          decide : (b : Bool) → is_cell s.cell t ≡ b → b ≡ false
          decide false g = refl
          decide true g =
              let at = is_cell-true s.cell t g in
              let here = stands_row s.node at.0 s.cell (place_standing s.node (Spot.Row at.0 s.cell) (e ∙ at.1) (λ bad. row_not at.0 s.cell bad)) in
              let same : record { cell = s.cell; node = s.node; full = true } ≡ s =
              distinct-has (λ (s : Slot). s.cell) all_cells (record { cell = s.cell; node = s.node; full = true }) s w.cells_once (among here.0 _ here.1 here.3) (among r s h i) refl in
              ap (λ (x : Slot). x.full) same ∙ f
            where
              row_not : (n : NodeId) (c : CellId) → Spot.Row n c ≡ Spot.Nowhere → ⊥
              row_not n c e = cc

      go : (b : Bool) → s.full ≡ b → is_cell s.cell ((laid_document L).place s.node) ≡ b
      go true e = ap (is_cell s.cell) (standing_place s.node (Spot.Row r.node s.cell) (row_stands r s.cell s.node h (subst (Has r.cells) (λ i. record { cell = s.cell; node = s.node; full = e i }) i))) ∙ same_cell-itself s.cell
      go false e = spot_not ((laid_document L).place s.node) refl e

  shown : (r : LaidRow) → Has L.rows r → (ss : List Slot) → ((s : Slot) → Has ss s → Has r.cells s) → map (slot (laid_document L)) (map owned_at ss) ≡ ss
  shown r h [] sub = refl
  shown r h (s ∷ ss) sub = λ i. record { cell = s.cell; node = s.node; full = full_is r s h (sub s (inl refl)) i } ∷ shown r h ss (λ t j. sub t (inr j)) i

  pub laid_content : (n : NodeId) → content (laid_document L) n ≡ cells_at L.rows n
  laid_content n = go (find (λ (r : LaidRow). same_node r.node n) L.rows) refl
    where
      go : (o : Option LaidRow) → find (λ (r : LaidRow). same_node r.node n) L.rows ≡ o → map (slot (laid_document L)) (map owned_at (option_map_or (λ (r : LaidRow). r.cells) o [])) ≡ option_map_or (λ (r : LaidRow). r.cells) o []
      go None e = refl
      go (Some r) e = let f = first-has (λ (r : LaidRow). same_node r.node n) L.rows r e in shown r f.0 r.cells (λ s i. i)

  -- ## Sound

  known_is : (n : NodeId) → Has (root ∷ L.known) n → IsSome ((laid_document L).nodes n)
  known_is n h = rw (has-any (λ m. same_node m n) (root ∷ L.known) n h (same_node-itself n)) refl

  one_row : (c : CellId) (n : NodeId) → ((laid_document L).row_of c ≡ Some n) ↔ ((m : NodeId) × Has ((laid_document L).rows n) (owned_cell c m))
  one_row c n = (go (find (λ (r : LaidRow). list_any (λ (s : Slot). same_cell s.cell c) r.cells) L.rows) refl, back)
    where
      go : (o : Option LaidRow) → find (λ (r : LaidRow). list_any (λ (s : Slot). same_cell s.cell c) r.cells) L.rows ≡ o → option_map (λ (r : LaidRow). r.node) o ≡ Some n → (m : NodeId) × Has ((laid_document L).rows n) (owned_cell c m)
      go None e f = cc
      go (Some r) e f =
          let g = first-has (λ (r : LaidRow). list_any (λ (s : Slot). same_cell s.cell c) r.cells) L.rows r e in
          let s = any-has (λ (s : Slot). same_cell s.cell c) r.cells g.1 in
          let same : r.node ≡ n = cc in (
            s.0.node,
            subst (λ k. Has (map owned_at (cells_at L.rows k)) (owned_cell c s.0.node)) same
                (subst (λ cs. Has (map owned_at cs) (owned_cell c s.0.node)) (sym (row_found r g.0))
                (subst (λ d. Has (map owned_at r.cells) (owned_cell d s.0.node)) (same_cell-true s.0.cell c s.2) (map-has owned_at r.cells s.0 s.1))),
          )

      back : ((m : NodeId) × Has ((laid_document L).rows n) (owned_cell c m)) → (laid_document L).row_of c ≡ Some n
      back (m, h) =
          let s = has-map owned_at (cells_at L.rows n) (owned_cell c m) h in
          let r = cell_found n s.0 s.1 in
          let cell : s.0.cell ≡ c = ap (λ (o : Owned). o.cell) s.2 in
          finds r.0 r.1 s.0 r.2 cell r.3 (find (λ (r : LaidRow). list_any (λ (s : Slot). same_cell s.cell c) r.cells) L.rows) refl
        where
          finds : (r : LaidRow) → Has L.rows r → (s : Slot) → Has r.cells s → s.cell ≡ c → r.node ≡ n → (o : Option LaidRow) → find (λ (r : LaidRow). list_any (λ (s : Slot). same_cell s.cell c) r.cells) L.rows ≡ o → option_map (λ (r : LaidRow). r.node) o ≡ Some n
          finds r h s i e f None g = absurd (true-false (has-any (λ (s : Slot). same_cell s.cell c) r.cells s i (ap (λ d. same_cell d c) e ∙ same_cell-itself c)) (none-has (λ (r : LaidRow). list_any (λ (s : Slot). same_cell s.cell c) r.cells) L.rows r g h))
          finds r h s i e f (Some q) g =
              let k = first-has (λ (r : LaidRow). list_any (λ (s : Slot). same_cell s.cell c) r.cells) L.rows q g in
              let t = any-has (λ (s : Slot). same_cell s.cell c) q.cells k.1 in
              ap (λ (r : LaidRow). Some r.node) (same_row q r t.0 s k.0 h t.1 i (same_cell-true t.0.cell c t.2 ∙ sym e)) ∙ ap (λ n. Some n) f

  distinct-map : (ss : List Slot) → AreDistinct (λ (s : Slot). s.cell) ss → AreDistinct (λ (o : Owned). o.cell) (map owned_at ss)
  distinct-map [] d = tt
  distinct-map (s ∷ ss) d = (
    has-all (λ (o : Owned). o.cell ≢ s.cell) (map owned_at ss) (λ o h. let t = has-map owned_at ss o h in λ e. all-has (λ (t : Slot). t.cell ≢ s.cell) ss t.0 d.0 t.1 (ap (λ (o : Owned). o.cell) t.2 ∙ e)),
    distinct-map ss d.1,
  )

  length-map : (ss : List Slot) → length (map owned_at ss) ≡ length ss
  length-map [] = refl
  length-map (s ∷ ss) = ap suc (length-map ss)

  at_row : (P : List Slot → Type 0) → P [] → ((r : LaidRow) → Has L.rows r → P r.cells) → (n : NodeId) → P (cells_at L.rows n)
  at_row P none some n = go (find (λ (r : LaidRow). same_node r.node n) L.rows) refl
    where
      go : (o : Option LaidRow) → find (λ (r : LaidRow). same_node r.node n) L.rows ≡ o → P (option_map_or (λ (r : LaidRow). r.cells) o [])
      go None e = none
      go (Some r) e = some r (first-has (λ (r : LaidRow). same_node r.node n) L.rows r e).0

  -- climbing
  above_stands : (n p : NodeId) → (above (laid_document L) n ≡ Some p) ↔ ((s : Spot) × StandsAt stands n s × (node_of s ≡ Some p))
  above_stands n p = (
    λ e. ((laid_document L).place n, place_standing n ((laid_document L).place n) refl (λ q. nowhere ((laid_document L).place n) q e), e),
    λ (s, h, e). ap node_of (standing_place n s h) ∙ e,
  )
    where
      nowhere : (s : Spot) → s ≡ Spot.Nowhere → node_of s ≡ Some p → ⊥
      nowhere s q e = let bad : None ≡ Some p = sym (ap node_of q) ∙ e in cc

  listed : AreListed (above (laid_document L)) (map (λ (s : Stand). s.node) stands)
  listed n p e = let s = (above_stands n p).0 e in map-has (λ (s : Stand). s.node) stands (record { node = n; spot = s.0 }) s.1

  ends : (n : NodeId) → ClimbsToAnEnd (above (laid_document L)) n
  ends n = go (climb (above (laid_document L)) (suc (length (map (λ (s : Stand). s.node) stands))) n) refl
    where
      go : (o : Option NodeId) → climb (above (laid_document L)) (suc (length (map (λ (s : Stand). s.node) stands))) n ≡ o → ClimbsToAnEnd (above (laid_document L)) n
      go None e = (suc (length (map (λ (s : Stand). s.node) stands)), e)
      go (Some m) e = absurd ((no_ring-leads_up (StandsAt stands) (above (laid_document L)) above_stands).1 w.no_ring (too_long (above (laid_document L)) (map (λ (s : Stand). s.node) stands) listed n m e))

  root_nowhere : (laid_document L).place root ≡ Spot.Nowhere
  root_nowhere = go (find (λ (x : Stand). same_node x.node root) stands) refl
    where
      go : (o : Option Stand) → find (λ (x : Stand). same_node x.node root) stands ≡ o → option_map_or (λ (s : Stand). s.spot) o Spot.Nowhere ≡ Spot.Nowhere
      go None f = refl
      go (Some x) f = let r = first-has (λ (x : Stand). same_node x.node root) stands x f in absurd (w.root_stands x.spot (subst (Has stands) (λ i. record { node = same_node-true x.node root r.1 i; spot = x.spot }) r.0))

  held-has : (m : NodeId) (f : FieldId) → (laid_document L).held f ≡ Some m → Has L.held (record { field = f; node = m })
  held-has m f e = go (find (λ (h : LaidHeld). same_field h.field f) L.held) refl e
    where
      go : (o : Option LaidHeld) → find (λ (h : LaidHeld). same_field h.field f) L.held ≡ o → option_map (λ (h : LaidHeld). h.node) o ≡ Some m → Has L.held (record { field = f; node = m })
      go None g q = cc
      go (Some h) g q = let r = first-has (λ (h : LaidHeld). same_field h.field f) L.held h g in let node : h.node ≡ m = cc in subst (Has L.held) (λ i. record { field = same_field-true h.field f r.1 i; node = node i }) r.0

  pub has-held : (h : LaidHeld) → Has L.held h → (laid_document L).held h.field ≡ Some h.node
  has-held h i = ap (option_map (λ (h : LaidHeld). h.node)) (first-distinct (λ (h : LaidHeld). h.field) L.held (λ (k : LaidHeld). same_field k.field h.field) h w.fields_once i (same_field-itself h.field) (λ k t. same_field-true k.field h.field t))

  own_cell : (m n : NodeId) (c : CellId) → (laid_document L).place m ≡ Spot.Row n c → Has ((laid_document L).rows n) (owned_cell c m)
  own_cell m n c e =
      let s = stands_row m n c (place_standing m (Spot.Row n c) e (λ bad. not_nowhere bad)) in
      subst (λ k. Has (map owned_at (cells_at L.rows k)) (owned_cell c m)) s.2 (subst (λ cs. Has (map owned_at cs) (owned_cell c m)) (sym (row_found s.0 s.1)) (map-has owned_at s.0.cells (record { cell = c; node = m; full = true }) s.3))
    where
      not_nowhere : Spot.Row n c ≡ Spot.Nowhere → ⊥
      not_nowhere e = cc

  one_held : (m : NodeId) (f : FieldId) → ((laid_document L).held f ≡ Some m) ↔ ((laid_document L).place m ≡ Spot.Register f)
  one_held m f = (
    λ e. standing_place m (Spot.Register f) (register_stands (record { field = f; node = m }) (held-has m f e)),
    λ e. has-held (record { field = f; node = m }) (stands_register m f (place_standing m (Spot.Register f) e not_nowhere)),
  )
    where
      not_nowhere : Spot.Register f ≡ Spot.Nowhere → ⊥
      not_nowhere e = cc

  pub laid_sound : IsSoundInForm (laid_document L)
  laid_sound = record {
    root_known = known_is root (inl refl);
    root_nowhere = root_nowhere;
    one_row = one_row;
    once = λ n. distinct-map (cells_at L.rows n) (at_row (AreDistinct (λ (s : Slot). s.cell)) tt (λ r h. list_distinct (λ (r : LaidRow). r.cells) (λ (s : Slot). s.cell) L.rows r w.cells_once h) n);
    short = λ n. subst (λ k. k < 2 ^ 32) (sym (length-map (cells_at L.rows n))) (at_row (λ cs. length cs < 2 ^ 32) (lit< tt) w.short n);
    own_cell = own_cell;
    one_held = one_held;
    cells_known = λ n o h. let s = has-map owned_at (cells_at L.rows n) o h in let r = cell_found n s.0 s.1 in let k = w.cells_known r.0 s.0 r.1 r.2 in
        (subst (λ n. IsSome ((laid_document L).nodes n)) r.3 (known_is r.0.node k.0), subst (λ (o : Owned). IsSome ((laid_document L).nodes o.node)) s.2 (known_is s.0.node k.1));
    held_known = λ m f e. let k = w.held_known (record { field = f; node = m }) (held-has m f e) in (known_is m k.0, known_is f.node k.1);
    register_key = λ m f e. w.keys (record { field = f; node = m }) (held-has m f e);
    no_ring = ends;
    in_effect = w.in_effect;
  }
