-- The nodes that a step finds, as places and as they are shown.
use Rattle.std.proofs.Common.{◌≡◌, ◌↔◌, ℕ, zero, suc, true, false, List, [], ◌∷◌, ◌++◌, map, slice_get, Option, Some, None, option_map, option_and_then, refl, sym, ap, ◌∙◌, subst, inl, inr}
use Rattle.std.specs.List.{flat_map}
use Rattle.st_ids.specs.Listing.{Has, IsRising, item_of}
use Rattle.st_ids.specs.Order.{field_cmp, node_cmp}
use Rattle.st_ids.specs.declared.names.CellId.{CellId}
use Rattle.st_ids.specs.declared.names.FieldId.{FieldId}
use Rattle.st_ids.specs.declared.names.NodeId.{NodeId}
use Rattle.st_ids.proofs.Listings.{has-item_of, item_of-has}
use Rattle.st_ids.proofs.Orders.{field_cmp_exact, field_cmp_total, node_cmp_exact, node_cmp_total}
use Rattle.st_marks.specs.declared.marks.Loose.{Loose}
use Rattle.st_marks.specs.declared.marks.Mark.{Mark}
use Rattle.st_marks.specs.declared.marks.RegStep.{RegStep}
use Rattle.st_marks.specs.declared.marks.RowMarks.{RowMarks}
use Rattle.st_marks.specs.declared.places.Spot.{Spot}
use Rattle.st_marks.specs.declared.steps.Step.{Step}
use Rattle.st_marks.specs.Embedding.{is_among}
use Rattle.st_marks.specs.Listings.{CellView, Listing, Places, placed_in_row, placed_in_register, placed_nowhere, cell_view, cells_before, listing_before_step, nodes_loose, rows_before}
use Rattle.st_marks.specs.Row.{CellMark, counted_cells, spread}
use Rattle.st_marks.proofs.Members.{append_left, append_right, flat_map-has, has-append, has-flat_map}
use Rattle.st_agree.specs.declared.places.Placed.{Placed}
use Rattle.st_normal.proofs.NoRings.{among_has}
use Rattle.st_agree.specs.inside.Places.{placed_by, placed_held, placed_loose, placements_of_step, row_placed}

-- ## Lists

among-has : (ns : List NodeId) (n : NodeId) → is_among ns n ≡ true → Has ns n
among-has ns n e = (among_has ns n).0 e

has-among : (ns : List NodeId) (n : NodeId) → Has ns n → is_among ns n ≡ true
has-among ns n h = (among_has ns n).1 h

mapped : {A B : Type 0} (g : A → B) (o : Option A) (b : B) → option_map g o ≡ Some b → (a : A) × (o ≡ Some a) × (g a ≡ b)
mapped g None b e = cc
mapped g (Some a) b e = (a, refl, let q : g a ≡ b = cc in q)

-- ## In a row

-- a view of a named full cell tells its names
names_of_view : (c d : CellId) (m n : NodeId) → Some (cell_view c m true) ≡ Some (cell_view d n true) → (c ≡ d) × (m ≡ n)
names_of_view c d m n e =
    let p : Some c ≡ Some d = ap (option_and_then (λ (v : CellView). v.cell)) e in
    let q : Some m ≡ Some n = ap (option_and_then (λ (v : CellView). v.node)) e in
    (let r : c ≡ d = cc in r, let r : m ≡ n = cc in r)

past_counted : (j k : ℕ) (xs : List CellMark) → (l : ℕ) × (slice_get (cells_before (counted_cells j xs)) l ≡ slice_get (cells_before xs) k)
past_counted zero k xs = (k, refl)
past_counted (suc j) k xs = let r = past_counted j k xs in (suc r.0, r.1)

behind_counted : (j k : ℕ) (xs : List CellMark) (c : CellId) (m : NodeId) → slice_get (cells_before (counted_cells j xs)) k ≡ Some (cell_view c m true) → (l : ℕ) × (slice_get (cells_before xs) l ≡ Some (cell_view c m true))
behind_counted zero k xs c m e = (k, e)
behind_counted (suc j) zero xs c m e = let q : None ≡ Some c = ap (option_and_then (λ (v : CellView). v.cell)) e in cc
behind_counted (suc j) (suc k) xs c m e = behind_counted j k xs c m e

-- a node that a mark shows stands at some place
abbrev IsSeen : NodeId → List Mark → Placed → Type 0
IsSeen r ms p = (c : CellId) × (k : ℕ) × (p.spot ≡ Spot.Row r c) × (slice_get (cells_before (spread ms)) k ≡ Some (cell_view c p.node true))

seen : (r : NodeId) (ms : List Mark) (p : Placed) → Has (flat_map (placed_by r) ms) p → IsSeen r ms p
seen r [] p h = absurd h
seen r (Mark.Skip j ∷ ms) p h = let s = seen r ms p h in let l = past_counted j s.1 (spread ms) in (s.0, l.0, s.2, l.1 ∙ s.3)
seen r (Mark.Gap c ∷ ms) p h = let s = seen r ms p h in (s.0, suc s.1, s.2, s.3)
seen r (Mark.Touch c n h' ∷ ms) p (inl e) = (c, 0, ap (λ (q : Placed). q.spot) (sym e), ap (λ (q : Placed). Some (cell_view c q.node true)) e)
seen r (Mark.Touch c n h' ∷ ms) p (inr h) = let s = seen r ms p h in (s.0, suc s.1, s.2, s.3)
seen r (Mark.Make c n b ∷ ms) p h = seen r ms p h
seen r (Mark.Fill c n ∷ ms) p h = let s = seen r ms p h in (s.0, suc s.1, s.2, s.3)

shown : (r : NodeId) (ms : List Mark) (c : CellId) (m : NodeId) (k : ℕ) → slice_get (cells_before (spread ms)) k ≡ Some (cell_view c m true) → Has (flat_map (placed_by r) ms) (record { node = m; spot = Spot.Row r c })
shown r [] c m k e = cc
shown r (Mark.Skip j ∷ ms) c m k e = let b = behind_counted j k (spread ms) c m e in shown r ms c m b.0 b.1
shown r (Mark.Gap d ∷ ms) c m zero e = let q : None ≡ Some m = ap (option_and_then (λ (v : CellView). v.node)) e in cc
shown r (Mark.Gap d ∷ ms) c m (suc k) e = shown r ms c m k e
shown r (Mark.Touch d n h ∷ ms) c m zero e = let q = names_of_view d c n m e in inl (λ i. record { node = q.1 i; spot = Spot.Row r (q.0 i) })
shown r (Mark.Touch d n h ∷ ms) c m (suc k) e = inr (shown r ms c m k e)
shown r (Mark.Make d n b ∷ ms) c m k e = shown r ms c m k e
shown r (Mark.Fill d n ∷ ms) c m zero e = let q : Some false ≡ Some true = ap (option_map (λ (v : CellView). v.full)) e in cc
shown r (Mark.Fill d n ∷ ms) c m (suc k) e = shown r ms c m k e

abbrev StandsInRow : List RowMarks → Placed → Type 0
StandsInRow rows p = (n : NodeId) × (c : CellId) × (cells : List CellView) × (k : ℕ) × (rows_before rows n ≡ Some cells) × (slice_get cells k ≡ Some (cell_view c p.node true)) × (p.spot ≡ Spot.Row n c)

abbrev shows : RowMarks → List CellView
shows r = cells_before (spread r.marks)

rows_placed : (rows : List RowMarks) → IsRising node_cmp (λ (r : RowMarks). r.node) rows → (p : Placed) → Has (flat_map row_placed rows) p → StandsInRow rows p
rows_placed rows rise p h =
    let r = has-flat_map row_placed rows p h in
    let s = seen r.0.node r.0.marks p r.2 in
    (r.0.node, s.0, shows r.0, s.1, ap (option_map shows) (has-item_of node_cmp node_cmp_total node_cmp_exact (λ (q : RowMarks). q.node) rows r.0 rise r.1), s.3, s.2)

placed_rows : (rows : List RowMarks) (n m : NodeId) (c : CellId) (cells : List CellView) (k : ℕ) → rows_before rows n ≡ Some cells → slice_get cells k ≡ Some (cell_view c m true) → Has (flat_map row_placed rows) (record { node = m; spot = Spot.Row n c })
placed_rows rows n m c cells k listed at =
    let r = mapped shows (item_of node_cmp (λ (q : RowMarks). q.node) rows n) cells listed in
    let h = item_of-has node_cmp node_cmp_total node_cmp_exact (λ (q : RowMarks). q.node) rows n r.0 r.1 in
    flat_map-has row_placed rows r.0 (record { node = m; spot = Spot.Row n c }) h.0
    (subst (λ j. Has (flat_map (placed_by r.0.node) r.0.marks) (record { node = m; spot = Spot.Row j c })) h.1 (shown r.0.node r.0.marks c m k (ap (λ vs. slice_get vs k) r.2 ∙ at)))

-- ## In registers, and nowhere

module _ {A : Type 0} (key : A → FieldId) (held : A → Option NodeId) (xs : List A) where
  abbrev pub register_placed : A → List Placed
  register_placed r = placed_held (key r) (held r)

  one_held : (f : FieldId) (o : Option NodeId) (p : Placed) → Has (placed_held f o) p → (o ≡ Some p.node) × (p.spot ≡ Spot.Register f)
  one_held f None p h = absurd h
  one_held f (Some n) p (inl e) = (ap (λ (q : Placed). Some q.node) e, ap (λ (q : Placed). q.spot) (sym e))
  one_held f (Some n) p (inr h) = absurd h

  held_one : (f : FieldId) (o : Option NodeId) (n : NodeId) → o ≡ Some n → Has (placed_held f o) (record { node = n; spot = Spot.Register f })
  held_one f o n e = subst (λ z. Has (placed_held f z) (record { node = n; spot = Spot.Register f })) (sym e) (inl refl)

  pub registers_placed : IsRising field_cmp key xs → (p : Placed) → Has (flat_map register_placed xs) p → (f : FieldId) × (option_map held (item_of field_cmp key xs f) ≡ Some (Some p.node)) × (p.spot ≡ Spot.Register f)
  registers_placed rise p h =
      let r = has-flat_map register_placed xs p h in
      let s = one_held (key r.0) (held r.0) p r.2 in
      (key r.0, ap (option_map held) (has-item_of field_cmp field_cmp_total field_cmp_exact key xs r.0 rise r.1) ∙ ap (λ o. Some o) s.0, s.1)

  pub placed_registers : (f : FieldId) (n : NodeId) → option_map held (item_of field_cmp key xs f) ≡ Some (Some n) → Has (flat_map register_placed xs) (record { node = n; spot = Spot.Register f })
  placed_registers f n e =
      let r = mapped held (item_of field_cmp key xs f) (Some n) e in
      let h = item_of-has field_cmp field_cmp_total field_cmp_exact key xs f r.0 r.1 in
      flat_map-has register_placed xs r.0 (record { node = n; spot = Spot.Register f }) h.0
      (subst (λ g. Has (placed_held (key r.0) (held r.0)) (record { node = n; spot = Spot.Register g })) h.1 (held_one (key r.0) (held r.0) n r.2))

loose_placed : (ls : List Loose) (p : Placed) → Has (map placed_loose ls) p → (is_among (nodes_loose ls) p.node ≡ true) × (p.spot ≡ Spot.Nowhere)
loose_placed ls p h = let r = go ls h in (has-among (nodes_loose ls) p.node r.0, r.1)
  where
    go : (ls : List Loose) → Has (map placed_loose ls) p → Has (nodes_loose ls) p.node × (p.spot ≡ Spot.Nowhere)
    go [] h = absurd h
    go (l ∷ ls) (inl e) = (inl (ap (λ (q : Placed). q.node) e), ap (λ (q : Placed). q.spot) (sym e))
    go (l ∷ ls) (inr h) = let r = go ls h in (inr r.0, r.1)

placed_loosely : (ls : List Loose) (n : NodeId) → is_among (nodes_loose ls) n ≡ true → Has (map placed_loose ls) (record { node = n; spot = Spot.Nowhere })
placed_loosely ls n e = go ls (among-has (nodes_loose ls) n e)
  where
    go : (ls : List Loose) → Has (nodes_loose ls) n → Has (map placed_loose ls) (record { node = n; spot = Spot.Nowhere })
    go [] h = absurd h
    go (l ∷ ls) (inl e) = inl (λ i. record { node = e i; spot = Spot.Nowhere })
    go (l ∷ ls) (inr h) = inr (go ls h)

-- ## Of a step

module _ (L : Listing) (rows : List RowMarks) (registers : List Placed) (loose : List Loose)
    (rise : IsRising node_cmp (λ (r : RowMarks). r.node) rows) (row_is : (n : NodeId) → L.row n ≡ rows_before rows n) (nowhere_is : (n : NodeId) → L.nowhere n ≡ is_among (nodes_loose loose) n)
    (held : (p : Placed) → Has registers p → (f : FieldId) × (L.register f ≡ Some (Some p.node)) × (p.spot ≡ Spot.Register f))
    (holds : (f : FieldId) (n : NodeId) → L.register f ≡ Some (Some n) → Has registers (record { node = n; spot = Spot.Register f })) where
  abbrev all : List Placed
  all = flat_map row_placed rows ++ registers ++ map placed_loose loose

  at_spot : (p : Placed) (s : Spot) → p.spot ≡ s → Places L p.node s → Places L p.node p.spot
  at_spot p s e h = subst (λ z. Places L p.node z) (sym e) h

  placed_shown : (p : Placed) → Has all p → Places L p.node p.spot
  placed_shown p h = elim (has-append (flat_map row_placed rows ++ registers) (map placed_loose loose) p h) [
    | inl i ↦ elim (has-append (flat_map row_placed rows) registers p i) [
      | inl j ↦ (let r = rows_placed rows rise p j in at_spot p _ r.6 (placed_in_row r.0 p.node r.1 r.2 r.3 (row_is r.0 ∙ r.4) r.5))
      | inr j ↦ (let r = held p j in at_spot p _ r.2 (placed_in_register r.0 p.node r.1))
    ]
    | inr i ↦ (let r = loose_placed loose p i in at_spot p _ r.1 (placed_nowhere p.node (nowhere_is p.node ∙ r.0)))
  ]

  shown_placed : (n : NodeId) (s : Spot) → Places L n s → Has all (record { node = n; spot = s })
  shown_placed n s (placed_in_row r n' c cells k listed at) = append_left (flat_map row_placed rows ++ registers) (map placed_loose loose) _ (append_left (flat_map row_placed rows) registers _ (placed_rows rows r n' c cells k (sym (row_is r) ∙ listed) at))
  shown_placed n s (placed_in_register f n' e) = append_left (flat_map row_placed rows ++ registers) (map placed_loose loose) _ (append_right (flat_map row_placed rows) registers _ (holds f n' e))
  shown_placed n s (placed_nowhere n' e) = append_right (flat_map row_placed rows ++ registers) (map placed_loose loose) _ (placed_loosely loose n' (sym (nowhere_is n') ∙ e))

  pub placements_told : (p : Placed) → Has all p ↔ Places L p.node p.spot
  placements_told p = (placed_shown p, shown_placed p.node p.spot)

pub step_placed : (S : Step) → IsRising node_cmp (λ (r : RowMarks). r.node) S.rows → IsRising field_cmp (λ (r : RegStep). r.field) S.regs → (p : Placed) → Has (placements_of_step S) p ↔ Places (listing_before_step S) p.node p.spot
step_placed S rows regs = placements_told (listing_before_step S) S.rows (flat_map (λ (r : RegStep). placed_held r.field r.before) S.regs) S.loose rows (λ n. refl) (λ n. refl)
    (registers_placed (λ (r : RegStep). r.field) (λ (r : RegStep). r.before) S.regs regs) (placed_registers (λ (r : RegStep). r.field) (λ (r : RegStep). r.before) S.regs)
