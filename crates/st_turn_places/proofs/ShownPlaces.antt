-- The places that are listed are those at which a step shows nodes.
use Rattle.std.proofs.Common.{◌≡◌, ◌≢◌, MatchOption, ℕ, zero, suc, Bool, true, false, not, ◌&&◌, if◌then◌else◌, List, [], ◌∷◌, ◌++◌, map, slice_get, Option, Some, None, option_map, option_and_then, refl, sym, ap, ◌∙◌, subst, inl, inr}
use Rattle.std.specs.List.{flat_map}
use Rattle.std.specs.Option.{option_or}
use Rattle.st_ids.specs.Listing.{Has, IsRising, item_of}
use Rattle.st_ids.specs.Order.{field_cmp, node_cmp}
use Rattle.st_ids.specs.declared.names.CellId.{CellId}
use Rattle.st_ids.specs.declared.names.FieldId.{FieldId}
use Rattle.st_ids.specs.declared.names.NodeId.{NodeId}
use Rattle.st_ids.proofs.Listings.{has-item_of, item_of-has}
use Rattle.st_ids.proofs.Orders.{field_cmp_exact, field_cmp_total, node_cmp_exact, node_cmp_total}
use Rattle.st_lemmas.proofs.Bools.{and-both, and-true, true-false}
use Rattle.st_marks.specs.declared.changes.NewNode.{NewNode}
use Rattle.st_marks.specs.declared.marks.How.TheVariants.{Stay, Here, Leave}
use Rattle.st_marks.specs.declared.marks.Loose.{Loose}
use Rattle.st_marks.specs.declared.marks.Mark.{Mark}
use Rattle.st_marks.specs.declared.marks.RegStep.{RegStep}
use Rattle.st_marks.specs.declared.marks.RowMarks.{RowMarks}
use Rattle.st_marks.specs.declared.places.Spot.{Spot}
use Rattle.st_marks.specs.declared.steps.Step.{Step}
use Rattle.st_marks.specs.Embedding.{is_among}
use Rattle.st_marks.specs.Listings.{CellView, Listing, Places, placed_in_row, placed_in_register, placed_nowhere, cell_view, cells_after, cells_before, listing_after_step, listing_before_step, nodes_loose, nodes_new, nodes_standing, one_or_none, placed_after, placed_before}
use Rattle.st_marks.specs.Row.{CellMark, counted_cells, spread}
use Rattle.st_marks.proofs.Members.{append_left, append_right, flat_map-has, has-append, has-flat_map, has-map, map-has}
use Rattle.st_turn_places.specs.declared.places.Placed.{Placed}
use Rattle.st_turn_places.specs.Rules.{ArePlaces}
use Rattle.st_turn_places.specs.inside.Sides.{IsTable, found_by, found_or_left, free_at, held_on, if_free, left_by, placed_by, placed_held, placed_loose, register_placed, row_placed, set_free, standing}
use Rattle.st_turn_places.proofs.Lists.{among-has, flat_alike, flat_of_map, has-among, map_of_append, map_of_flat, mapped}
use Rattle.st_turn_places.proofs.NodesTwice.{get-has}

-- ## What marks leave

counted_views : (k : ℕ) (xs ys : List CellMark) → cells_before xs ≡ cells_after ys → cells_before (counted_cells k xs) ≡ cells_after (counted_cells k ys)
counted_views zero xs ys e = e
counted_views (suc k) xs ys e = ap (λ (l : List CellView). record { cell = None; node = None; full = true } ∷ l) (counted_views k xs ys e)

left_views : (ms : List Mark) → cells_before (spread (map left_by ms)) ≡ cells_after (spread ms)
left_views [] = refl
left_views (Mark.Skip k ∷ ms) = counted_views k (spread (map left_by ms)) (spread ms) (left_views ms)
left_views (Mark.Gap c ∷ ms) = ap (λ (l : List CellView). record { cell = Some c; node = None; full = false } ∷ l) (left_views ms)
left_views (Mark.Touch c n Stay ∷ ms) = ap (λ (l : List CellView). record { cell = Some c; node = Some n; full = true } ∷ l) (left_views ms)
left_views (Mark.Touch c n Here ∷ ms) = ap (λ (l : List CellView). record { cell = Some c; node = Some n; full = true } ∷ l) (left_views ms)
left_views (Mark.Touch c n Leave ∷ ms) = ap (λ (l : List CellView). record { cell = Some c; node = Some n; full = false } ∷ l) (left_views ms)
left_views (Mark.Make c n true ∷ ms) = ap (λ (l : List CellView). record { cell = Some c; node = Some n; full = true } ∷ l) (left_views ms)
left_views (Mark.Make c n false ∷ ms) = ap (λ (l : List CellView). record { cell = Some c; node = Some n; full = false } ∷ l) (left_views ms)
left_views (Mark.Fill c n ∷ ms) = ap (λ (l : List CellView). record { cell = Some c; node = Some n; full = true } ∷ l) (left_views ms)

same_marks : (ms : List Mark) → map (found_or_left false) ms ≡ ms
same_marks [] = refl
same_marks (m ∷ ms) = ap (λ l. m ∷ l) (same_marks ms)

-- the cells of marks, before or after
abbrev views_on : Bool → List CellMark → List CellView
views_on true = cells_after
views_on false = cells_before

views_told : (after : Bool) (ms : List Mark) → cells_before (spread (map (found_or_left after) ms)) ≡ views_on after (spread ms)
views_told true ms = left_views ms
views_told false ms = ap (λ l. cells_before (spread l)) (same_marks ms)

-- ## In a row

-- a view of a named full cell tells its names
names_of_view : (c d : CellId) (m n : NodeId) → Some (cell_view c m true) ≡ Some (cell_view d n true) → (c ≡ d) × (m ≡ n)
names_of_view c d m n e =
    let p : Some c ≡ Some d = ap (option_and_then (λ (v : CellView). v.cell)) e in
    let q : Some m ≡ Some n = ap (option_and_then (λ (v : CellView). v.node)) e in
    (let r : c ≡ d = cc in r, let r : m ≡ n = cc in r)

past_counted : (j k : ℕ) (xs : List CellMark) → (l : ℕ) × (slice_get (cells_before (counted_cells j xs)) l ≡ slice_get (cells_before xs) k)
past_counted zero k xs = (k, refl)
past_counted (suc j) k xs = let r = past_counted j k xs in (suc r.0, r.1)

behind_counted : (j k : ℕ) (xs : List CellMark) (c : CellId) (m : NodeId) → slice_get (cells_before (counted_cells j xs)) k ≡ Some (cell_view c m true) → (l : ℕ) × (slice_get (cells_before xs) l ≡ Some (cell_view c m true))
behind_counted zero k xs c m e = (k, e)
behind_counted (suc j) zero xs c m e = let q : None ≡ Some c = ap (option_and_then (λ (v : CellView). v.cell)) e in cc
behind_counted (suc j) (suc k) xs c m e = behind_counted j k xs c m e

-- a node that a mark shows stands at some place
abbrev IsSeen : NodeId → List CellView → Placed → Type 0
IsSeen r vs p = (c : CellId) × (k : ℕ) × (p.spot ≡ Spot.Row r c) × (slice_get vs k ≡ Some (cell_view c p.node true))

seen : (r : NodeId) (ms : List Mark) (p : Placed) → Has (flat_map (placed_by r) ms) p → IsSeen r (cells_before (spread ms)) p
seen r [] p h = absurd h
seen r (Mark.Skip j ∷ ms) p h = let s = seen r ms p h in let l = past_counted j s.1 (spread ms) in (s.0, l.0, s.2, l.1 ∙ s.3)
seen r (Mark.Gap c ∷ ms) p h = let s = seen r ms p h in (s.0, suc s.1, s.2, s.3)
seen r (Mark.Touch c n h' ∷ ms) p (inl e) = (c, 0, ap (λ (q : Placed). q.spot) (sym e), ap (λ (q : Placed). Some (cell_view c q.node true)) e)
seen r (Mark.Touch c n h' ∷ ms) p (inr h) = let s = seen r ms p h in (s.0, suc s.1, s.2, s.3)
seen r (Mark.Make c n b ∷ ms) p h = seen r ms p h
seen r (Mark.Fill c n ∷ ms) p h = let s = seen r ms p h in (s.0, suc s.1, s.2, s.3)

shown : (r : NodeId) (ms : List Mark) (c : CellId) (m : NodeId) (k : ℕ) → slice_get (cells_before (spread ms)) k ≡ Some (cell_view c m true) → Has (flat_map (placed_by r) ms) (record { node = m; spot = Spot.Row r c })
shown r [] c m k e = cc
shown r (Mark.Skip j ∷ ms) c m k e = let b = behind_counted j k (spread ms) c m e in shown r ms c m b.0 b.1
shown r (Mark.Gap d ∷ ms) c m zero e = let q : None ≡ Some m = ap (option_and_then (λ (v : CellView). v.node)) e in cc
shown r (Mark.Gap d ∷ ms) c m (suc k) e = shown r ms c m k e
shown r (Mark.Touch d n h ∷ ms) c m zero e = let q = names_of_view d c n m e in inl (λ i. record { node = q.1 i; spot = Spot.Row r (q.0 i) })
shown r (Mark.Touch d n h ∷ ms) c m (suc k) e = inr (shown r ms c m k e)
shown r (Mark.Make d n b ∷ ms) c m k e = shown r ms c m k e
shown r (Mark.Fill d n ∷ ms) c m zero e = let q : Some false ≡ Some true = ap (option_map (λ (v : CellView). v.full)) e in cc
shown r (Mark.Fill d n ∷ ms) c m (suc k) e = shown r ms c m k e

-- a full cell that isn't named has no node, any other its own
counted_stand : (k : ℕ) (xs : List CellMark) → nodes_standing (cells_before (counted_cells k xs)) ≡ nodes_standing (cells_before xs)
counted_stand zero xs = refl
counted_stand (suc k) xs = counted_stand k xs

stand : (r : NodeId) (ms : List Mark) → map (λ (p : Placed). p.node) (flat_map (placed_by r) ms) ≡ nodes_standing (cells_before (spread ms))
stand r [] = refl
stand r (Mark.Skip k ∷ ms) = stand r ms ∙ sym (counted_stand k (spread ms))
stand r (Mark.Gap c ∷ ms) = stand r ms
stand r (Mark.Touch c n h ∷ ms) = ap (λ l. n ∷ l) (stand r ms)
stand r (Mark.Make c n b ∷ ms) = stand r ms
stand r (Mark.Fill c n ∷ ms) = stand r ms

node_of_placed : Placed → NodeId
node_of_placed p = p.node

held_stand : (f : FieldId) (o : Option NodeId) → map (λ (p : Placed). p.node) (placed_held f o) ≡ one_or_none o
held_stand f None = refl
held_stand f (Some n) = refl

module _ (after : Bool) where
  abbrev shows : RowMarks → List CellView
  shows r = views_on after (spread r.marks)

  as_marks : (r : RowMarks) → flat_map (placed_by r.node) (map (found_or_left after) r.marks) ≡ row_placed after r
  as_marks r = flat_of_map (placed_by r.node) (found_or_left after) r.marks

  row_seen : (r : RowMarks) (p : Placed) → Has (row_placed after r) p → IsSeen r.node (shows r) p
  row_seen r p h = subst (λ vs. IsSeen r.node vs p) (views_told after r.marks) (seen r.node (map (found_or_left after) r.marks) p (subst (λ l. Has l p) (sym (as_marks r)) h))

  row_shown : (r : RowMarks) (c : CellId) (m : NodeId) (k : ℕ) → slice_get (shows r) k ≡ Some (cell_view c m true) → Has (row_placed after r) (record { node = m; spot = Spot.Row r.node c })
  row_shown r c m k e = subst (λ l. Has l (record { node = m; spot = Spot.Row r.node c })) (as_marks r) (shown r.node (map (found_or_left after) r.marks) c m k (ap (λ vs. slice_get vs k) (views_told after r.marks) ∙ e))

  row_stand : (r : RowMarks) → map (λ (p : Placed). p.node) (row_placed after r) ≡ nodes_standing (shows r)
  row_stand r = ap (map (λ (p : Placed). p.node)) (sym (as_marks r)) ∙ stand r.node (map (found_or_left after) r.marks) ∙ ap nodes_standing (views_told after r.marks)

  row_at : List RowMarks → NodeId → Option (List CellView)
  row_at rows n = option_map shows (item_of node_cmp (λ (r : RowMarks). r.node) rows n)

  abbrev StandsInRow : List RowMarks → Placed → Type 0
  StandsInRow rows p = (n : NodeId) × (c : CellId) × (cells : List CellView) × (k : ℕ) × (option_map shows (item_of node_cmp (λ (r : RowMarks). r.node) rows n) ≡ Some cells) × (slice_get cells k ≡ Some (cell_view c p.node true)) × (p.spot ≡ Spot.Row n c)

  rows_placed : (rows : List RowMarks) → IsRising node_cmp (λ (r : RowMarks). r.node) rows → (p : Placed) → Has (flat_map (row_placed after) rows) p → StandsInRow rows p
  rows_placed rows rise p h =
      let r = has-flat_map (row_placed after) rows p h in
      let s = row_seen r.0 p r.2 in
      (r.0.node, s.0, shows r.0, s.1, ap (option_map shows) (has-item_of node_cmp node_cmp_total node_cmp_exact (λ (q : RowMarks). q.node) rows r.0 rise r.1), s.3, s.2)

  placed_rows : (rows : List RowMarks) (n m : NodeId) (c : CellId) (cells : List CellView) (k : ℕ) → option_map shows (item_of node_cmp (λ (r : RowMarks). r.node) rows n) ≡ Some cells → slice_get cells k ≡ Some (cell_view c m true)
      → Has (flat_map (row_placed after) rows) (record { node = m; spot = Spot.Row n c })
  placed_rows rows n m c cells k listed at =
      let r = mapped shows (item_of node_cmp (λ (q : RowMarks). q.node) rows n) cells listed in
      let h = item_of-has node_cmp node_cmp_total node_cmp_exact (λ (q : RowMarks). q.node) rows n r.0 r.1 in
      flat_map-has (row_placed after) rows r.0 (record { node = m; spot = Spot.Row n c }) h.0
      (subst (λ j. Has (row_placed after r.0) (record { node = m; spot = Spot.Row j c })) h.1 (row_shown r.0 c m k (ap (λ vs. slice_get vs k) r.2 ∙ at)))

  -- ## In registers

  one_held : (f : FieldId) (o : Option NodeId) (p : Placed) → Has (placed_held f o) p → (o ≡ Some p.node) × (p.spot ≡ Spot.Register f)
  one_held f None p h = absurd h
  one_held f (Some n) p (inl e) = (ap (λ (q : Placed). Some q.node) e, ap (λ (q : Placed). q.spot) (sym e))
  one_held f (Some n) p (inr h) = absurd h

  held_one : (f : FieldId) (o : Option NodeId) (n : NodeId) → o ≡ Some n → Has (placed_held f o) (record { node = n; spot = Spot.Register f })
  held_one f o n e = subst (λ z. Has (placed_held f z) (record { node = n; spot = Spot.Register f })) (sym e) (inl refl)

  registers_placed : (xs : List RegStep) → IsRising field_cmp (λ (r : RegStep). r.field) xs → (p : Placed) → Has (flat_map (register_placed after) xs) p
      → (f : FieldId) × (option_map (held_on after) (item_of field_cmp (λ (r : RegStep). r.field) xs f) ≡ Some (Some p.node)) × (p.spot ≡ Spot.Register f)
  registers_placed xs rise p h =
      let r = has-flat_map (register_placed after) xs p h in
      let s = one_held r.0.field (held_on after r.0) p r.2 in
      (r.0.field, ap (option_map (held_on after)) (has-item_of field_cmp field_cmp_total field_cmp_exact (λ (q : RegStep). q.field) xs r.0 rise r.1) ∙ ap (λ o. Some o) s.0, s.1)

  placed_registers : (xs : List RegStep) (f : FieldId) (n : NodeId) → option_map (held_on after) (item_of field_cmp (λ (r : RegStep). r.field) xs f) ≡ Some (Some n)
      → Has (flat_map (register_placed after) xs) (record { node = n; spot = Spot.Register f })
  placed_registers xs f n e =
      let r = mapped (held_on after) (item_of field_cmp (λ (q : RegStep). q.field) xs f) (Some n) e in
      let h = item_of-has field_cmp field_cmp_total field_cmp_exact (λ (q : RegStep). q.field) xs f r.0 r.1 in
      flat_map-has (register_placed after) xs r.0 (record { node = n; spot = Spot.Register f }) h.0
      (subst (λ g. Has (placed_held r.0.field (held_on after r.0)) (record { node = n; spot = Spot.Register g })) h.1 (held_one r.0.field (held_on after r.0) n r.2))

  -- ## Of a listing that shows these rows and registers, and these nodes nowhere

  module _ (L : Listing) (S : Step) (rest : List Placed)
      (rise : IsRising node_cmp (λ (r : RowMarks). r.node) S.rows) (rise_regs : IsRising field_cmp (λ (r : RegStep). r.field) S.regs)
      (row_is : (n : NodeId) (vs : List CellView) → option_map shows (item_of node_cmp (λ (r : RowMarks). r.node) S.rows n) ≡ Some vs → L.row n ≡ Some vs)
      (is_row : (n : NodeId) (vs : List CellView) (k : ℕ) (v : CellView) → L.row n ≡ Some vs → slice_get vs k ≡ Some v → option_map shows (item_of node_cmp (λ (r : RowMarks). r.node) S.rows n) ≡ Some vs)
      (register_is : (f : FieldId) (n : NodeId) → option_map (held_on after) (item_of field_cmp (λ (r : RegStep). r.field) S.regs f) ≡ Some (Some n) → L.register f ≡ Some (Some n))
      (is_register : (f : FieldId) (n : NodeId) → L.register f ≡ Some (Some n) → option_map (held_on after) (item_of field_cmp (λ (r : RegStep). r.field) S.regs f) ≡ Some (Some n))
      (nowhere_is : (p : Placed) → Has rest p → (L.nowhere p.node ≡ true) × (p.spot ≡ Spot.Nowhere))
      (is_nowhere : (n : NodeId) → L.nowhere n ≡ true → Has rest (record { node = n; spot = Spot.Nowhere })) where
    at_spot : (p : Placed) (s : Spot) → p.spot ≡ s → Places L p.node s → Places L p.node p.spot
    at_spot p s e h = subst (λ z. Places L p.node z) (sym e) h

    abbrev in_rows : List Placed
    in_rows = flat_map (row_placed after) S.rows

    abbrev in_registers : List Placed
    in_registers = flat_map (register_placed after) S.regs

    placed_shown : (p : Placed) → Has (standing after S ++ rest) p → Places L p.node p.spot
    placed_shown p h = elim (has-append (in_rows ++ in_registers) rest p h) [
      | inl i ↦ elim (has-append in_rows in_registers p i) [
        | inl j ↦ (let r = rows_placed S.rows rise p j in at_spot p _ r.6 (placed_in_row r.0 p.node r.1 r.2 r.3 (row_is r.0 r.2 r.4) r.5))
        | inr j ↦ (let r = registers_placed S.regs rise_regs p j in at_spot p _ r.2 (placed_in_register r.0 p.node (register_is r.0 p.node r.1)))
      ]
      | inr i ↦ (let r = nowhere_is p i in at_spot p _ r.1 (placed_nowhere p.node r.0))
    ]

    shown_placed : (n : NodeId) (s : Spot) → Places L n s → Has (standing after S ++ rest) (record { node = n; spot = s })
    shown_placed n s (placed_in_row r n' c cells k listed at) = append_left (in_rows ++ in_registers) rest _ (append_left in_rows in_registers _ (placed_rows S.rows r n' c cells k (is_row r cells k _ listed at) at))
    shown_placed n s (placed_in_register f n' e) = append_left (in_rows ++ in_registers) rest _ (append_right in_rows in_registers _ (placed_registers S.regs f n' (is_register f n' e)))
    shown_placed n s (placed_nowhere n' e) = append_right (in_rows ++ in_registers) rest _ (is_nowhere n' e)

    places_told : ArePlaces (standing after S ++ rest) L
    places_told p = (placed_shown p, shown_placed p.node p.spot)

-- ## Before a step

loose_placed : (ls : List Loose) (p : Placed) → Has (map placed_loose ls) p → (is_among (nodes_loose ls) p.node ≡ true) × (p.spot ≡ Spot.Nowhere)
loose_placed ls p h = let r = go ls h in (has-among (nodes_loose ls) p.node r.0, r.1)
  where
    go : (ls : List Loose) → Has (map placed_loose ls) p → Has (nodes_loose ls) p.node × (p.spot ≡ Spot.Nowhere)
    go [] h = absurd h
    go (l ∷ ls) (inl e) = (inl (ap (λ (q : Placed). q.node) e), ap (λ (q : Placed). q.spot) (sym e))
    go (l ∷ ls) (inr h) = let r = go ls h in (inr r.0, r.1)

placed_loosely : (ls : List Loose) (n : NodeId) → Has (nodes_loose ls) n → Has (map placed_loose ls) (record { node = n; spot = Spot.Nowhere })
placed_loosely [] n h = absurd h
placed_loosely (l ∷ ls) n (inl e) = inl (λ i. record { node = e i; spot = Spot.Nowhere })
placed_loosely (l ∷ ls) n (inr h) = inr (placed_loosely ls n h)

pub found_told : (S : Step) → IsRising node_cmp (λ (r : RowMarks). r.node) S.rows → IsRising field_cmp (λ (r : RegStep). r.field) S.regs → ArePlaces (found_by S) (listing_before_step S)
found_told S rise rise_regs = places_told false (listing_before_step S) S (map placed_loose S.loose) rise rise_regs (λ n vs e. e) (λ n vs k v e at. e) (λ f n e. e) (λ f n e. e)
    (loose_placed S.loose) (λ n e. placed_loosely S.loose n (among-has (nodes_loose S.loose) n e))

-- ## After a step

-- a row that shows a cell is listed
listed_row : (o : Option (List CellView)) (made : Bool) (vs : List CellView) (k : ℕ) (v : CellView) → option_or o (if made then Some [] else None) ≡ Some vs → slice_get vs k ≡ Some v → o ≡ Some vs
listed_row (Some us) made vs k v e at = e
listed_row None true vs k v e at = let same : vs ≡ [] = cc in let q : None ≡ Some v = sym (ap (λ l. slice_get l k) same) ∙ at in cc
listed_row None false vs k v e at = cc

row_listed : {A : Type 0} (o p : Option A) (a : A) → o ≡ Some a → option_or o p ≡ Some a
row_listed o p a e = ap (λ z. option_or z p) e

listed_register : (o : Option (Option NodeId)) (made : Bool) (n : NodeId) → option_or o (if made then Some None else None) ≡ Some (Some n) → o ≡ Some (Some n)
listed_register (Some h) made n e = e
listed_register None true n e = cc
listed_register None false n e = cc

-- the nodes that stand are those that are shown to stand
stand_listed : (after : Bool) (S : Step) → map (λ (p : Placed). p.node) (standing after S) ≡ flat_map (λ (r : RowMarks). nodes_standing (views_on after (spread r.marks))) S.rows ++ flat_map one_or_none (map (held_on after) S.regs)
stand_listed after S =
    map_of_append (λ (p : Placed). p.node) (flat_map (row_placed after) S.rows) (flat_map (register_placed after) S.regs)
    ∙ (λ i. (map_of_flat (λ (p : Placed). p.node) (row_placed after) S.rows ∙ flat_alike _ _ (row_stand after) S.rows) i ++ registers i)
  where
    registers : map (λ (p : Placed). p.node) (flat_map (register_placed after) S.regs) ≡ flat_map one_or_none (map (held_on after) S.regs)
    registers =
        map_of_flat (λ (p : Placed). p.node) (register_placed after) S.regs ∙ flat_alike _ _ (λ (r : RegStep). held_stand r.field (held_on after r)) S.regs
        ∙ sym (flat_of_map one_or_none (held_on after) S.regs)

module _ (S : Step) (at : NodeId → Option ℕ) (table : IsTable (standing true S) at) where
  abbrev there : List NodeId
  there = nodes_new S.new ++ nodes_loose S.loose ++ placed_before S.rows (map (λ (r : RegStep). r.before) S.regs)

  abbrev taken : List NodeId
  taken = placed_after S.rows (map (λ (r : RegStep). r.after) S.regs)

  -- a node that a table has not stands nowhere
  not_taken : (n : NodeId) → at n ≡ None → is_among taken n ≡ false
  not_taken n e = go (is_among taken n) refl
    where
      go : (b : Bool) → is_among taken n ≡ b → is_among taken n ≡ false
      go false f = f
      go true f =
          let h : Has (map (λ (p : Placed). p.node) (standing true S)) n = subst (λ l. Has l n) (sym (stand_listed true S)) (among-has taken n f) in
          let p = has-map (λ (p : Placed). p.node) (standing true S) n h in
          absurd (subst (λ o. MatchOption o ((p : Placed) → Has (standing true S) p → p.node ≢ n) (λ i. (p : Placed) × (slice_get (standing true S) i ≡ Some p) × (p.node ≡ n))) e (table n) p.0 p.1 p.2)

  not_listed : (n : NodeId) → is_among taken n ≡ false → at n ≡ None
  not_listed n f = go (at n) (table n)
    where
      go : (o : Option ℕ) → MatchOption o ((p : Placed) → Has (standing true S) p → p.node ≢ n) (λ i. (p : Placed) × (slice_get (standing true S) i ≡ Some p) × (p.node ≡ n)) → o ≡ None
      go None t = refl
      go (Some i) t =
          let h : Has (map (λ (p : Placed). p.node) (standing true S)) n = subst (λ m. Has (map (λ (p : Placed). p.node) (standing true S)) m) t.2 (map-has (λ (p : Placed). p.node) (standing true S) t.0 (get-has (standing true S) i t.0 t.1)) in
          absurd (true-false (has-among taken n (subst (λ l. Has l n) (stand_listed true S) h)) f)

  free_told : (n : NodeId) (o : Option ℕ) (p : Placed) → Has (free_at o n) p → (o ≡ None) × (p.node ≡ n) × (p.spot ≡ Spot.Nowhere)
  free_told n None p (inl e) = (refl, ap (λ (q : Placed). q.node) (sym e), ap (λ (q : Placed). q.spot) (sym e))
  free_told n None p (inr h) = absurd h
  free_told n (Some i) p h = absurd h

  told_free : (n : NodeId) → at n ≡ None → Has (if_free at n) (record { node = n; spot = Spot.Nowhere })
  told_free n e = subst (λ o. Has (free_at o n) (record { node = n; spot = Spot.Nowhere })) (sym e) (inl refl)

  -- the nodes that are found are those that are shown before
  found_there : (p : Placed) → Has (found_by S) p → Has there p.node
  found_there p h = elim (has-append (standing false S) (map placed_loose S.loose) p h) [
    | inl i ↦ append_right (nodes_new S.new ++ nodes_loose S.loose) before p.node (subst (λ l. Has l p.node) (stand_listed false S) (map-has (λ (q : Placed). q.node) (standing false S) p i))
    | inr i ↦ append_left (nodes_new S.new ++ nodes_loose S.loose) before p.node (append_right (nodes_new S.new) (nodes_loose S.loose) p.node (among-has (nodes_loose S.loose) p.node (loose_placed S.loose p i).0))
  ]
    where
      before : List NodeId
      before = placed_before S.rows (map (λ (r : RegStep). r.before) S.regs)

  abbrev Nowhere : NodeId → Type 0
  Nowhere n = (is_among there n && not (is_among taken n)) ≡ true

  free_nowhere : (n : NodeId) → Has there n → (p : Placed) → Has (if_free at n) p → Nowhere p.node × (p.spot ≡ Spot.Nowhere)
  free_nowhere n h p i =
      let r = free_told n (at n) p i in
      (subst Nowhere (sym r.1) (and-both (is_among there n) (not (is_among taken n)) (has-among there n h) (ap not (not_taken n r.0))), r.2)

  pub rest_nowhere : (p : Placed) → Has (set_free at S) p → Nowhere p.node × (p.spot ≡ Spot.Nowhere)
  rest_nowhere p h = elim (has-append (flat_map (λ (m : NewNode). if_free at m.node) S.new) (flat_map (λ (q : Placed). if_free at q.node) (found_by S)) p h) [
    | inl i ↦ (let r = has-flat_map (λ (m : NewNode). if_free at m.node) S.new p i in free_nowhere r.0.node (append_left (nodes_new S.new ++ nodes_loose S.loose) _ r.0.node (append_left (nodes_new S.new) (nodes_loose S.loose) r.0.node (map-has (λ (m : NewNode). m.node) S.new r.0 r.1))) p r.2)
    | inr i ↦ (let r = has-flat_map (λ (q : Placed). if_free at q.node) (found_by S) p i in free_nowhere r.0.node (found_there r.0 r.1) p r.2)
  ]

  not_true : (b : Bool) → not b ≡ true → b ≡ false
  not_true true e = cc
  not_true false e = refl

  of_new : (n : NodeId) → at n ≡ None → Has (nodes_new S.new) n → Has (set_free at S) (record { node = n; spot = Spot.Nowhere })
  of_new n free h =
      let r = has-map (λ (m : NewNode). m.node) S.new n h in
      append_left (flat_map (λ (m : NewNode). if_free at m.node) S.new) (flat_map (λ (q : Placed). if_free at q.node) (found_by S)) _
      (flat_map-has (λ (m : NewNode). if_free at m.node) S.new r.0 _ r.1 (subst (λ k. Has (if_free at k) (record { node = n; spot = Spot.Nowhere })) (sym r.2) (told_free n free)))

  of_found : (n : NodeId) → at n ≡ None → (p : Placed) → p.node ≡ n → Has (found_by S) p → Has (set_free at S) (record { node = n; spot = Spot.Nowhere })
  of_found n free p e h =
      append_right (flat_map (λ (m : NewNode). if_free at m.node) S.new) (flat_map (λ (q : Placed). if_free at q.node) (found_by S)) _
      (flat_map-has (λ (q : Placed). if_free at q.node) (found_by S) p _ h (subst (λ k. Has (if_free at k) (record { node = n; spot = Spot.Nowhere })) (sym e) (told_free n free)))

  pub nowhere_rest : (n : NodeId) → Nowhere n → Has (set_free at S) (record { node = n; spot = Spot.Nowhere })
  nowhere_rest n e =
      let b = and-true (is_among there n) (not (is_among taken n)) e in
      let free : at n ≡ None = not_listed n (not_true _ b.1) in
      elim (has-append (nodes_new S.new ++ nodes_loose S.loose) _ n (among-has there n b.0)) [
        | inl i ↦ elim (has-append (nodes_new S.new) (nodes_loose S.loose) n i) [
          | inl j ↦ of_new n free j
          | inr j ↦ of_found n free (record { node = n; spot = Spot.Nowhere }) refl (append_right (standing false S) (map placed_loose S.loose) _ (placed_loosely S.loose n j))
        ]
        | inr i ↦ (let r = has-map (λ (q : Placed). q.node) (standing false S) n (subst (λ l. Has l n) (sym (stand_listed false S)) i) in of_found n free r.0 r.2 (append_left (standing false S) (map placed_loose S.loose) r.0 r.1))
      ]

  pub left_told : IsRising node_cmp (λ (r : RowMarks). r.node) S.rows → IsRising field_cmp (λ (r : RegStep). r.field) S.regs → ArePlaces (standing true S ++ set_free at S) (listing_after_step S)
  left_told rise rise_regs = places_told true (listing_after_step S) S (set_free at S) rise rise_regs
      (λ n vs e. row_listed (option_map (λ (r : RowMarks). cells_after (spread r.marks)) (item_of node_cmp (λ (r : RowMarks). r.node) S.rows n)) _ vs e)
      (λ n vs k v e at. listed_row (option_map (λ (r : RowMarks). cells_after (spread r.marks)) (item_of node_cmp (λ (r : RowMarks). r.node) S.rows n)) (is_among (nodes_new S.new) n) vs k v e at)
      (λ f n e. row_listed (option_map (λ (r : RegStep). r.after) (item_of field_cmp (λ (r : RegStep). r.field) S.regs f)) _ (Some n) e)
      (λ f n e. listed_register (option_map (λ (r : RegStep). r.after) (item_of field_cmp (λ (r : RegStep). r.field) S.regs f)) (is_among (nodes_new S.new) f.node) n e)
      rest_nowhere nowhere_rest

pub left_listed : (S : Step) (l new : List Placed) (at : NodeId → Option ℕ) → IsRising node_cmp (λ (r : RowMarks). r.node) S.rows → IsRising field_cmp (λ (r : RegStep). r.field) S.regs
    → l ≡ standing true S → IsTable l at → new ≡ l ++ set_free at S → ArePlaces new (listing_after_step S)
left_listed S l new at rise rise_regs e table f =
    subst (λ ps. ArePlaces ps (listing_after_step S)) (sym (f ∙ ap (λ ps. ps ++ set_free at S) e)) (left_told S at (subst (λ ps. IsTable ps at) e table) rise rise_regs)
