-- The cells that rows are seen to show are those that are listed.
use Rattle.std.proofs.Common.{◌≡◌, ◌↔◌, ◌+◌, ℕ, zero, suc, Bool, true, false, List, [], ◌∷◌, slice_get, Option, Some, None, option_map, option_and_then, sym, ap, ◌∙◌, subst, inl, inr, arith}
use Rattle.std.specs.List.{flat_map}
use Rattle.st_ids.specs.Listing.{Has, IsRising, item_of}
use Rattle.st_ids.specs.Order.{node_cmp}
use Rattle.st_ids.specs.declared.names.CellId.{CellId}
use Rattle.st_ids.specs.declared.names.NodeId.{NodeId}
use Rattle.st_ids.proofs.Listings.{has-item_of, item_of-has}
use Rattle.st_ids.proofs.Orders.{node_cmp_exact, node_cmp_total}
use Rattle.st_lemmas.proofs.Options.{one_some, option_map-Some}
use Rattle.st_marks.specs.declared.marks.Mark.{Mark}
use Rattle.st_marks.specs.declared.marks.RowMarks.{RowMarks}
use Rattle.st_marks.specs.Listings.{CellView, Listing, ListsCell, cells_before, rows_before}
use Rattle.st_marks.specs.Row.{CellMark, counted_cells, spread}
use Rattle.st_marks.proofs.Members.{flat_map-has, has-flat_map}
use Rattle.st_clash.specs.declared.seen.Seen.{Seen}
use Rattle.st_clash.specs.inside.Seen.{row_seen, seen_from}

-- ## In a row

-- a cell that is shown by name
abbrev view : CellId → Option NodeId → Bool → CellView
view c o b = record { cell = Some c; node = o; full = b }

past_counted : (j i : ℕ) (xs : List CellMark) → slice_get (cells_before (counted_cells j xs)) (j + i) ≡ slice_get (cells_before xs) i
past_counted zero i xs = let e : 0 + i ≡ i = omega arith in ap (slice_get (cells_before xs)) e
past_counted (suc j) i xs = let e : suc j + i ≡ suc (j + i) = omega arith in ap (slice_get (cells_before (counted_cells (suc j) xs))) e ∙ past_counted j i xs

behind_counted : (j k : ℕ) (xs : List CellMark) (c : CellId) (o : Option NodeId) (b : Bool) → slice_get (cells_before (counted_cells j xs)) k ≡ Some (view c o b)
    → (i : ℕ) × (k ≡ j + i) × (slice_get (cells_before xs) i ≡ Some (view c o b))
behind_counted zero k xs c o b e = (k, omega arith, e)
behind_counted (suc j) zero xs c o b e = let q : None ≡ Some c = ap (option_and_then (λ (v : CellView). v.cell)) e in cc
behind_counted (suc j) (suc k) xs c o b e = let r = behind_counted j k xs c o b e in (r.0, omega (arith, r.1), r.2)

-- a cell that is seen from a place on is shown so many places further
abbrev IsSeen : NodeId → ℕ → List Mark → Seen → Type 0
IsSeen r k ms s = (i : ℕ) × (b : Bool) × (s.row ≡ r) × (s.place ≡ k + i) × (slice_get (cells_before (spread ms)) i ≡ Some (view s.cell s.owner b))

first_seen : (r : NodeId) (k : ℕ) (c : CellId) (o : Option NodeId) (b : Bool) (s : Seen) → ◌≡◌ {A = Seen} (record { cell = c; row = r; place = k; owner = o }) s
    → (s.row ≡ r) × (s.place ≡ k + 0) × (Some (view c o b) ≡ Some (view s.cell s.owner b))
first_seen r k c o b s e =
    let p : s.place ≡ k = ap (λ (q : Seen). q.place) (sym e) in
    (ap (λ (q : Seen). q.row) (sym e), omega (arith, p), ap (λ (q : Seen). Some (view q.cell q.owner b)) e)

seen : (r : NodeId) (k : ℕ) (ms : List Mark) (s : Seen) → Has (seen_from r k ms) s → IsSeen r k ms s
seen r k [] s h = absurd h
seen r k (Mark.Skip j ∷ ms) s h = let w = seen r (k + j) ms s h in (j + w.0, w.1, w.2, omega (arith, w.3), past_counted j w.0 (spread ms) ∙ w.4)
seen r k (Mark.Gap c ∷ ms) s (inl e) = let f = first_seen r k c None false s e in (0, false, f.0, f.1, f.2)
seen r k (Mark.Gap c ∷ ms) s (inr h) = let w = seen r (k + 1) ms s h in (suc w.0, w.1, w.2, omega (arith, w.3), w.4)
seen r k (Mark.Touch c n g ∷ ms) s (inl e) = let f = first_seen r k c (Some n) true s e in (0, true, f.0, f.1, f.2)
seen r k (Mark.Touch c n g ∷ ms) s (inr h) = let w = seen r (k + 1) ms s h in (suc w.0, w.1, w.2, omega (arith, w.3), w.4)
seen r k (Mark.Make c n b ∷ ms) s h = let w = seen r (k + 0) ms s h in (w.0, w.1, w.2, omega (arith, w.3), w.4)
seen r k (Mark.Fill c n ∷ ms) s (inl e) = let f = first_seen r k c (Some n) false s e in (0, false, f.0, f.1, f.2)
seen r k (Mark.Fill c n ∷ ms) s (inr h) = let w = seen r (k + 1) ms s h in (suc w.0, w.1, w.2, omega (arith, w.3), w.4)

seen_first : (r : NodeId) (k : ℕ) (d c : CellId) (n o : Option NodeId) (a b : Bool) → Some (view d n a) ≡ Some (view c o b)
    → ◌≡◌ {A = Seen} (record { cell = d; row = r; place = k; owner = n }) (record { cell = c; row = r; place = k + 0; owner = o })
seen_first r k d c n o a b e =
    let p : d ≡ c = one_some d c (ap (option_and_then (λ (v : CellView). v.cell)) e) in
    let q : n ≡ o = ap (option_and_then (λ (v : CellView). v.node)) e in
    let z : k ≡ k + 0 = omega arith in
    λ i. record { cell = p i; row = r; place = z i; owner = q i }

at_place : (r : NodeId) (k : ℕ) (ms : List Mark) (c : CellId) (o : Option NodeId) (j i : ℕ) → j ≡ i → Has (seen_from r k ms) (record { cell = c; row = r; place = j; owner = o }) → Has (seen_from r k ms) (record { cell = c; row = r; place = i; owner = o })
at_place r k ms c o j i e h = subst (λ z. Has (seen_from r k ms) (record { cell = c; row = r; place = z; owner = o })) e h

shown : (r : NodeId) (k : ℕ) (ms : List Mark) (i : ℕ) (c : CellId) (o : Option NodeId) (b : Bool) → slice_get (cells_before (spread ms)) i ≡ Some (view c o b)
    → Has (seen_from r k ms) (record { cell = c; row = r; place = k + i; owner = o })
shown r k [] i c o b e = cc
shown r k (Mark.Skip j ∷ ms) i c o b e =
    let w = behind_counted j i (spread ms) c o b e in
    at_place r (k + j) ms c o (k + j + w.0) (k + i) (omega (arith, w.1)) (shown r (k + j) ms w.0 c o b w.2)
shown r k (Mark.Gap d ∷ ms) zero c o b e = inl (seen_first r k d c None o false b e)
shown r k (Mark.Gap d ∷ ms) (suc i) c o b e = inr (at_place r (k + 1) ms c o (k + 1 + i) (k + suc i) (omega arith) (shown r (k + 1) ms i c o b e))
shown r k (Mark.Touch d n h ∷ ms) zero c o b e = inl (seen_first r k d c (Some n) o true b e)
shown r k (Mark.Touch d n h ∷ ms) (suc i) c o b e = inr (at_place r (k + 1) ms c o (k + 1 + i) (k + suc i) (omega arith) (shown r (k + 1) ms i c o b e))
shown r k (Mark.Make d n f ∷ ms) i c o b e = at_place r (k + 0) ms c o (k + 0 + i) (k + i) (omega arith) (shown r (k + 0) ms i c o b e)
shown r k (Mark.Fill d n ∷ ms) zero c o b e = inl (seen_first r k d c (Some n) o false b e)
shown r k (Mark.Fill d n ∷ ms) (suc i) c o b e = inr (at_place r (k + 1) ms c o (k + 1 + i) (k + suc i) (omega arith) (shown r (k + 1) ms i c o b e))

-- ## In the rows of a listing

abbrev shows : RowMarks → List CellView
shows r = cells_before (spread r.marks)

module _ (L : Listing) (rows : List RowMarks) (rise : IsRising node_cmp (λ (r : RowMarks). r.node) rows) (row_is : (n : NodeId) → L.row n ≡ rows_before rows n) where
  seen_listed : (s : Seen) → Has (flat_map row_seen rows) s → ListsCell L s.cell s.row s.place s.owner
  seen_listed s h =
      let r = has-flat_map row_seen rows s h in
      let w = seen r.0.node 0 r.0.marks s r.2 in
      let p : s.place ≡ w.0 = omega (arith, w.3) in
      record {
        cells = shows r.0;
        full = w.1;
        listed = ap L.row w.2 ∙ row_is r.0.node ∙ ap (option_map shows) (has-item_of node_cmp node_cmp_total node_cmp_exact (λ (q : RowMarks). q.node) rows r.0 rise r.1);
        at_place = ap (slice_get (shows r.0)) p ∙ w.4;
      }

  listed_seen : (s : Seen) → ListsCell L s.cell s.row s.place s.owner → Has (flat_map row_seen rows) s
  listed_seen s l =
      let r = option_map-Some shows (item_of node_cmp (λ (q : RowMarks). q.node) rows s.row) l.cells (sym (row_is s.row) ∙ l.listed) in
      let h = item_of-has node_cmp node_cmp_total node_cmp_exact (λ (q : RowMarks). q.node) rows s.row r.0 r.1 in
      let x = shown r.0.node 0 r.0.marks s.place s.cell s.owner l.full (ap (λ vs. slice_get vs s.place) r.2 ∙ l.at_place) in
      let z : 0 + s.place ≡ s.place = omega arith in
      let n = h.1 in
      let same : ◌≡◌ {A = Seen} (record { cell = s.cell; row = r.0.node; place = 0 + s.place; owner = s.owner }) s = λ i. record { cell = s.cell; row = n i; place = z i; owner = s.owner } in
      flat_map-has row_seen rows r.0 s h.0 (subst (Has (row_seen r.0)) same x)

  pub cells_shown : (s : Seen) → Has (flat_map row_seen rows) s ↔ ListsCell L s.cell s.row s.place s.owner
  cells_shown s = (seen_listed s, listed_seen s)
