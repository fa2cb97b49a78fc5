-- A row of a document after the way back.
use Rattle.std.proofs.Common.{◌≡◌, Bool, true, false, ◌&&◌, List, [], ◌∷◌, map, Option, Some, None, cond, refl, sym, ap, ◌∙◌, inl, inr, IsSome}
use Rattle.std.specs.Option.{option_map_or}
use Rattle.st_ids.specs.Listing.{Has}
use Rattle.st_ids.specs.Order.{same_cell}
use Rattle.st_ids.proofs.Orders.{same_cell-true, same_cell-itself}
use Rattle.st_ids.specs.declared.names.CellId.{CellId}
use Rattle.st_ids.specs.declared.names.NodeId.{NodeId}
use Rattle.st_marks.specs.declared.intents.Owned.{Owned}
use Rattle.st_marks.specs.declared.places.Slot.{Slot}
use Rattle.st_marks.specs.declared.places.Spot.{Spot}
use Rattle.st_marks.specs.Back.{is_in, place_back, retreat}
use Rattle.st_marks.specs.Document.{Document, content, is_cell, node_of, owned_cell, slot}
use Rattle.st_marks.specs.Extends.{IsExtendedBy}
use Rattle.st_marks.proofs.Climb.{is_cell-true, shown}
use Rattle.st_marks.proofs.Later.{has_later}
use Rattle.st_marks.proofs.Members.{distinct-has}
use Rattle.st_marks.proofs.Retreat.{back_old}
use Rattle.st_rows.specs.Sequence.{is_full_in, retreat_to}
use Rattle.st_rows.proofs.Documents.{is_slot}
use Rattle.st_rows.proofs.ListTests.{any_has, has_any}
use Rattle.st_lemmas.proofs.Bools.{both-ways-same, and-true, true-false}

-- a node that D has not stands after the way back where it stands in E, in a field of a node that D has not
back_new : (D E : Document) (k : NodeId) (r : NodeId) (a : CellId) → is_in D k ≡ false → place_back D E k ≡ Spot.Row r a → (E.place k ≡ Spot.Row r a) × (option_map_or (is_in D) (node_of (E.place k)) false ≡ false)
back_new D E k r a e f = go (option_map_or (is_in D) (node_of (E.place k)) false) refl
  where
    back_by : (b : Bool) → option_map_or (is_in D) (node_of (E.place k)) false ≡ b → place_back D E k ≡ cond b Spot.Nowhere (E.place k)
    back_by b g = rw (e, g) refl

    go : (b : Bool) → option_map_or (is_in D) (node_of (E.place k)) false ≡ b → (E.place k ≡ Spot.Row r a) × (option_map_or (is_in D) (node_of (E.place k)) false ≡ false)
    go true g = let q : Spot.Nowhere ≡ Spot.Row r a = sym (back_by true g) ∙ f in cc
    go false g = (sym (back_by false g) ∙ f, g)

module _ (D E : Document) (n : NodeId) (x : IsExtendedBy D E) (known : IsSome (D.nodes n)) where
  -- a cell is in one row
  one_row : (a : CellId) (k r j : NodeId) → Has (E.rows r) (owned_cell a k) → Has (E.rows n) (owned_cell a j) → r ≡ n
  one_row a k r j v u = ap at (sym ((x.after.one_row a r).1 (k, v)) ∙ (x.after.one_row a n).1 (j, u))
    where
      at : Option NodeId → NodeId
      at None = r
      at (Some q) = q

  forth : (o : Owned) → Has (E.rows n) o → is_cell o.cell (place_back D E o.node) ≡ true → is_full_in (content D n) o.cell ≡ true
  forth o v e = let r = is_cell-true o.cell (place_back D E o.node) e in go (is_in D o.node) refl r.0 r.1
    where
      stands : (r : NodeId) → D.place o.node ≡ Spot.Row r o.cell → is_full_in (content D n) o.cell ≡ true
      stands r f =
          let there = has_later (x.rows r) (owned_cell o.cell o.node) (x.before.own_cell o.node r o.cell f) in
          let row = one_row o.cell o.node r o.node there v in
          any_has (λ (s : Slot). s.full && same_cell s.cell o.cell) (content D n) (record { cell = o.cell; node = o.node; full = true }) (shown D x.before o.node n o.cell (f ∙ ap (λ q. Spot.Row q o.cell) row)) (same_cell-itself o.cell)

      new_one : (b : Bool) → option_map_or (is_in D) (node_of (E.place o.node)) false ≡ b → (r : NodeId) → E.place o.node ≡ Spot.Row r o.cell → b ≡ false → is_full_in (content D n) o.cell ≡ true
      new_one b g r f h =
          let row = one_row o.cell o.node r o.node (x.after.own_cell o.node r o.cell f) v in
          let old : option_map_or (is_in D) (node_of (E.place o.node)) false ≡ true = ap (λ s. option_map_or (is_in D) (node_of s) false) f ∙ ap (is_in D) row ∙ known in
          absurd (true-false old (g ∙ h))

      go : (b : Bool) → is_in D o.node ≡ b → (r : NodeId) → place_back D E o.node ≡ Spot.Row r o.cell → is_full_in (content D n) o.cell ≡ true
      go true f r h = stands r (sym (back_old D E x o.node f) ∙ h)
      go false f r h = let q = back_new D E o.node r o.cell f h in new_one (option_map_or (is_in D) (node_of (E.place o.node)) false) refl r q.0 q.1

  back : (o : Owned) → Has (E.rows n) o → is_full_in (content D n) o.cell ≡ true → is_cell o.cell (place_back D E o.node) ≡ true
  back o v e =
      let r = has_any (λ (s : Slot). s.full && same_cell s.cell o.cell) (content D n) e in
      let t = and-true r.0.full (same_cell r.0.cell o.cell) r.2 in
      let q = is_slot D n r.0 r.1 in
      let cell : q.0.cell ≡ o.cell = ap (λ (s : Slot). s.cell) q.2 ∙ same_cell-true r.0.cell o.cell t.1 in
      let same : q.0 ≡ o = distinct-has (λ (p : Owned). p.cell) (E.rows n) q.0 o (x.after.once n) (has_later (x.rows n) q.0 q.1) v cell in
      let full : is_cell q.0.cell (D.place q.0.node) ≡ true = ap (λ (s : Slot). s.full) q.2 ∙ t.0 in
      let old : is_in D o.node ≡ true = ap (λ (p : Owned). is_in D p.node) (sym same) ∙ (x.before.cells_known n q.0 q.1).1 in
      ap (is_cell o.cell) (back_old D E x o.node old) ∙ ap (λ (p : Owned). is_cell p.cell (D.place p.node)) (sym same) ∙ full

  back_slots : (os : List Owned) → ((o : Owned) → Has os o → Has (E.rows n) o) → map (slot (retreat D E)) os ≡ retreat_to (content D n) (map (slot E) os)
  back_slots [] h = refl
  back_slots (o ∷ os) h = λ i. record { cell = o.cell; node = o.node; full = both-ways-same (is_cell o.cell (place_back D E o.node)) (is_full_in (content D n) o.cell) (forth o (h o (inl refl))) (back o (h o (inl refl))) i } ∷ back_slots os (λ q v. h q (inr v)) i

  pub back_is : content (retreat D E) n ≡ retreat_to (content D n) (content E n)
  back_is = back_slots (E.rows n) (λ o v. v)
