-- The tables after a step: each part of the later document.
use Rattle.std.proofs.Common.{◌≡◌, ◌≢◌, ◌<◌, ◌-◌, ◌+◌, ◌^◌, Bool, true, false, cond, not, ◌||◌, List, [], ◌∷◌, ◌++◌, length, take, map, Option, Some, None, option_map, unwrap_or, refl, sym, ap, ◌∙◌, subst, inl, inr, ◌⊎◌, arith, append_assoc, length-append}
use Rattle.std.proofs.lemmas.List.{length-map, take-append-le, take_all}
use Rattle.std.specs.BTreeMap.{get}
use Rattle.std.specs.Cmp.{IsTotalOrder}
use Rattle.std.specs.FinMap.Entries.{below_all}
use Rattle.std.specs.List.{cons_option, filter_map, list_any}
use Rattle.std.specs.Ordering.{is_lt, ordering_reverse}
use Rattle.std.specs.declared.cmp.Ordering.{Ordering}
use Rattle.std.specs.declared.cmp.Ordering.TheVariants.{Less, Equal, Greater}
use Rattle.st_ids.specs.Listing.{AreDistinct, Has, IsRising, item_of, key_pairs}
use Rattle.st_ids.specs.Order.{field_cmp, node_cmp, same_field, same_node}
use Rattle.st_ids.specs.declared.names.FieldId.{FieldId}
use Rattle.st_ids.specs.declared.names.NodeId.{NodeId}
use Rattle.st_ids.proofs.Listings.{has-item_of, item_of-has}
use Rattle.st_ids.proofs.Orders.{field_cmp_exact, field_cmp_total, node_cmp_exact, node_cmp_total, same_field-itself, same_field-true, same_node-itself, same_node-true}
use Rattle.st_ids.proofs.Rising.{parts_true}
use Rattle.st_lemmas.proofs.Bools.{true-false}
use Rattle.st_marks.specs.declared.changes.NewNode.{NewNode}
use Rattle.st_marks.specs.declared.marks.RegStep.{RegStep}
use Rattle.st_marks.specs.declared.marks.RowMarks.{RowMarks}
use Rattle.st_marks.specs.declared.places.Slot.{Slot}
use Rattle.st_marks.specs.declared.places.Spot.{Spot}
use Rattle.st_marks.specs.declared.schemas.SchemaEntry.{SchemaEntry}
use Rattle.st_marks.specs.declared.schemas.SchemaStep.{SchemaStep}
use Rattle.st_marks.specs.declared.steps.Step.{Step}
use Rattle.st_marks.specs.Document.{Document, NodeType, content, is_cell, slot}
use Rattle.st_marks.specs.Embedding.{row_marks, tells}
use Rattle.st_marks.specs.Extends.{IsExtendedBy}
use Rattle.st_marks.specs.Intent.{same_option}
use Rattle.st_marks.specs.Register.{holds_mentioned, step_register}
use Rattle.st_marks.specs.Row.{CellMark, merge, spread, step_row}
use Rattle.st_marks.specs.Step.{IsSchemaStep, IsStep, gained_node}
use Rattle.st_marks.proofs.Climb.{shown, stands, unknown_nowhere}
use Rattle.st_marks.proofs.Members.{all-has, any-has, append_left, append_right, has-all, has-any, has-append, has-filter_map, has-map, map-has}
use Rattle.st_marks.proofs.Shared.{same-held}
use Rattle.st_read_laws.specs.Reading.{read, read_marks, read_row, read_step}
use Rattle.st_read_laws.proofs.Readings.{read-counted, spread-read}
use Rattle.st_forest.specs.declared.forest.Forest.{Forest}
use Rattle.st_forest.specs.declared.forest.Seated.{Seated}
use Rattle.st_forest.specs.RowSteps.{Leads}
use Rattle.st_forest.specs.Stands.{StandsFor, named}
use Rattle.st_forest.specs.inside.Writes.{AreLed, IsChangedBy, RowsLead, held_after, held_writes, new_seat, new_seats, reseated, schemas_after, seat_by, seat_in, seats_of_registers, seats_of_row, seats_of_rows, step_seats, written}
use Rattle.st_forest.proofs.Told.{Seats, came, comes, leaves, left, row_seats, seat_at, spread-merge, told, untold}
use Rattle.st_forest.proofs.Written.{unwritten, written-append, written_one}

-- ## Lists

-- what is picked of a list
has-picked : {A B : Type 0} (f : A → Option B) (xs : List A) (y : B) → Has (filter_map f xs) y → (x : A) × Has xs x × (f x ≡ Some y)
has-picked f [] y h = absurd h
has-picked {A} {B} f (x ∷ xs) y h = go (f x) refl (λ j. has-picked f xs y j) h
  where
    go : (o : Option B) → f x ≡ o → (Has (filter_map f xs) y → (z : A) × Has xs z × (f z ≡ Some y)) → Has (cons_option o (filter_map f xs)) y → (z : A) × Has (x ∷ xs) z × (f z ≡ Some y)
    go None e rest j = let k = rest j in (k.0, inr k.1, k.2)
    go (Some z) e rest (inl s) = (x, inl refl, e ∙ ap (λ b. Some b) s)
    go (Some z) e rest (inr j) = let k = rest j in (k.0, inr k.1, k.2)

-- names that rise are distinct
module _ {K A : Type 0} (R : K → K → Ordering) (t : IsTotalOrder R) (key : A → K) where
  not-below : (o : Ordering) → o ≡ ordering_reverse o → is_lt o ≡ false
  not-below Less e = cc
  not-below Equal e = refl
  not-below Greater e = refl

  below-has : (k : K) (xs : List A) (x : A) → below_all R k (key_pairs key xs) ≡ true → Has xs x → is_lt (R k (key x)) ≡ true
  below-has k [] x b h = absurd h
  below-has k (y ∷ ys) x b (inl e) = subst (λ z. is_lt (R k (key z)) ≡ true) e (parts_true _ _ b).0
  below-has k (y ∷ ys) x b (inr h) = below-has k ys x (parts_true _ _ b).1 h

  rising_distinct : (xs : List A) → IsRising R key xs → AreDistinct key xs
  rising_distinct [] r = tt
  rising_distinct (y ∷ xs) r = let q = parts_true _ _ r in (
    has-all (λ z. key z ≢ key y) xs (λ z h e.
        let a = below-has (key y) xs z q.0 h in
        let b : is_lt (R (key y) (key z)) ≡ false = ap (λ k. is_lt (R (key y) k)) e ∙ not-below (R (key y) (key y)) (t.antisymm (key y) (key y)) in
        true-false a b),
    rising_distinct xs q.1,
  )

apart : (b : Bool) → (b ≡ true → ⊥) → b ≡ false
apart true h = absurd (h refl)
apart false h = refl

some-is : {A : Type 0} (x y : A) → Some x ≡ Some y → x ≡ y
some-is x y e = cc

-- ## Over documents

module _ (D E : Document) (x : IsExtendedBy D E) (S : Step) (s : IsStep D E S) (l : Bool) where
  abbrev T : Step
  T = read_step l S

  abbrev m : NodeId → Bool
  m = s.mentioned

  abbrev cells : NodeId → List CellMark
  cells r = step_row m (s.grows r)

  -- ## Rows

  -- a row that is listed
  row_listed : (q : RowMarks) → Has S.rows q → row_marks q.node (cells q.node) ≡ Some q
  row_listed q h = sym (s.rows.at_each q.node) ∙ has-item_of node_cmp node_cmp_total node_cmp_exact (λ (r : RowMarks). r.node) S.rows q s.rows.rising h

  marks_are : (q : RowMarks) → Has S.rows q → q.marks ≡ merge (cells q.node)
  marks_are q h = go (list_any tells (cells q.node)) (row_listed q h)
    where
      go : (b : Bool) → cond b (Some (record { node = q.node; marks = merge (cells q.node) })) None ≡ Some q → q.marks ≡ merge (cells q.node)
      go true e = sym (ap (λ (r : RowMarks). r.marks) (some-is (record { node = q.node; marks = merge (cells q.node) }) q e))
      go false e = cc

  -- a row of which something is told is listed
  listed_row : (r : NodeId) → list_any tells (cells r) ≡ true → Has S.rows (record { node = r; marks = merge (cells r) })
  listed_row r e =
      (item_of-has node_cmp node_cmp_total node_cmp_exact (λ (q : RowMarks). q.node) S.rows r (record { node = r; marks = merge (cells r) })
      (s.rows.at_each r ∙ ap (λ b. cond b (Some (record { node = r; marks = merge (cells r) })) None) e)).0

  seats_are : (b : Bool) (q : RowMarks) → Has S.rows q → seats_of_row b (read_row l q) ≡ filter_map (seat_at b q.node) (cells q.node)
  seats_are b q h = ap (λ ms. filter_map (seat_by b q.node) (read_marks l ms)) (marks_are q h) ∙ row_seats b l q.node (cells q.node)

  -- whom some listed rows tell
  rows_tell : (b : Bool) (qs : List RowMarks) → ((q : RowMarks) → Has qs q → Has S.rows q) → (w : NodeId × Spot) → Has (seats_of_rows b (map (read_row l) qs)) w → (r : NodeId) × Has (filter_map (seat_at b r) (cells r)) w
  rows_tell b [] all w h = absurd h
  rows_tell b (q ∷ qs) all w h = elim (has-append (seats_of_row b (read_row l q)) (seats_of_rows b (map (read_row l) qs)) w h) [
    | inl j ↦ (q.node, subst (λ ws. Has ws w) (seats_are b q (all q (inl refl))) j)
    | inr j ↦ rows_tell b qs (λ p k. all p (inr k)) w j
  ]

  told_by_rows : (b : Bool) (qs : List RowMarks) (q : RowMarks) → Has qs q → (w : NodeId × Spot) → Has (seats_of_row b (read_row l q)) w → Has (seats_of_rows b (map (read_row l) qs)) w
  told_by_rows b [] q h w j = absurd h
  told_by_rows b (p ∷ qs) q (inl e) w j = append_left (seats_of_row b (read_row l p)) (seats_of_rows b (map (read_row l) qs)) w (subst (λ (r : RowMarks). Has (seats_of_row b (read_row l r)) w) (sym e) j)
  told_by_rows b (p ∷ qs) q (inr h) w j = append_right (seats_of_row b (read_row l p)) (seats_of_rows b (map (read_row l) qs)) w (told_by_rows b qs q h w j)

  -- whom a row's cells tell the step tells
  told_by_cells : (b : Bool) (r : NodeId) (w : NodeId × Spot) → Has (filter_map (seat_at b r) (cells r)) w → Has (seats_of_rows b T.rows) w
  told_by_cells b r w h =
      let q : RowMarks = record { node = r; marks = merge (cells r) } in
      let i = listed_row r (told m b r w (cells r) h) in
      told_by_rows b S.rows q i w (subst (λ ws. Has ws w) (sym (seats_are b q i)) h)

  -- ## Registers

  register_listed : (q : RegStep) → Has S.regs q → step_register q.field m (D.held q.field) (E.held q.field) ≡ Some q
  register_listed q h = sym (s.regs.at_each q.field) ∙ has-item_of field_cmp field_cmp_total field_cmp_exact (λ (r : RegStep). r.field) S.regs q s.regs.rising h

  register_is : (q : RegStep) → Has S.regs q → (q.before ≡ D.held q.field) × (q.after ≡ E.held q.field)
  register_is q h = go (not (same_option same_node (D.held q.field) (E.held q.field)) || holds_mentioned m (D.held q.field)) (register_listed q h)
    where
      go : (b : Bool) → cond b (Some (record { field = q.field; before = D.held q.field; after = E.held q.field })) None ≡ Some q → (q.before ≡ D.held q.field) × (q.after ≡ E.held q.field)
      go true e = let k = some-is (record { field = q.field; before = D.held q.field; after = E.held q.field }) q e in (sym (ap (λ (r : RegStep). r.before) k), sym (ap (λ (r : RegStep). r.after) k))
      go false e = cc

  -- a register in which someone else is later is listed
  register_changed : (f : FieldId) → (D.held f ≡ E.held f) ⊎ Has S.regs (record { field = f; before = D.held f; after = E.held f })
  register_changed f = go (same_option same_node (D.held f) (E.held f)) refl
    where
      go : (b : Bool) → same_option same_node (D.held f) (E.held f) ≡ b → (D.held f ≡ E.held f) ⊎ Has S.regs (record { field = f; before = D.held f; after = E.held f })
      go true e = inl (same-held (D.held f) (E.held f) e)
      go false e =
          inr
          (item_of-has field_cmp field_cmp_total field_cmp_exact (λ (q : RegStep). q.field) S.regs f (record { field = f; before = D.held f; after = E.held f })
          (s.regs.at_each f ∙ ap (λ b. cond (not b || holds_mentioned m (D.held f)) (Some (record { field = f; before = D.held f; after = E.held f })) None) e)).0

  -- ## Who comes, and who leaves

  abbrev comers : Seats
  comers = seats_of_rows true T.rows ++ seats_of_registers true T.regs

  abbrev leavers : Seats
  leavers = seats_of_rows false T.rows ++ seats_of_registers false T.regs

  all_seats : step_seats T ≡ leavers ++ comers
  all_seats = append_assoc leavers (seats_of_rows true T.rows) (seats_of_registers true T.regs)

  -- who comes stands there
  come_right : (w : NodeId × Spot) → Has comers w → w.1 ≡ E.place w.0
  come_right w h = elim (has-append (seats_of_rows true T.rows) (seats_of_registers true T.regs) w h) [
    | inl j ↦ (let r = rows_tell true S.rows (λ q k. k) w j in
        let c = came m r.0 w.0 w.1 (s.grows r.0) r.1 in
        c.1 ∙ sym (stands E x.after w.0 r.0 c.0 c.2))
    | inr j ↦ (let q = has-picked (seat_in true) S.regs w j in by_register q.0 q.1 q.2)
  ]
    where
      by_register : (q : RegStep) → Has S.regs q → seat_in true q ≡ Some w → w.1 ≡ E.place w.0
      by_register q h e = go q.after refl e
        where
          go : (o : Option NodeId) → q.after ≡ o → option_map (λ (n : NodeId). let p : NodeId × Spot = (n, Spot.Register q.field) in p) o ≡ Some w → w.1 ≡ E.place w.0
          go None a b = cc
          go (Some n) a b =
              let k : (n, Spot.Register q.field) ≡ w = some-is (n, Spot.Register q.field) w b in
              let here : E.place n ≡ Spot.Register q.field = (x.after.one_held n q.field).0 (sym (register_is q h).1 ∙ a) in
              sym (ap (λ (p : NodeId × Spot). p.1) k) ∙ sym here ∙ ap (λ (p : NodeId × Spot). E.place p.0) k

  -- who leaves is nowhere then
  leave_nowhere : (w : NodeId × Spot) → Has leavers w → w.1 ≡ Spot.Nowhere
  leave_nowhere w h = elim (has-append (seats_of_rows false T.rows) (seats_of_registers false T.regs) w h) [
    | inl j ↦ (let r = rows_tell false S.rows (λ q k. k) w j in (left m r.0 w.0 w.1 (s.grows r.0) r.1).0)
    | inr j ↦ (let q = has-picked (seat_in false) S.regs w j in by_register q.0 q.2)
  ]
    where
      by_register : (q : RegStep) → seat_in false q ≡ Some w → w.1 ≡ Spot.Nowhere
      by_register q e = go q.before e
        where
          go : (o : Option NodeId) → option_map (λ (n : NodeId). let p : NodeId × Spot = (n, Spot.Nowhere) in p) o ≡ Some w → w.1 ≡ Spot.Nowhere
          go None b = cc
          go (Some n) b = let k : (n, Spot.Nowhere) ≡ w = some-is (n, Spot.Nowhere) w b in sym (ap (λ (p : NodeId × Spot). p.1) k)

  -- a slot is full where its node stands in it
  full_is : (r : NodeId) (t : Slot) → Has (content E r) t → t.full ≡ is_cell t.cell (E.place t.node)
  full_is r t h = let o = has-map (slot E) (E.rows r) t h in subst (λ (u : Slot). u.full ≡ is_cell u.cell (E.place u.node)) o.2 refl

  -- who leaves and stands where it stood comes again
  back_again : (n : NodeId) (t : Spot) → Has leavers (n, t) → E.place n ≡ D.place n → Has comers (n, E.place n)
  back_again n t h same = elim (has-append (seats_of_rows false T.rows) (seats_of_registers false T.regs) (n, t) h) [
    | inl j ↦ (let r = rows_tell false S.rows (λ q k. k) (n, t) j in
        let c = left m r.0 n t (s.grows r.0) r.1 in
        let here : E.place n ≡ Spot.Row r.0 c.1 = same ∙ stands D x.before n r.0 c.1 c.2 in
        let one = shown E x.after n r.0 c.1 here in
        let is = full_is r.0 (record { cell = c.1; node = n; full = true }) one in
        let isn't = full_is r.0 (record { cell = c.1; node = n; full = false }) c.3 in
        absurd (let bad : ◌≡◌ {A = Bool} true false = is ∙ sym isn't in cc))
    | inr j ↦ (let q = has-picked (seat_in false) S.regs (n, t) j in by_register q.0 q.1 q.2)
  ]
    where
      by_register : (q : RegStep) → Has S.regs q → seat_in false q ≡ Some (n, t) → Has comers (n, E.place n)
      by_register q h e = go q.before refl e
        where
          go : (o : Option NodeId) → q.before ≡ o → option_map (λ (k : NodeId). let p : NodeId × Spot = (k, Spot.Nowhere) in p) o ≡ Some (n, t) → Has comers (n, E.place n)
          go None a b = cc
          go (Some k) a b =
              let pair : (k, Spot.Nowhere) ≡ (n, t) = some-is (k, Spot.Nowhere) (n, t) b in
              let who : k ≡ n = ap (λ (p : NodeId × Spot). p.0) pair in
              let held : D.held q.field ≡ Some n = sym (register_is q h).0 ∙ a ∙ ap (λ k. Some k) who in
              let here : E.place n ≡ Spot.Register q.field = same ∙ (x.before.one_held n q.field).0 held in
              let after : q.after ≡ Some n = (register_is q h).1 ∙ (x.after.one_held n q.field).1 here in
              let put : seat_in true q ≡ Some (n, E.place n) = ap (option_map (λ (k : NodeId). let p : NodeId × Spot = (k, Spot.Register q.field) in p)) after ∙ ap (λ p. Some (n, p)) (sym here) in
              append_right (seats_of_rows true T.rows) (seats_of_registers true T.regs) (n, E.place n) (has-filter_map (seat_in true) S.regs q (n, E.place n) h put)

  -- each node stands where it stood, or comes, or leaves and is nowhere
  moved : (n : NodeId) → (E.place n ≡ D.place n) ⊎ Has comers (n, E.place n) ⊎ ((E.place n ≡ Spot.Nowhere) × Has leavers (n, Spot.Nowhere))
  moved n = go (E.place n) refl
    where
      from : E.place n ≡ Spot.Nowhere → (p : Spot) → D.place n ≡ p → (E.place n ≡ D.place n) ⊎ ((E.place n ≡ Spot.Nowhere) × Has leavers (n, Spot.Nowhere))
      from out Spot.Nowhere e = inl (out ∙ sym e)
      from out (Spot.Row r c) e = elim (leaves m r n c (s.grows r) (shown D x.before n r c e)) [
        | inl k ↦ absurd (let bad : Spot.Nowhere ≡ Spot.Row r c = sym out ∙ stands E x.after n r c k in cc)
        | inr k ↦ inr (out, append_left (seats_of_rows false T.rows) (seats_of_registers false T.regs) (n, Spot.Nowhere) (told_by_cells false r (n, Spot.Nowhere) k))
      ]
      from out (Spot.Register f) e =
          let held : D.held f ≡ Some n = (x.before.one_held n f).1 e in
          elim (register_changed f) [
            | inl k ↦ absurd (let bad : Spot.Nowhere ≡ Spot.Register f = sym out ∙ (x.after.one_held n f).0 (sym k ∙ held) in cc)
            | inr k ↦ inr (
              out,
              append_right (seats_of_rows false T.rows) (seats_of_registers false T.regs) (n, Spot.Nowhere)
                  (has-filter_map (seat_in false) S.regs (record { field = f; before = D.held f; after = E.held f }) (n, Spot.Nowhere) k (ap (option_map (λ (k : NodeId). let p : NodeId × Spot = (k, Spot.Nowhere) in p)) held)),
            )
          ]

      go : (p : Spot) → E.place n ≡ p → (E.place n ≡ D.place n) ⊎ Has comers (n, E.place n) ⊎ ((E.place n ≡ Spot.Nowhere) × Has leavers (n, Spot.Nowhere))
      go (Spot.Row r c) e = elim (comes m r n c (s.grows r) (shown E x.after n r c e)) [
        | inl k ↦ inl (e ∙ sym (stands D x.before n r c k))
        | inr k ↦ inr (inl (subst (λ p. Has comers (n, p)) (sym e) (append_left (seats_of_rows true T.rows) (seats_of_registers true T.regs) (n, Spot.Row r c) (told_by_cells true r (n, Spot.Row r c) k))))
      ]
      go (Spot.Register f) e =
          let held : E.held f ≡ Some n = (x.after.one_held n f).1 e in
          elim (register_changed f) [
            | inl k ↦ inl (e ∙ sym ((x.before.one_held n f).0 (k ∙ held)))
            | inr k ↦ inr (inl (subst (λ p. Has comers (n, p)) (sym e) (append_right (seats_of_rows true T.rows) (seats_of_registers true T.regs) (n, Spot.Register f)
                (has-filter_map (seat_in true) S.regs (record { field = f; before = D.held f; after = E.held f }) (n, Spot.Register f) k (ap (option_map (λ (k : NodeId). let p : NodeId × Spot = (k, Spot.Register f) in p)) held)))))
          ]
      go Spot.Nowhere e = elim (from e (D.place n) refl) [
        | inl k ↦ inl k
        | inr k ↦ inr (inr k)
      ]

  -- ## Places

  pub placed : (n : NodeId) → written same_node (step_seats T) n (D.place n) ≡ E.place n
  placed n = ap (λ ws. written same_node ws n (D.place n)) all_seats ∙ written-append same_node leavers comers n (D.place n) ∙ go (list_any (λ (w : NodeId × Spot). same_node w.0 n) comers) refl
    where
      of_node : NodeId × Spot → Bool
      of_node w = same_node w.0 n

      none : (ws : Seats) → list_any (λ (w : NodeId × Spot). same_node w.0 n) ws ≡ false → (w : NodeId × Spot) → Has ws w → same_node w.0 n ≡ false
      none ws e w h = apart (same_node w.0 n) (λ q. true-false (has-any (λ (w : NodeId × Spot). same_node w.0 n) ws w h q) e)

      right : (w : NodeId × Spot) → Has comers w → same_node w.0 n ≡ true → w.1 ≡ E.place n
      right w h q = come_right w h ∙ ap E.place (same_node-true w.0 n q)

      comer : Has comers (n, E.place n) → (v : Spot) → written same_node comers n v ≡ E.place n
      comer h v = written_one same_node comers n v (E.place n) (n, E.place n) h (same_node-itself n) right

      gone : list_any (λ (w : NodeId × Spot). same_node w.0 n) comers ≡ false → (b : Bool) → list_any (λ (w : NodeId × Spot). same_node w.0 n) leavers ≡ b → written same_node leavers n (D.place n) ≡ E.place n
      gone e b f = elim (moved n) [
        | inl k ↦ stays b f k
        | inr (inl k) ↦ absurd (true-false (same_node-itself n) (none comers e (n, E.place n) k))
        | inr (inr k) ↦ written_one same_node leavers n (D.place n) (E.place n) (n, Spot.Nowhere) k.1 (same_node-itself n) (λ u h q. leave_nowhere u h ∙ sym k.0)
      ]
        where
          stays : (b : Bool) → list_any (λ (w : NodeId × Spot). same_node w.0 n) leavers ≡ b → E.place n ≡ D.place n → written same_node leavers n (D.place n) ≡ E.place n
          stays false f k = unwritten same_node leavers n (D.place n) (none leavers f) ∙ sym k
          stays true f k =
              let w = any-has (λ (w : NodeId × Spot). same_node w.0 n) leavers f in
              let h : Has leavers (n, w.0.1) = subst (λ (q : NodeId). Has leavers (q, w.0.1)) (same_node-true w.0.0 n w.2) w.1 in
              absurd (true-false (same_node-itself n) (none comers e (n, E.place n) (back_again n w.0.1 h k)))

      go : (b : Bool) → list_any (λ (w : NodeId × Spot). same_node w.0 n) comers ≡ b → written same_node comers n (written same_node leavers n (D.place n)) ≡ E.place n
      go true e =
          let w = any-has (λ (w : NodeId × Spot). same_node w.0 n) comers e in
          written_one same_node comers n (written same_node leavers n (D.place n)) (E.place n) w.0 w.1 w.2 right
      go false e = unwritten same_node comers n (written same_node leavers n (D.place n)) (none comers e) ∙ gone e (list_any (λ (w : NodeId × Spot). same_node w.0 n) leavers) refl

  -- ## The tables

  module _ (F G : Forest) (f : StandsFor F D) (g : IsChangedBy T F G) where
    abbrev Node : Seated → NewNode
    Node t = t.node

    abbrev there : NodeId → Option Seated
    there n = written same_node (new_seats S.new) n (get node_cmp F.nodes n)

    -- a node is as the later document has it, before any is seated
    pub record IsThere (n : NodeId) (o : Option Seated) : Type 0 where
      pub node : option_map Node o ≡ option_map (named n) (E.nodes n)
      pub place : unwrap_or (option_map (λ (t : Seated). t.place) o) Spot.Nowhere ≡ D.place n

    new_at : (n : NodeId) → item_of node_cmp (λ (k : NewNode). k.node) S.new n ≡ gained_node n (D.nodes n) (E.nodes n)
    new_at n = s.new.at_each n

    not_new : (n : NodeId) → item_of node_cmp (λ (k : NewNode). k.node) S.new n ≡ None → there n ≡ get node_cmp F.nodes n
    not_new n e = unwritten same_node (new_seats S.new) n (get node_cmp F.nodes n) (λ w h. apart (same_node w.0 n) (λ q.
        let k = has-map new_seat S.new w h in
        let who : k.0.node ≡ n = ap (λ (p : NodeId × Option Seated). p.0) k.2 ∙ same_node-true w.0 n q in
        let found = has-item_of node_cmp node_cmp_total node_cmp_exact (λ (k : NewNode). k.node) S.new k.0 s.new.rising k.1 in
        (let bad : None ≡ Some k.0 = sym e ∙ ap (item_of node_cmp (λ (k : NewNode). k.node) S.new) (sym who) ∙ found in cc)))

    is_new : (n : NodeId) (k : NewNode) → item_of node_cmp (λ (k : NewNode). k.node) S.new n ≡ Some k → there n ≡ Some (record { node = k; place = Spot.Nowhere })
    is_new n k e =
        let h = item_of-has node_cmp node_cmp_total node_cmp_exact (λ (k : NewNode). k.node) S.new n k e in
        written_one same_node (new_seats S.new) n (get node_cmp F.nodes n) (Some (record { node = k; place = Spot.Nowhere })) (new_seat k) (map-has new_seat S.new k h.0)
        (ap (λ q. same_node q n) h.1 ∙ same_node-itself n)
        (λ u i q.
        let j = has-map new_seat S.new u i in
        let who : j.0.node ≡ n = ap (λ (p : NodeId × Option Seated). p.0) j.2 ∙ same_node-true u.0 n q in
        let found = has-item_of node_cmp node_cmp_total node_cmp_exact (λ (k : NewNode). k.node) S.new j.0 s.new.rising j.1 in
        let same : Some j.0 ≡ Some k = sym found ∙ ap (item_of node_cmp (λ (k : NewNode). k.node) S.new) who ∙ e in
        sym (ap (λ (p : NodeId × Option Seated). p.1) j.2) ∙ ap (λ k. Some (record { node = k; place = Spot.Nowhere })) (some-is j.0 k same))

    nodes_there : (n : NodeId) → IsThere n (there n)
    nodes_there n = go (D.nodes n) refl (E.nodes n) refl
      where
        go : (a : Option NodeType) → D.nodes n ≡ a → (b : Option NodeType) → E.nodes n ≡ b → IsThere n (there n)
        go (Some t) e b d =
            let later : E.nodes n ≡ Some t = x.nodes n t e in
            let none = not_new n (new_at n ∙ ap (λ o. gained_node n o (E.nodes n)) e) in
            subst (IsThere n) (sym none) (record { node = f.nodes n ∙ ap (option_map (named n)) (e ∙ sym later); place = f.places n })
        go None e None d =
            let none = not_new n (new_at n ∙ ap (λ o. gained_node n o (E.nodes n)) e ∙ ap (gained_node n None) d) in
            subst (IsThere n) (sym none) (record { node = f.nodes n ∙ ap (option_map (named n)) (e ∙ sym d); place = f.places n })
        go None e (Some t) d =
            let made = is_new n (named n t) (new_at n ∙ ap (λ o. gained_node n o (E.nodes n)) e ∙ ap (gained_node n None) d) in
            subst (IsThere n) (sym made) (record { node = ap (option_map (named n)) (sym d); place = sym (unknown_nowhere D x.before n e) })

    nodes_after : (n : NodeId) → option_map Node (get node_cmp G.nodes n) ≡ option_map (named n) (E.nodes n)
    nodes_after n = ap (option_map Node) (g.nodes n) ∙ kept (there n) ∙ (nodes_there n).node
      where
        kept : (o : Option Seated) → option_map Node (option_map (reseated (step_seats T) n) o) ≡ option_map Node o
        kept None = refl
        kept (Some t) = refl

    places_after : (n : NodeId) → unwrap_or (option_map (λ (t : Seated). t.place) (get node_cmp G.nodes n)) Spot.Nowhere ≡ E.place n
    places_after n = ap (λ o. unwrap_or (option_map (λ (t : Seated). t.place) o) Spot.Nowhere) (g.nodes n) ∙ go (there n) (nodes_there n)
      where
        unknown : (b : Option NodeType) → E.nodes n ≡ b → None ≡ option_map (named n) b → E.nodes n ≡ None
        unknown None e h = e
        unknown (Some t) e h = cc

        go : (o : Option Seated) → IsThere n o → unwrap_or (option_map (λ (t : Seated). t.place) (option_map (reseated (step_seats T) n) o)) Spot.Nowhere ≡ E.place n
        go None h = sym (unknown_nowhere E x.after n (unknown (E.nodes n) refl h.node))
        go (Some t) h = ap (written same_node (step_seats T) n) h.place ∙ placed n

    -- ## Rows

    abbrev row : NodeId → List Slot
    row n = unwrap_or (get node_cmp F.rows n) []

    leads : (q : RowMarks) → Has S.rows q → Leads (row q.node) (spread (read_marks l q.marks)) (content E q.node)
    leads q h =
        subst (λ c. Leads c (spread (read_marks l q.marks)) (content E q.node)) (sym (f.rows q.node))
        (m, s.grows q.node, ap (map (read false)) (spread-read l q.marks ∙ ap (λ ms. map (read l) (spread ms)) (marks_are q h) ∙ ap (map (read l)) (spread-merge (cells q.node))) ∙ once_read (cells q.node))
      where
        once_read : (xs : List CellMark) → map (read false) (map (read l) xs) ≡ map (read false) xs
        once_read [] = refl
        once_read (x ∷ xs) = λ i. read-counted l x i ∷ once_read xs i

    rows_lead : RowsLead row (content E) T.rows
    rows_lead = record {
      lead = has-all (λ (r : RowMarks). Leads (row r.node) (spread r.marks) (content E r.node)) T.rows (λ r h.
          let q = has-map (read_row l) S.rows r h in
          subst (λ (r : RowMarks). Leads (row r.node) (spread r.marks) (content E r.node)) q.2 (leads q.0 q.1));
      short = λ n. subst (λ k. k < 2 ^ 32) (sym (length-map (E.rows n) (slot E))) (x.after.short n);
      once = mapped_distinct S.rows (rising_distinct node_cmp node_cmp_total (λ (r : RowMarks). r.node) S.rows s.rows.rising);
    }
      where
        mapped_distinct : (qs : List RowMarks) → AreDistinct (λ (r : RowMarks). r.node) qs → AreDistinct (λ (r : RowMarks). r.node) (map (read_row l) qs)
        mapped_distinct [] a = tt
        mapped_distinct (q ∷ qs) a = (
          has-all (λ (r : RowMarks). r.node ≢ q.node) (map (read_row l) qs) (λ r h.
              let p = has-map (read_row l) qs r h in
              subst (λ (r : RowMarks). r.node ≢ q.node) p.2 (all-has (λ (r : RowMarks). r.node ≢ q.node) qs p.0 a.0 p.1)),
          mapped_distinct qs a.1,
        )

    rows_after : (n : NodeId) → unwrap_or (get node_cmp G.rows n) [] ≡ content E n
    rows_after n = go (list_any tells (cells n)) refl
      where
        led : AreLed row (content E) T.rows (λ n. unwrap_or (get node_cmp G.rows n) [])
        led = g.rows (content E) rows_lead

        go : (b : Bool) → list_any tells (cells n) ≡ b → unwrap_or (get node_cmp G.rows n) [] ≡ content E n
        go true e = led.there (read_row l (record { node = n; marks = merge (cells n) })) (map-has (read_row l) S.rows (record { node = n; marks = merge (cells n) }) (listed_row n e))
        go false e =
            led.rest n (λ r h. apart (same_node r.node n) (λ k.
            let q = has-map (read_row l) S.rows r h in
            let who : q.0.node ≡ n = ap (λ (r : RowMarks). r.node) q.2 ∙ same_node-true r.node n k in
            let none : row_marks n (cells n) ≡ None = ap (λ b. cond b (Some (record { node = n; marks = merge (cells n) })) None) e in
            (let bad : None ≡ Some q.0 = sym none ∙ ap (λ r. row_marks r (cells r)) (sym who) ∙ row_listed q.0 q.1 in cc)))
            ∙ f.rows n ∙ untold m (s.grows n) e

    -- ## Registers

    held_later : (r : FieldId) → get field_cmp G.held r ≡ E.held r
    held_later r = g.held r ∙ elim (register_changed r) [
      | inl k ↦ written_same k
      | inr k ↦ written_one same_field (held_writes S.regs) r (get field_cmp F.held r) (E.held r) (held_after (record { field = r; before = D.held r; after = E.held r })) (map-has held_after S.regs (record { field = r; before = D.held r; after = E.held r }) k)
          (same_field-itself r) told_right
    ]
      where
        told_right : (w : FieldId × Option NodeId) → Has (held_writes S.regs) w → same_field w.0 r ≡ true → w.1 ≡ E.held r
        told_right w h q =
            let k = has-map held_after S.regs w h in
            sym (ap (λ (p : FieldId × Option NodeId). p.1) k.2) ∙ (register_is k.0 k.1).1 ∙ ap E.held (ap (λ (p : FieldId × Option NodeId). p.0) k.2 ∙ same_field-true w.0 r q)

        written_same : D.held r ≡ E.held r → written same_field (held_writes S.regs) r (get field_cmp F.held r) ≡ E.held r
        written_same k = go (list_any (λ (w : FieldId × Option NodeId). same_field w.0 r) (held_writes S.regs)) refl
          where
            go : (b : Bool) → list_any (λ (w : FieldId × Option NodeId). same_field w.0 r) (held_writes S.regs) ≡ b → written same_field (held_writes S.regs) r (get field_cmp F.held r) ≡ E.held r
            go true e =
                let w = any-has (λ (w : FieldId × Option NodeId). same_field w.0 r) (held_writes S.regs) e in
                written_one same_field (held_writes S.regs) r (get field_cmp F.held r) (E.held r) w.0 w.1 w.2 told_right
            go false e =
                unwritten same_field (held_writes S.regs) r (get field_cmp F.held r) (λ w h. apart (same_field w.0 r) (λ q. true-false (has-any (λ (w : FieldId × Option NodeId). same_field w.0 r) (held_writes S.regs) w h q) e))
                ∙ f.held r ∙ k

    -- ## Schemas

    schemas_later : G.schemas ≡ E.schemas
    schemas_later = g.schemas ∙ ap (schemas_after S.schema) f.schemas ∙ go S.schema s.schema
      where
        go : (o : Option SchemaStep) → IsSchemaStep D.schemas E.schemas o → schemas_after o D.schemas ≡ E.schemas
        go None e = e
        go (Some p) h = ap (λ es. es ++ p.add) (front_of h.0 p.cut D.schemas h.1) ∙ sym h.2
          where
            front_of : (front back es : List SchemaEntry) → es ≡ front ++ back → take (length es - length back) es ≡ front
            front_of front back es e =
                let long : length es ≡ length front + length back = ap length e ∙ length-append front back in
                let n : length es - length back ≡ length front = omega arith in
                (λ i. take (n i) (e i)) ∙ take-append-le (length front) front back (omega arith) ∙ take_all (length front) front (omega arith)

    pub stands_later : StandsFor G E
    stands_later = record { nodes = nodes_after; places = places_after; rows = rows_after; held = held_later; schemas = schemas_later }
