-- A row of a document after an intent.
use Rattle.std.proofs.Common.{◌≡◌, ◌&&◌, subst, Bool, true, false, List, [], ◌∷◌, ◌++◌, map, Option, Some, None, cond, refl, sym, ap, ◌∙◌, inl, inr, IfSome, is_some, ℕ}
use Rattle.std.specs.Option.{option_or, option_map_or}
use Rattle.st_ids.specs.Listing.{Has}
use Rattle.st_ids.specs.Order.{same_cell, same_node}
use Rattle.st_ids.proofs.Orders.{same_cell-true, same_cell-itself}
use Rattle.st_ids.specs.declared.names.CellId.{CellId}
use Rattle.st_ids.specs.declared.names.NodeId.{NodeId}
use Rattle.st_kind.specs.Named.{Nodes}
use Rattle.st_marks.specs.declared.intents.Group.{Group}
use Rattle.st_marks.specs.declared.intents.Intent.{Intent}
use Rattle.st_marks.specs.declared.intents.Owned.{Owned}
use Rattle.st_marks.specs.declared.intents.To.{To}
use Rattle.st_marks.specs.declared.marks.How.TheVariants.{Here, Leave}
use Rattle.st_marks.specs.declared.places.Slot.{Slot}
use Rattle.st_marks.specs.declared.places.Spot.{Spot}
use Rattle.st_marks.specs.CarryOut.{full, is_put_in_new, place_after, spot_of, unless_cleared, void, void_data, with_groups, with_names}
use Rattle.st_marks.specs.Document.{Document, IsSoundInForm, content, is_cell, node_of, slot}
use Rattle.st_marks.specs.Intent.{Fits, cells_of as group_cells_of, clears, group_at, group_cells, is_new, new_row_of, put_of, same_anchor}
use Rattle.st_marks.specs.Embedding.{row_part}
use Rattle.std.specs.List.{find}
use Rattle.st_marks.proofs.Shared.{not_made}
use Rattle.st_rows.proofs.RowRebases.{same_put}
use Rattle.st_marks.specs.Row.{RowPart, how, same_to}
use Rattle.st_marks.specs.How.{is_here}
use Rattle.st_marks.proofs.Climb.{is_cell-true}
use Rattle.st_marks.proofs.Lookups.{group_at-group, made_there, new_row_of-group}
use Rattle.st_marks.proofs.Members.{flat_map-has}
use Rattle.st_rows.specs.Changes.{carried_cells, carried_row, full_after, made_cells, placed_by, void_part}
use Rattle.st_rows.specs.Sequence.{ListsNew, row_carried, row_part_of}
use Rattle.st_lemmas.proofs.Bools.{refuted-false, true-false}

same_turned : (a b : CellId) → same_cell a b ≡ same_cell b a
same_turned a b = elim (same_cell a b) as (λ z. same_cell a b ≡ z → z ≡ same_cell b a) [
  | true ↦ (λ e. sym (ap (same_cell b) (same_cell-true a b e) ∙ same_cell-itself b))
  | false ↦ (λ e. sym (refuted-false (same_cell b a) (λ f. true-false (ap (same_cell a) (same_cell-true b a f) ∙ same_cell-itself a) e)))
] refl

-- ## Where a put leads

put_full : (row_of : CellId → Option NodeId) (a : CellId) (r : NodeId) → row_of a ≡ Some r → (to : To) → is_cell a (spot_of row_of to) ≡ same_to to (To.Cell a)
put_full row_of a r h To.Nowhere = refl
put_full row_of a r h (To.Register f) = refl
put_full row_of a r h (To.Cell d) = go (row_of d) refl
  where
    go : (o : Option NodeId) → row_of d ≡ o → is_cell a (option_map_or (λ n. Spot.Row n d) o Spot.Nowhere) ≡ same_cell d a
    go (Some k) e = same_turned a d
    go None e = sym (refuted-false (same_cell d a) (λ f. let q : ◌≡◌ {A = Option NodeId} None (Some r) = sym e ∙ ap row_of (same_cell-true d a f) ∙ h in cc))

module _ (D : Document) (N : Intent) (n : NodeId) (x : IsSoundInForm D) (w : Fits D N) where
  cleared_full : (a : CellId) (s : Spot) → is_cell a (unless_cleared N s) ≡ is_cell a s
  cleared_full a Spot.Nowhere = refl
  cleared_full a (Spot.Row k d) = refl
  cleared_full a (Spot.Register f) = elim (clears N f) as (λ b. is_cell a (cond b Spot.Nowhere (Spot.Register f)) ≡ false) [ true ↦ refl | false ↦ refl ]

  abbrev row_of : CellId → Option NodeId
  row_of = (with_names D N).row_of

  place_full : (a : CellId) (k r : NodeId) → row_of a ≡ Some r → (g : Option To) → is_cell a (place_after row_of N g (D.place k)) ≡ full_after g a (is_cell a (D.place k))
  place_full a k r h None = cleared_full a (D.place k)
  place_full a k r h (Some to) = put_full row_of a r h to

  old_row : (o : Owned) → Has (D.rows n) o → row_of o.cell ≡ Some n
  old_row o v = ap (λ (q : Option NodeId). option_or q (new_row_of N o.cell)) ((x.one_row o.cell n).1 (o.node, v))

  -- a node doesn't stand in a cell that is new
  not_yet : (o : Owned) → Has (group_cells N) o → (k : NodeId) → is_cell o.cell (D.place k) ≡ false
  not_yet o v k = refuted-false (is_cell o.cell (D.place k)) (λ e.
      let r = is_cell-true o.cell (D.place k) e in
      let there = (x.one_row o.cell r.0).1 (k, x.own_cell k r.0 o.cell r.1) in
      let q : ◌≡◌ {A = Option NodeId} None (Some r.0) = sym (w.fresh_cells o.cell (made_there N o v)) ∙ there in
      cc)

  grouped : (a : Option CellId) (o : Owned) → Has (group_at N n a) o → Has (group_cells N) o × (row_of o.cell ≡ Some n)
  grouped a o v =
      let g = group_at-group N n a o v in
      let all = flat_map-has (λ (g : Group). g.cells) N.groups g.group o g.listed g.cell in
      (all, (λ i. option_or (w.fresh_cells o.cell (made_there N o all) i) (new_row_of-group N w.itself g.group o g.listed g.cell i)) ∙ ap (λ (k : NodeId). Some k) g.node)

  here_full : (g : Option To) (a : CellId) (b : Bool) → b ≡ false → full_after g a b ≡ is_here (how g (To.Cell a))
  here_full None a b e = e
  here_full (Some to) a b e = elim (same_to to (To.Cell a)) as (λ z. z ≡ is_here (cond z Here Leave)) [ true ↦ refl | false ↦ refl ]

  module _ (p : RowPart) (made : (a : Option CellId) → p.new_cells a ≡ group_at N n a) (target_of : (k : NodeId) → p.target_of k ≡ put_of N k) where
    made_slot : (a : Option CellId) (o : Owned) → Has (group_at N n a) o → (slot (full D N) o).full ≡ is_here (how (p.target_of o.node) (To.Cell o.cell))
    made_slot a o v =
        let r = grouped a o v in
        place_full o.cell o.node n r.1 (put_of N o.node) ∙ here_full (put_of N o.node) o.cell (is_cell o.cell (D.place o.node)) (not_yet o r.0 o.node) ∙ ap (λ g. is_here (how g (To.Cell o.cell))) (sym (target_of o.node))

    made_slots : (os : List Owned) → ((o : Owned) → Has os o → (slot (full D N) o).full ≡ is_here (how (p.target_of o.node) (To.Cell o.cell))) → (xs : List Owned) (ys : List Slot) → map (slot (full D N)) xs ≡ ys → map (slot (full D N)) (os ++ xs) ≡ made_cells p os ++ ys
    made_slots [] h xs ys e = e
    made_slots (o ∷ os) h xs ys e = λ i. record { cell = o.cell; node = o.node; full = h o (inl refl) i } ∷ made_slots os (λ q v. h q (inr v)) xs ys e i

    old_slots : (os : List Owned) → ((o : Owned) → Has os o → Has (D.rows n) o) → map (slot (full D N)) (with_groups N n os) ≡ carried_cells p (map (slot D) os)
    old_slots [] h = refl
    old_slots (o ∷ os) h =
        λ i. record { cell = o.cell; node = o.node; full = (place_full o.cell o.node n (old_row o (h o (inl refl))) (put_of N o.node) ∙ ap (λ g. full_after g o.cell (is_cell o.cell (D.place o.node))) (sym (target_of o.node))) i }
        ∷ (made_slots (group_at N n (Some o.cell)) (made_slot (Some o.cell)) (with_groups N n os) (carried_cells p (map (slot D) os)) (old_slots os (λ q v. h q (inr v)))
        ∙ ap (λ l. made_cells p l ++ carried_cells p (map (slot D) os)) (sym (made (Some o.cell)))) i

    pub whole_row : content (full D N) n ≡ made_cells p (p.new_cells None) ++ carried_cells p (content D n)
    whole_row = made_slots (group_at N n None) (made_slot None) (with_groups N n (D.rows n)) (carried_cells p (content D n)) (old_slots (D.rows n) (λ o v. v)) ∙ ap (λ l. made_cells p l ++ carried_cells p (content D n)) (sym (made None))

  pub whole_is : (m : Nodes) (new : List NodeId) → content (full D N) n ≡ row_carried (row_part_of m new N n) false (content D n)
  whole_is m new = whole_row (row_part_of m new N n).part (λ a. refl) (λ k. refl)

  -- ## Void

  module _ (m : Nodes) (new : List NodeId) (listed : ListsNew N new) where
    abbrev placed : Nodes
    placed = placed_by (is_new N n) new

    abbrev p : RowPart
    p = void_part placed (row_part m N n)

    old_owner : (o : Owned) → Has (D.rows n) o → is_new N o.node ≡ false
    old_owner o v = not_made D N w o.node (x.cells_known n o v).1

    none : (b : Bool) → (b && false) ≡ false
    none true = refl
    none false = refl

    not_placed : (k : NodeId) → is_new N k ≡ false → placed k ≡ false
    not_placed k e = ap (λ b. is_new N n && b) (listed.each k ∙ e) ∙ none (is_new N n)

    -- the place of a node after the void intent
    abbrev place : NodeId → Spot
    place k = cond (is_new N k && is_put_in_new D N k) (place_after row_of N (put_of N k) (D.place k)) (D.place k)

    old_full : (o : Owned) → Has (D.rows n) o → is_cell o.cell (place o.node) ≡ full_after (p.target_of o.node) o.cell (is_cell o.cell (D.place o.node))
    old_full o v =
        ap (λ b. is_cell o.cell (cond (b && is_put_in_new D N o.node) (place_after row_of N (put_of N o.node) (D.place o.node)) (D.place o.node))) (old_owner o v)
        ∙ sym (ap (λ b. full_after (cond b (put_of N o.node) None) o.cell (is_cell o.cell (D.place o.node))) (not_placed o.node (old_owner o v)))

    unput : (b : Bool) (g : Option To) (a : CellId) → g ≡ None → is_here (how (cond b g None) (To.Cell a)) ≡ false
    unput true g a e = ap (λ q. is_here (how q (To.Cell a))) e
    unput false g a e = refl

    elsewhere : (b : Bool) (to : To) (a : CellId) → same_to to (To.Cell a) ≡ false → is_here (how (cond b (Some to) None) (To.Cell a)) ≡ false
    elsewhere true to a e = ap (λ z. is_here (cond z Here Leave)) e
    elsewhere false to a e = refl

    made_full : (a : Option CellId) (o : Owned) → Has (group_at N n a) o → is_cell o.cell (place o.node) ≡ is_here (how (p.target_of o.node) (To.Cell o.cell))
    made_full a o v = elim (is_new N o.node) as (λ u. is_new N o.node ≡ u → is_cell o.cell (cond (u && is_put_in_new D N o.node) (place_after row_of N (put_of N o.node) (D.place o.node)) (D.place o.node)) ≡ is_here (how (p.target_of o.node) (To.Cell o.cell))) [
      | true ↦ (λ e. put_by (put_of N o.node) ∙ ap (λ b. is_here (how (cond (is_new N n && b) (put_of N o.node) None) (To.Cell o.cell))) (sym (listed.each o.node ∙ e)))
      | false ↦ (λ e. away ∙ sym (ap (λ b. is_here (how (cond b (put_of N o.node) None) (To.Cell o.cell))) (not_placed o.node e)))
    ] refl
      where
        there : row_of o.cell ≡ Some n
        there = (grouped a o v).1

        away : is_cell o.cell (D.place o.node) ≡ false
        away = not_yet o (grouped a o v).0 o.node

        -- whether a put leads into a row or register of a new node
        leads_new : Option To → Bool
        leads_new g = option_map_or (λ to. option_map_or (is_new N) (node_of (spot_of row_of to)) false) g false

        right_there : (b : Bool) → is_cell o.cell (cond b (Spot.Row n o.cell) (D.place o.node)) ≡ is_here (how (cond (b && true) (Some (To.Cell o.cell)) None) (To.Cell o.cell))
        right_there true = same_cell-itself o.cell ∙ sym (ap (λ z. is_here (cond z Here Leave)) (same_cell-itself o.cell))
        right_there false = away

        either_spot : (b : Bool) (s : Spot) → is_cell o.cell s ≡ false → is_cell o.cell (cond b s (D.place o.node)) ≡ false
        either_spot true s e = e
        either_spot false s e = away

        put_by : (g : Option To) → is_cell o.cell (cond (leads_new g) (place_after row_of N g (D.place o.node)) (D.place o.node)) ≡ is_here (how (cond (is_new N n && true) g None) (To.Cell o.cell))
        put_by None = away ∙ sym (unput (is_new N n && true) None o.cell refl)
        put_by (Some to) = elim (same_to to (To.Cell o.cell)) as (λ z. same_to to (To.Cell o.cell) ≡ z → is_cell o.cell (cond (leads_new (Some to)) (spot_of row_of to) (D.place o.node)) ≡ is_here (how (cond (is_new N n && true) (Some to) None) (To.Cell o.cell))) [
          | true ↦ (λ e.
              let cell : to ≡ To.Cell o.cell = same_put to o.cell e in
              let spot : spot_of row_of to ≡ Spot.Row n o.cell = ap (spot_of row_of) cell ∙ ap (λ (q : Option NodeId). option_map_or (λ k. Spot.Row k o.cell) q Spot.Nowhere) there in
              (λ i. is_cell o.cell (cond (option_map_or (is_new N) (node_of (spot i)) false) (spot i) (D.place o.node))) ∙ right_there (is_new N n)
              ∙ ap (λ (t : To). is_here (how (cond (is_new N n && true) (Some t) None) (To.Cell o.cell))) (sym cell))
          | false ↦ (λ e. either_spot (leads_new (Some to)) (spot_of row_of to) (put_full row_of o.cell n there to ∙ e) ∙ sym (elsewhere (is_new N n && true) to o.cell e))
        ] refl

    void_made : (os : List Owned) → ((o : Owned) → Has os o → is_cell o.cell (place o.node) ≡ is_here (how (p.target_of o.node) (To.Cell o.cell))) → (xs : List Owned) (ys : List Slot) → map (slot (void_data D N)) xs ≡ ys → map (slot (void_data D N)) (os ++ xs) ≡ made_cells p os ++ ys
    void_made [] h xs ys e = e
    void_made (o ∷ os) h xs ys e = λ i. record { cell = o.cell; node = o.node; full = h o (inl refl) i } ∷ void_made os (λ q v. h q (inr v)) xs ys e i

    void_slots : (os : List Owned) → ((o : Owned) → Has os o → Has (D.rows n) o) → map (slot (void_data D N)) (with_groups N n os) ≡ carried_cells p (map (slot D) os)
    void_slots [] h = refl
    void_slots (o ∷ os) h = λ i. record { cell = o.cell; node = o.node; full = old_full o (h o (inl refl)) i }
        ∷ void_made (group_at N n (Some o.cell)) (made_full (Some o.cell)) (with_groups N n os) (carried_cells p (map (slot D) os)) (void_slots os (λ q v. h q (inr v))) i

    void_row : content (void_data D N) n ≡ carried_row p (content D n)
    void_row = void_made (group_at N n None) (made_full None) (with_groups N n (D.rows n)) (carried_cells p (content D n)) (void_slots (D.rows n) (λ o v. v))

    -- a change of schema makes no cells
    unmade : N.groups ≡ [] → (a : Option CellId) → group_at N n a ≡ []
    unmade e a = λ i. group_cells_of (find (λ (g : Group). same_node g.node n && same_anchor g.after a) (e i))

    same_slots : N.groups ≡ [] → (os : List Owned) → ((o : Owned) → Has os o → Has (D.rows n) o) → map (slot D) os ≡ carried_cells p (map (slot D) os)
    same_slots e [] h = refl
    same_slots e (o ∷ os) h = λ i. record { cell = o.cell; node = o.node; full = sym (ap (λ b. full_after (cond b (put_of N o.node) None) o.cell (is_cell o.cell (D.place o.node))) (not_placed o.node (old_owner o (h o (inl refl))))) i }
        ∷ (same_slots e os (λ q v. h q (inr v)) ∙ ap (λ l. made_cells p l ++ carried_cells p (map (slot D) os)) (sym (unmade e (Some o.cell)))) i

    pub void_is : content (void D N) n ≡ row_carried (row_part_of m new N n) true (content D n)
    void_is = go N.schema refl
      where
        alone : (q : Option (List ℕ)) → N.schema ≡ q → is_some q ≡ true → N.groups ≡ []
        alone None e h = cc
        alone (Some t) e h = (subst (λ (q : Option (List ℕ)). IfSome q (λ _. (N.new ≡ []) × (N.groups ≡ []) × (N.clear ≡ []) × (N.put ≡ []) × (N.need ≡ []))) e w.itself.schema_alone).1

        go : (q : Option (List ℕ)) → N.schema ≡ q → content (option_map_or (λ _. D) q (void_data D N)) n ≡ carried_row p (content D n)
        go None e = void_row
        go (Some t) e = let none = alone (Some t) e refl in same_slots none (D.rows n) (λ o v. v) ∙ ap (λ l. made_cells p l ++ carried_cells p (content D n)) (sym (unmade none None))
