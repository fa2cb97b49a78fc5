-- What a change shows of the document before it and of the document after it, list by list, and that it names what it shows.
use Rattle.std.proofs.Common.{◌≡◌, ◌++◌, ℕ, Bool, true, false, not, List, [], ◌∷◌, map, slice_get, Option, Some, None, IsTrue, option_map, cond, refl, sym, ap, ◌∙◌, subst, inl, inr, ◌⊎◌}
use Rattle.std.specs.List.{flat_map}
use Rattle.std.specs.Option.{option_map_or, option_or}
use Rattle.st_ids.specs.Listing.{Has, item_of}
use Rattle.st_ids.specs.Order.{field_cmp, node_cmp}
use Rattle.st_ids.proofs.Listings.{has-item_of, item_of-has}
use Rattle.st_ids.proofs.Shared.{at_has}
use Rattle.st_ids.proofs.Orders.{field_cmp_exact, field_cmp_total, node_cmp_exact, node_cmp_total}
use Rattle.st_ids.specs.declared.names.CellId.{CellId}
use Rattle.st_ids.specs.declared.names.FieldId.{FieldId}
use Rattle.st_ids.specs.declared.names.NodeId.{NodeId}
use Rattle.st_marks.specs.declared.changes.Change.{Change}
use Rattle.st_marks.specs.declared.marks.Loose.{Loose}
use Rattle.st_marks.specs.declared.marks.RegMark.{RegMark}
use Rattle.st_marks.specs.declared.marks.RowMarks.{RowMarks}
use Rattle.st_marks.specs.declared.places.Spot.{Spot}
use Rattle.st_marks.specs.Embedding.{is_among}
use Rattle.st_marks.specs.Listings.{CellView, ListsCell, Listing, Places, cell_view, cells_after, cells_before, cells_in, cells_made, held_after, listing_after_change, listing_before_change, marks_of, names_of_change, nodes_in, nodes_loose, nodes_new, nodes_of_rows, nodes_standing, one_or_none, placed_after, placed_before, placed_in_register, placed_in_row, placed_nowhere}
use Rattle.st_marks.specs.Row.{spread}
use Rattle.st_marks.proofs.Members.{append_left, append_right, distinct-between, distinct-right, flat_map-has, has-append, has-flat_map, has-map, list_distinct, map-has, one_list}
use Rattle.st_normal.specs.declared.entries.Found.{Found}
use Rattle.st_normal.specs.Rules.{Entries, IsFound, ObeysDataRules, entries_of_change, found_at, found_in, found_loose, in_rows}
use Rattle.st_normal.proofs.NoRings.{among_has}
use Rattle.st_lemmas.proofs.Bools.{and-both, and-true}
use Rattle.st_lemmas.proofs.Options.{one_some}
use Rattle.st_puts.proofs.Basics.{is-one, one-is}
use Rattle.st_puts.proofs.FoundPlaces.{found_held-is, is-found_held}
use Rattle.st_normal_laws.specs.Seed.{cells_named}
use Rattle.st_part_pair_laws.proofs.Marks.{after-in, before-in, cell-has, fill-in, found-in, found-stands, found-unmade, has-cell, in-after, made-after, made-in, named-in_row, none-some, row_key, stands-at, told-before, told-stands}

abbrev pub reg_key : RegMark → FieldId
reg_key r = r.field

-- ## A change

module _ (C : Change) (w : ObeysDataRules C) where
  abbrev N : Entries
  N = entries_of_change C

  abbrev L : Listing
  L = listing_after_change C

  abbrev M : Listing
  M = listing_before_change C

  pub row-item : (r : RowMarks) → Has C.rows r → item_of node_cmp row_key C.rows r.node ≡ Some r
  row-item r i = has-item_of node_cmp node_cmp_total node_cmp_exact row_key C.rows r w.rising.rows i

  pub item-row : (n : NodeId) (r : RowMarks) → item_of node_cmp row_key C.rows n ≡ Some r → Has C.rows r × (r.node ≡ n)
  item-row n r e = item_of-has node_cmp node_cmp_total node_cmp_exact row_key C.rows n r e

  pub reg-item : (r : RegMark) → Has C.regs r → item_of field_cmp reg_key C.regs r.field ≡ Some r
  reg-item r i = has-item_of field_cmp field_cmp_total field_cmp_exact reg_key C.regs r w.rising.regs i

  pub item-reg : (f : FieldId) (r : RegMark) → item_of field_cmp reg_key C.regs f ≡ Some r → Has C.regs r × (r.field ≡ f)
  item-reg f r e = item_of-has field_cmp field_cmp_total field_cmp_exact reg_key C.regs f r e

  -- ## Rows

  pub found-row : (r : RowMarks) → Has C.rows r → M.row r.node ≡ Some (cells_before (spread r.marks))
  found-row r i = ap (option_map (λ (r : RowMarks). cells_before (spread r.marks))) (row-item r i)

  pub left-row : (r : RowMarks) → Has C.rows r → L.row r.node ≡ Some (cells_after (spread r.marks))
  left-row r i = ap (λ o. option_or (option_map (λ (r : RowMarks). cells_after (spread r.marks)) o) (cond (is_among (nodes_new C.new) r.node) (Some []) None)) (row-item r i)

  pub left-new_row : (n : NodeId) → item_of node_cmp row_key C.rows n ≡ None → Has (nodes_new C.new) n → L.row n ≡ Some []
  left-new_row n e h =
      ap (λ o. option_or (option_map (λ (r : RowMarks). cells_after (spread r.marks)) o) (cond (is_among (nodes_new C.new) n) (Some []) None)) e
      ∙ ap (λ b. cond b (Some []) None) ((among_has (nodes_new C.new) n).1 h)

  -- a row that isn't listed has no cell
  pub left-bare : (n : NodeId) → item_of node_cmp row_key C.rows n ≡ None → (cells : List CellView) → L.row n ≡ Some cells → cells ≡ []
  left-bare n e cells f = go (is_among (nodes_new C.new) n) (sym (ap (λ o. option_or (option_map (λ (r : RowMarks). cells_after (spread r.marks)) o) (cond (is_among (nodes_new C.new) n) (Some []) None)) e) ∙ f)
    where
      go : (b : Bool) → cond b (Some []) None ≡ Some cells → cells ≡ []
      go true g = sym (one_some [] cells g)
      go false g = absurd (none-some g)

  -- ## Registers

  pub found-register : (r : RegMark) → Has C.regs r → M.register r.field ≡ Some r.held
  found-register r i = ap (option_map (λ (r : RegMark). r.held)) (reg-item r i)

  pub left-register : (r : RegMark) → Has C.regs r → L.register r.field ≡ Some (held_after r)
  left-register r i = ap (λ o. option_or (option_map held_after o) (cond (is_among (nodes_new C.new) r.field.node) (Some None) None)) (reg-item r i)

  pub left-new_register : (f : FieldId) → item_of field_cmp reg_key C.regs f ≡ None → Has (nodes_new C.new) f.node → L.register f ≡ Some None
  left-new_register f e h =
      ap (λ o. option_or (option_map held_after o) (cond (is_among (nodes_new C.new) f.node) (Some None) None)) e
      ∙ ap (λ b. cond b (Some None) None) ((among_has (nodes_new C.new) f.node).1 h)

  -- a register that isn't listed has no occupant
  pub left-empty : (f : FieldId) → item_of field_cmp reg_key C.regs f ≡ None → (n : NodeId) → L.register f ≡ Some (Some n) → ⊥
  left-empty f e n g = go (is_among (nodes_new C.new) f.node) (sym (ap (λ o. option_or (option_map held_after o) (cond (is_among (nodes_new C.new) f.node) (Some None) None)) e) ∙ g)
    where
      go : (b : Bool) → cond b (Some None) None ≡ Some (Some n) → ⊥
      go true g = none-some (one_some None (Some n) g)
      go false g = none-some g

  -- ## Cells

  pub named-cell : (r : RowMarks) (c : CellId) → Has C.rows r → Has (cells_in (spread r.marks)) c → IsTrue ((names_of_change C).names_cell r.node c)
  named-cell r c i h = has-cell (cells_in (marks_of C.rows r.node)) c
      (subst (λ ms. Has (cells_in ms) c) (sym (ap (λ (q : Option RowMarks). option_map_or (λ (r : RowMarks). spread r.marks) q []) (row-item r i))) h)

  pub makes-cell : (c : CellId) → Has (in_rows cells_made C.rows) c → IsTrue ((names_of_change C).makes_cell c)
  makes-cell c h = has-cell (flat_map (λ (r : RowMarks). cells_made (spread r.marks)) C.rows) c h

  pub cell-makes : (c : CellId) → (names_of_change C).makes_cell c ≡ true → Has (in_rows cells_made C.rows) c
  cell-makes c e = cell-has (flat_map (λ (r : RowMarks). cells_made (spread r.marks)) C.rows) c e

  -- it names what it shows, after it
  pub left-named : (c : CellId) (n : NodeId) (k : ℕ) (o : Option NodeId) → ListsCell L c n k o → IsTrue ((names_of_change C).names_cell n c)
  left-named c n k o l = go (item_of node_cmp row_key C.rows n) refl
    where
      go : (q : Option RowMarks) → item_of node_cmp row_key C.rows n ≡ q → IsTrue ((names_of_change C).names_cell n c)
      go None e = absurd (none-some (ap (λ cells. slice_get cells k) (sym (left-bare n e l.cells l.listed)) ∙ l.at_place))
      go (Some r) e =
          let i = item-row n r e in
          let same = one_some (cells_after (spread r.marks)) l.cells (sym (left-row r i.0) ∙ ap L.row i.1 ∙ l.listed) in
          subst (λ n. IsTrue ((names_of_change C).names_cell n c)) i.1 (named-cell r c i.0 (after-in (spread r.marks) k c _ (ap (λ cells. slice_get cells k) same ∙ l.at_place) refl))

  -- and before it
  pub found-named : (c : CellId) (n : NodeId) (k : ℕ) (o : Option NodeId) → ListsCell M c n k o → IsTrue ((names_of_change C).names_cell n c)
  found-named c n k o l = go (item_of node_cmp row_key C.rows n) refl
    where
      go : (q : Option RowMarks) → item_of node_cmp row_key C.rows n ≡ q → IsTrue ((names_of_change C).names_cell n c)
      go None e = absurd (none-some (sym (ap (option_map (λ (r : RowMarks). cells_before (spread r.marks))) e) ∙ l.listed))
      go (Some r) e =
          let i = item-row n r e in
          let same = one_some (cells_before (spread r.marks)) l.cells (sym (found-row r i.0) ∙ ap M.row i.1 ∙ l.listed) in
          subst (λ n. IsTrue ((names_of_change C).names_cell n c)) i.1 (named-cell r c i.0 (before-in (spread r.marks) k c _ (ap (λ cells. slice_get cells k) same ∙ l.at_place) refl))

  -- it shows what it names, after it
  pub cell-left : (r : RowMarks) (c : CellId) → Has C.rows r → Has (cells_in (spread r.marks)) c → (k : ℕ) × (o : Option NodeId) × ListsCell L c r.node k o
  cell-left r c i h = let a = in-after (spread r.marks) c h in (a.1.0, a.0, record { cells = cells_after (spread r.marks); full = a.1.1; listed = left-row r i; at_place = a.1.2 })

  -- a cell that it makes with its owner
  pub made-left : (c : CellId) → Has (in_rows cells_made C.rows) c → (r : NodeId) × (k : ℕ) × (n : NodeId) × ListsCell L c r k (Some n)
  made-left c h =
      let r = has-flat_map (λ (r : RowMarks). cells_made (spread r.marks)) C.rows c h in
      let a = made-after (spread r.0.marks) c r.2 in
      (r.0.node, a.1.0, a.0, record { cells = cells_after (spread r.0.marks); full = a.1.1; listed = left-row r.0 r.1; at_place = a.1.2 })

  -- a cell that it finds it doesn't make
  pub unmade : (r : RowMarks) (c : CellId) → Has C.rows r → Has (cells_named (cells_before (spread r.marks))) c → Has (in_rows cells_made C.rows) c → ⊥
  unmade r c i h made =
      let m = has-flat_map (λ (r : RowMarks). cells_made (spread r.marks)) C.rows c made in
      let same = one_list (λ (r : RowMarks). cells_in (spread r.marks)) (λ (c : CellId). c) C.rows r m.0 c c w.common.cells_once i m.1 (named-in_row (spread r.marks) c h) (made-in (spread m.0.marks) c m.2) refl in
      found-unmade (spread r.marks) c (list_distinct (λ (r : RowMarks). cells_in (spread r.marks)) (λ (c : CellId). c) C.rows r w.common.cells_once i) h (subst (λ (r : RowMarks). Has (cells_made (spread r.marks)) c) (sym same) m.2)

  -- ## Nodes

  abbrev found_rows : List Found
  found_rows = in_rows found_in C.rows

  abbrev found_regs : List Found
  found_regs = flat_map found_at C.regs

  abbrev in_regs : List NodeId
  in_regs = flat_map (λ (r : RegMark). r.field.node ∷ (one_or_none r.held ++ one_or_none r.fill)) C.regs

  abbrev all_named : List NodeId
  all_named = C.need ++ nodes_new C.new ++ nodes_of_rows C.rows ++ in_regs ++ nodes_loose C.loose

  -- whom it finds, it finds in a row, in a register or nowhere
  pub found-cases : (n : NodeId) → IsFound N n → ((r : RowMarks) × Has C.rows r × Has (map (λ (f : Found). f.node) (found_in (spread r.marks))) n) ⊎ ((r : RegMark) × Has C.regs r × (r.held ≡ Some n)) ⊎ Has (nodes_loose C.loose) n
  found-cases n h = let f = has-map (λ (f : Found). f.node) N.found n h in
      elim (has-append found_rows (found_regs ++ found_loose C.loose) f.0 f.1) [
        | inl i ↦ (let r = has-flat_map (λ (r : RowMarks). found_in (spread r.marks)) C.rows f.0 i in
            inl (r.0, r.1, subst (Has (map (λ (f : Found). f.node) (found_in (spread r.0.marks)))) f.2 (map-has (λ (f : Found). f.node) (found_in (spread r.0.marks)) f.0 r.2)))
        | inr i ↦ elim (has-append found_regs (found_loose C.loose) f.0 i) [
          | inl j ↦ (let r = has-flat_map found_at C.regs f.0 j in inr (inl (r.0, r.1, (found_held-is r.0.held (r.0.how) f.0 r.2).0 ∙ ap (λ m. Some m) f.2)))
          | inr j ↦ (let l = has-map (λ (l : Loose). let f : Found = record { node = l.node; how = l.how } in f) C.loose f.0 j in
              inr (inr (subst (Has (nodes_loose C.loose)) (ap (λ (f : Found). f.node) l.2 ∙ f.2) (map-has (λ (l : Loose). l.node) C.loose l.0 l.1))))
        ]
      ]

  pub row-finds : (r : RowMarks) (n : NodeId) → Has C.rows r → Has (map (λ (f : Found). f.node) (found_in (spread r.marks))) n → IsFound N n
  row-finds r n i h = let f = has-map (λ (f : Found). f.node) (found_in (spread r.marks)) n h in
      subst (IsFound N) f.2 (map-has (λ (f : Found). f.node) N.found f.0 (append_left found_rows (found_regs ++ found_loose C.loose) f.0 (flat_map-has (λ (r : RowMarks). found_in (spread r.marks)) C.rows r f.0 i f.1)))

  abbrev as_held : RegMark → NodeId → Found
  as_held r n = record { node = n; how = r.how }

  in-held : (r : RegMark) (n : NodeId) → Has C.regs r → r.held ≡ Some n → Has found_regs (as_held r n)
  in-held r n i e = flat_map-has found_at C.regs r (as_held r n) i (is-found_held r.held n (r.how) e)

  pub reg-finds : (r : RegMark) (n : NodeId) → Has C.regs r → r.held ≡ Some n → IsFound N n
  reg-finds r n i e = map-has (λ (f : Found). f.node) N.found (as_held r n) (append_right found_rows (found_regs ++ found_loose C.loose) (as_held r n) (append_left found_regs (found_loose C.loose) (as_held r n) (in-held r n i e)))

  abbrev as_loose : Loose → Found
  as_loose l = record { node = l.node; how = l.how }

  pub loose-finds : (l : Loose) → Has C.loose l → IsFound N l.node
  loose-finds l i = map-has (λ (f : Found). f.node) N.found (as_loose l) (append_right found_rows (found_regs ++ found_loose C.loose) (as_loose l) (append_right found_regs (found_loose C.loose) (as_loose l) (map-has as_loose C.loose l i)))

  -- whom it finds nowhere it finds in no row and in no register
  pub loose-in_no_row : (l : Loose) (r : RowMarks) → Has C.loose l → Has C.rows r → Has (map (λ (f : Found). f.node) (found_in (spread r.marks))) l.node → ⊥
  loose-in_no_row l r i j h = let f = has-map (λ (f : Found). f.node) (found_in (spread r.marks)) l.node h in
      distinct-between (λ (f : Found). f.node) found_rows (found_regs ++ found_loose C.loose) f.0 (as_loose l) w.common.found_once (flat_map-has (λ (r : RowMarks). found_in (spread r.marks)) C.rows r f.0 j f.1)
      (append_right found_regs (found_loose C.loose) (as_loose l) (map-has as_loose C.loose l i)) (sym f.2)

  pub loose-in_no_register : (l : Loose) (r : RegMark) → Has C.loose l → Has C.regs r → r.held ≡ Some l.node → ⊥
  loose-in_no_register l r i j e = distinct-between (λ (f : Found). f.node) found_regs (found_loose C.loose) (as_held r l.node) (as_loose l)
      (distinct-right (λ (f : Found). f.node) found_rows (found_regs ++ found_loose C.loose) w.common.found_once) (in-held r l.node j e) (map-has as_loose C.loose l i) refl

  pub named-new : (n : NodeId) → Has (nodes_new C.new) n → IsTrue ((names_of_change C).names_node n)
  named-new n h = (among_has all_named n).1 (append_left (C.need ++ nodes_new C.new ++ nodes_of_rows C.rows ++ in_regs) (nodes_loose C.loose) n (append_left (C.need ++ nodes_new C.new ++ nodes_of_rows C.rows) in_regs n (append_left (C.need ++ nodes_new C.new) (nodes_of_rows C.rows) n (append_right C.need (nodes_new C.new) n h))))

  named-rows : (n : NodeId) → Has (nodes_of_rows C.rows) n → IsTrue ((names_of_change C).names_node n)
  named-rows n h = (among_has all_named n).1 (append_left (C.need ++ nodes_new C.new ++ nodes_of_rows C.rows ++ in_regs) (nodes_loose C.loose) n (append_left (C.need ++ nodes_new C.new ++ nodes_of_rows C.rows) in_regs n (append_right (C.need ++ nodes_new C.new) (nodes_of_rows C.rows) n h)))

  pub named-in : (r : RowMarks) (n : NodeId) → Has C.rows r → Has (nodes_in (spread r.marks)) n → IsTrue ((names_of_change C).names_node n)
  named-in r n i h = named-rows n (flat_map-has (λ (r : RowMarks). r.node ∷ nodes_in (spread r.marks)) C.rows r n i (inr h))

  pub named-found : (n : NodeId) → IsFound N n → IsTrue ((names_of_change C).names_node n)
  named-found n h = elim (found-cases n h) [
    | inl r ↦ named-in r.0 n r.1 (found-in (spread r.0.marks) n r.2)
    | inr a ↦ elim a [
      | inl r ↦ (among_has all_named n).1 (append_left (C.need ++ nodes_new C.new ++ nodes_of_rows C.rows ++ in_regs) (nodes_loose C.loose) n (append_right (C.need ++ nodes_new C.new ++ nodes_of_rows C.rows) in_regs n
          (flat_map-has (λ (r : RegMark). r.field.node ∷ (one_or_none r.held ++ one_or_none r.fill)) C.regs r.0 n r.1 (inr (append_left (one_or_none r.0.held) (one_or_none r.0.fill) n (is-one r.0.held n r.2))))))
      | inr l ↦ (among_has all_named n).1 (append_right (C.need ++ nodes_new C.new ++ nodes_of_rows C.rows ++ in_regs) (nodes_loose C.loose) n l)
    ]
  ]

  pub named-told : (r : RowMarks) (v : CellView) (n : NodeId) → Has C.rows r → Has (cells_before (spread r.marks)) v → v.node ≡ Some n → IsTrue ((names_of_change C).names_node n)
  named-told r v n i h e = named-in r n i (elim (told-before (spread r.marks) v n h e) [ inl j ↦ found-in (spread r.marks) n j | inr j ↦ fill-in (spread r.marks) n j ])

  -- ## Places

  abbrev pub there : List NodeId
  there = nodes_new C.new ++ nodes_loose C.loose ++ placed_before C.rows (map (λ (r : RegMark). r.held) C.regs)

  abbrev placed : List NodeId
  placed = placed_after C.rows (map held_after C.regs)

  pub is-there : (n : NodeId) → IsFound N n ⊎ Has (nodes_new C.new) n → Has there n
  is-there n (inr h) = append_left (nodes_new C.new ++ nodes_loose C.loose) (placed_before C.rows (map (λ (r : RegMark). r.held) C.regs)) n (append_left (nodes_new C.new) (nodes_loose C.loose) n h)
  is-there n (inl h) = elim (found-cases n h) [
    | inl r ↦ append_right (nodes_new C.new ++ nodes_loose C.loose) (placed_before C.rows (map (λ (r : RegMark). r.held) C.regs)) n
        (append_left (flat_map (λ (r : RowMarks). nodes_standing (cells_before (spread r.marks))) C.rows) (flat_map one_or_none (map (λ (r : RegMark). r.held) C.regs)) n
        (flat_map-has (λ (r : RowMarks). nodes_standing (cells_before (spread r.marks))) C.rows r.0 n r.1 (found-stands (spread r.0.marks) n r.2)))
    | inr a ↦ elim a [
      | inl r ↦ append_right (nodes_new C.new ++ nodes_loose C.loose) (placed_before C.rows (map (λ (r : RegMark). r.held) C.regs)) n
          (append_right (flat_map (λ (r : RowMarks). nodes_standing (cells_before (spread r.marks))) C.rows) (flat_map one_or_none (map (λ (r : RegMark). r.held) C.regs)) n
          (flat_map-has one_or_none (map (λ (r : RegMark). r.held) C.regs) r.0.held n (map-has (λ (r : RegMark). r.held) C.regs r.0 r.1) (is-one r.0.held n r.2)))
      | inr l ↦ append_left (nodes_new C.new ++ nodes_loose C.loose) (placed_before C.rows (map (λ (r : RegMark). r.held) C.regs)) n (append_right (nodes_new C.new) (nodes_loose C.loose) n l)
    ]
  ]

  in-row : (n : NodeId) → Has (flat_map (λ (r : RowMarks). nodes_standing (cells_after (spread r.marks))) C.rows) n → (t : Spot) × Places L n t
  in-row n i =
      let r = has-flat_map (λ (r : RowMarks). nodes_standing (cells_after (spread r.marks))) C.rows n i in
      let k = stands-at (spread r.0.marks) n r.2 in
      (Spot.Row r.0.node k.1, placed_in_row r.0.node n k.1 (cells_after (spread r.0.marks)) k.0 (left-row r.0 r.1) k.2)

  in-register : (n : NodeId) → Has (flat_map one_or_none (map held_after C.regs)) n → (t : Spot) × Places L n t
  in-register n i =
      let o = has-flat_map one_or_none (map held_after C.regs) n i in
      let r = has-map held_after C.regs o.0 o.1 in
      (Spot.Register r.0.field, placed_in_register r.0.field n (left-register r.0 r.1 ∙ ap (λ o. Some o) (r.2 ∙ one-is o.0 n o.2)))

  in-place : (n : NodeId) → Has placed n → (t : Spot) × Places L n t
  in-place n h = elim (has-append (flat_map (λ (r : RowMarks). nodes_standing (cells_after (spread r.marks))) C.rows) (flat_map one_or_none (map held_after C.regs)) n h) [
    | inl i ↦ in-row n i
    | inr i ↦ in-register n i
  ]

  unless-true : (b : Bool) → b ≡ true → b ≡ false → ⊥
  unless-true true e f = cc
  unless-true false e f = cc

  -- whom no row and no register shows after it, and who isn't there before, it places nowhere
  unplaced : (n : NodeId) (t : Spot) → is_among placed n ≡ false → is_among there n ≡ false → Places L n t → ⊥
  unplaced n t e f (placed_in_row r k c cells j listed here) = go (item_of node_cmp row_key C.rows r) refl
    where
      go : (q : Option RowMarks) → item_of node_cmp row_key C.rows r ≡ q → ⊥
      go None g = none-some (ap (λ cells. slice_get cells j) (sym (left-bare r g cells listed)) ∙ here)
      go (Some q) g =
          let i = item-row r q g in
          let same = one_some (cells_after (spread q.marks)) cells (sym (left-row q i.0) ∙ ap L.row i.1 ∙ listed) in
          let seen = at_has (cells_after (spread q.marks)) j (cell_view c k true) (ap (λ cells. slice_get cells j) same ∙ here) in
          unless-true (is_among placed k) ((among_has placed k).1 (append_left (flat_map (λ (r : RowMarks). nodes_standing (cells_after (spread r.marks))) C.rows) (flat_map one_or_none (map held_after C.regs)) k
          (flat_map-has (λ (r : RowMarks). nodes_standing (cells_after (spread r.marks))) C.rows q k i.0 (told-stands (cells_after (spread q.marks)) (cell_view c k true) k seen refl refl)))) e
  unplaced n t e f (placed_in_register g k listed) = go (item_of field_cmp reg_key C.regs g) refl
    where
      go : (q : Option RegMark) → item_of field_cmp reg_key C.regs g ≡ q → ⊥
      go None h = left-empty g h k listed
      go (Some q) h =
          let i = item-reg g q h in
          let same = one_some (held_after q) (Some k) (sym (left-register q i.0) ∙ ap L.register i.1 ∙ listed) in
          unless-true (is_among placed k) ((among_has placed k).1 (append_right (flat_map (λ (r : RowMarks). nodes_standing (cells_after (spread r.marks))) C.rows) (flat_map one_or_none (map held_after C.regs)) k
          (flat_map-has one_or_none (map held_after C.regs) (held_after q) k (map-has held_after C.regs q i.0) (is-one (held_after q) k same)))) e
  unplaced n t e f (placed_nowhere k h) = unless-true (is_among there k) (and-true (is_among there k) (not (is_among placed k)) h).0 f

  -- a node is shown somewhere after it, or isn't there before it and is shown nowhere
  pub shown-or : (n : NodeId) → ((t : Spot) × Places L n t) ⊎ ((Has there n → ⊥) × ((t : Spot) → Places L n t → ⊥))
  shown-or n = go (is_among placed n) refl (is_among there n) refl
    where
      go : (a : Bool) → is_among placed n ≡ a → (b : Bool) → is_among there n ≡ b → ((t : Spot) × Places L n t) ⊎ ((Has there n → ⊥) × ((t : Spot) → Places L n t → ⊥))
      go true e b f = inl (in-place n ((among_has placed n).0 e))
      go false e true f = inl (Spot.Nowhere, placed_nowhere n (and-both (is_among there n) (not (is_among placed n)) f (ap not e)))
      go false e false f = inr (λ h. unless-true (is_among there n) ((among_has there n).1 h) f, λ t p. unplaced n t e f p)

  -- whom it finds or makes it places after it
  pub left-place : (n : NodeId) → IsFound N n ⊎ Has (nodes_new C.new) n → (t : Spot) × Places L n t
  left-place n h = elim (shown-or n) [ inl p ↦ p | inr u ↦ absurd (u.0 (is-there n h)) ]

  -- whom it finds nowhere it places nowhere
  pub loose-place : (l : Loose) → Has C.loose l → Places M l.node Spot.Nowhere
  loose-place l i = placed_nowhere l.node ((among_has (nodes_loose C.loose) l.node).1 (map-has (λ (l : Loose). l.node) C.loose l i))
