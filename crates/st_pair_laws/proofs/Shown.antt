-- What a change or a step shows of the document before it and what it makes, from its rows, registers and nodes that are nowhere.
use Rattle.std.proofs.Common.{◌≡◌, ◌≢◌, ◌⊎◌, ◌++◌, ◌<◌, ℕ, true, List, [], ◌∷◌, map, Option, Some, None, IsTrue, option_map, refl, sym, ap, ◌∙◌, subst, inl, inr}
use Rattle.std.specs.List.{flat_map}
use Rattle.std.specs.Option.{option_map_or}
use Rattle.st_ids.specs.Listing.{AreDistinct, Has, IsRising, item_of}
use Rattle.st_ids.specs.Order.{field_cmp, node_cmp, same_cell}
use Rattle.st_ids.specs.Root.{root}
use Rattle.st_ids.proofs.Listings.{has-item_of}
use Rattle.st_ids.proofs.Orders.{field_cmp_exact, field_cmp_total, node_cmp_exact, node_cmp_total, same_cell-itself}
use Rattle.st_ids.specs.declared.names.Atom.{Atom}
use Rattle.st_ids.specs.declared.names.CellId.{CellId}
use Rattle.st_ids.specs.declared.names.FieldId.{FieldId}
use Rattle.st_ids.specs.declared.names.NodeId.{NodeId}
use Rattle.st_lemmas.proofs.Lists.{flat_map-map, flat_map-same, map-append}
use Rattle.st_marks.specs.declared.changes.NewNode.{NewNode}
use Rattle.st_marks.specs.declared.marks.How.{How}
use Rattle.st_marks.specs.declared.marks.Loose.{Loose}
use Rattle.st_marks.specs.declared.marks.RowMarks.{RowMarks}
use Rattle.st_marks.specs.declared.places.Spot.{Spot}
use Rattle.st_marks.specs.declared.schemas.SchemaEntry.{SchemaEntry}
use Rattle.st_marks.specs.Document.{node_of}
use Rattle.st_marks.specs.Embedding.{is_among}
use Rattle.st_marks.specs.Listings.{CellView, Listing, cell_view, cells_before, cells_in, cells_made, marks_of, names_by, nodes_in, nodes_loose, nodes_new, nodes_of_rows, nodes_standing, one_or_none, rows_before}
use Rattle.st_marks.specs.Row.{spread}
use Rattle.st_marks.proofs.Members.{all-has, append_left, append_right, distinct-between, flat_map-has, has-any, has-append, has-flat_map, has-map, list_distinct, map-has, one_list}
use Rattle.st_normal.specs.Rules.{Entries, IsFound, ObeysCommonRules, entries_by, fields_of, fill_owners, found_held, found_in, found_loose, hole_owners, in_rows}
use Rattle.st_normal.specs.declared.entries.Found.{Found}
use Rattle.st_normal.proofs.NoRings.{among_has}
use Rattle.st_normal.proofs.OnePlace.{map-all}
use Rattle.st_normal_laws.specs.Seed.{Finds, FoundHeld, FoundRow, IsBelow, cells_named, nodes_found}
use Rattle.st_normal_laws.specs.Two.{IsUnder}
use Rattle.st_normal_laws.specs.inside.One.{cell_atoms, found_row, node_atoms}
use Rattle.st_puts.proofs.FoundPlaces.{found_held-is}
use Rattle.st_puts.proofs.MeaningFits.{append-assoc}
use Rattle.st_marks.specs.Agree.{row_field}
use Rattle.st_pair_laws.proofs.Marks.{fill-in, found-in, found-unmade, full-named, hole-in, made-in, named-in, owner-is, shown-found}

-- what a change or a step shows of the document before it, that as what is found, and what it makes and finds nowhere
pub record Side : Type 0 where
  pub listing : Listing
  pub finds : Finds
  pub new : List NodeId
  pub made : List CellId
  pub loose : List NodeId

-- it shows what is found and has the names of it; it makes other nodes and cells; and names of which no session reaches F
pub record IsShown (F : ℕ) (X : Side) : Type 0 where
  -- rows and registers
  pub rows : (r : FoundRow) → Has X.finds.rows r → X.listing.row r.node ≡ Some r.cells
  pub held : (h : FoundHeld) → Has X.finds.held h → X.listing.register h.field ≡ Some h.node
  pub full_told : (r : FoundRow) (x : CellView) (n : NodeId) → Has X.finds.rows r → Has r.cells x → x.full ≡ true → x.node ≡ Some n → (c : CellId) × (x ≡ cell_view c n true)
  -- names
  pub cell_told : (r : FoundRow) (c : CellId) → Has X.finds.rows r → Has (cells_named r.cells) c → IsTrue (X.listing.names.names_cell r.node c)
  pub owner_told : (r : FoundRow) (x : CellView) (n : NodeId) → Has X.finds.rows r → Has r.cells x → x.node ≡ Some n → IsTrue (X.listing.names.names_node n)
  pub known_told : (n : NodeId) → Has X.finds.known n → IsTrue (X.listing.names.names_node n)
  -- what it makes
  pub new_told : (n : NodeId) → Has X.new n → IsTrue (X.listing.names.makes_node n) × IsTrue (X.listing.names.names_node n)
  pub new_apart : (n : NodeId) → Has X.new n → (n ≢ root) × (Has X.finds.known n → ⊥)
  pub new_unowned : (n : NodeId) (r : FoundRow) (x : CellView) → Has X.new n → Has X.finds.rows r → Has r.cells x → x.node ≡ Some n → ⊥
  pub new_below : (n : NodeId) → Has X.new n → IsBelow F n.0
  pub made_told : (c : CellId) → Has X.made c → IsTrue (X.listing.names.makes_cell c) × ((q : NodeId) × IsTrue (X.listing.names.names_cell q c))
  pub made_apart : (c : CellId) (r : FoundRow) → Has X.made c → Has X.finds.rows r → Has (cells_named r.cells) c → ⊥
  pub made_below : (c : CellId) → Has X.made c → IsBelow F c.0
  -- who is nowhere
  pub loose_shown : (n : NodeId) → Has X.loose n → X.listing.nowhere n ≡ true
  pub loose_known : (n : NodeId) → Has X.loose n → Has X.finds.known n
  pub loose_alone : (n : NodeId) → Has X.loose n → Has (nodes_found X.finds) n → ⊥
  pub loose_below : (n : NodeId) → Has X.loose n → IsBelow F n.0
  -- who is above one that is found is the root, or found too, or nowhere
  pub closed : (n p : NodeId) (s : Spot) → IsUnder X.finds n s → node_of s ≡ Some p → (p ≡ root) ⊎ ((t : Spot) × IsUnder X.finds p t) ⊎ Has X.loose p

module _ {R : Type 0} (field : R → FieldId) (held : R → Option NodeId) (how : R → How) (put : R → List NodeId)
    (nodes : List NodeId) (new : List NewNode) (rows : List RowMarks) (regs : List R) (loose : List Loose) (known : List NodeId) (schemas : List SchemaEntry) (F : ℕ) where
  -- what it lists
  abbrev pub L : Entries
  L = entries_by (λ r. found_held (held r) (how r)) put field new rows regs loose

  abbrev pub shown : Listing
  shown = record {
    row = rows_before rows;
    register = λ f. option_map held (item_of field_cmp field regs f);
    nowhere = is_among (nodes_loose loose);
    names = names_by nodes rows new;
  }

  abbrev found_reg : R → FoundHeld
  found_reg r = record { field = field r; node = held r }

  abbrev pub W : Finds
  W = record { rows = map found_row rows; held = map found_reg regs; known = known; schemas = schemas }

  abbrev pub side : Side
  side = record { listing = shown; finds = W; new = nodes_new new; made = in_rows cells_made rows; loose = nodes_loose loose }

  abbrev pub names : List Atom
  names = node_atoms (nodes_new new) ++ (node_atoms (map (λ (f : Found). f.node) L.found) ++ (node_atoms (fields_of L) ++ cell_atoms (in_rows cells_in rows)))

  -- what its rules say, and that its names are named and below F
  pub record IsListed : Type 0 where
    pub common : ObeysCommonRules L
    pub rows_rise : IsRising node_cmp (λ (r : RowMarks). r.node) rows
    pub regs_rise : IsRising field_cmp field regs
    pub new_empty : (r : R) → Has regs r → Has (nodes_new new) (field r).node → held r ≡ None
    pub new_named : (n : NodeId) → Has (nodes_new new) n → Has nodes n
    pub rows_named : (n : NodeId) → Has (nodes_of_rows rows) n → Has nodes n
    pub held_named : (r : R) (n : NodeId) → Has regs r → held r ≡ Some n → Has nodes n
    pub loose_named : (n : NodeId) → Has (nodes_loose loose) n → Has nodes n
    pub found_known : (n : NodeId) → IsFound L n → Has known n
    pub known_found : (n : NodeId) → Has known n → IsFound L n ⊎ (Has (in_rows hole_owners rows) n × (Has (nodes_new new) n → ⊥))
    pub below : (a : Atom) → Has names a → a.rev.session < F

  module _ (w : IsListed) where
    abbrev found_rows : List Found
    found_rows = in_rows found_in rows

    abbrev found_at : R → List Found
    found_at r = found_held (held r) (how r)

    abbrev found_regs : List Found
    found_regs = flat_map found_at regs

    -- ## Where it is listed

    row-from : (r : FoundRow) → Has W.rows r → (q : RowMarks) × Has rows q × (found_row q ≡ r)
    row-from r h = has-map found_row rows r h

    reg-from : (h : FoundHeld) → Has W.held h → (q : R) × Has regs q × (found_reg q ≡ h)
    reg-from h i = has-map found_reg regs h i

    row-looked : (q : RowMarks) → Has rows q → item_of node_cmp (λ (r : RowMarks). r.node) rows q.node ≡ Some q
    row-looked q h = has-item_of node_cmp node_cmp_total node_cmp_exact (λ (r : RowMarks). r.node) rows q w.rows_rise h

    row-shown : (r : FoundRow) → Has W.rows r → shown.row r.node ≡ Some r.cells
    row-shown r h = let q = row-from r h in subst (λ (r : FoundRow). shown.row r.node ≡ Some r.cells) q.2 (ap (option_map (λ (r : RowMarks). cells_before (spread r.marks))) (row-looked q.0 q.1))

    reg-shown : (h : FoundHeld) → Has W.held h → shown.register h.field ≡ Some h.node
    reg-shown h i = let q = reg-from h i in subst (λ (h : FoundHeld). shown.register h.field ≡ Some h.node) q.2 (ap (option_map held) (has-item_of field_cmp field_cmp_total field_cmp_exact field regs q.0 w.regs_rise q.1))

    -- ## Names

    node-named : (n : NodeId) → Has nodes n → IsTrue (shown.names.names_node n)
    node-named n h = (among_has nodes n).1 h

    in-row : (q : RowMarks) (n : NodeId) → Has rows q → Has (nodes_in (spread q.marks)) n → IsTrue (shown.names.names_node n)
    in-row q n h i = node-named n (w.rows_named n (flat_map-has (λ (r : RowMarks). r.node ∷ nodes_in (spread r.marks)) rows q n h (inr i)))

    cell-named : (q : RowMarks) (c : CellId) → Has rows q → Has (cells_in (spread q.marks)) c → IsTrue (shown.names.names_cell q.node c)
    cell-named q c h i = has-any (λ d. same_cell d c) (cells_in (marks_of rows q.node)) c (subst (λ ms. Has (cells_in ms) c) (sym (ap (λ o. option_map_or (λ (r : RowMarks). spread r.marks) o []) (row-looked q h))) i) (same_cell-itself c)

    -- ## Who is found

    nodes-are : nodes_found W ≡ map (λ (f : Found). f.node) (found_rows ++ found_regs)
    nodes-are =
        (λ z. (flat_map-map (λ (r : FoundRow). nodes_standing r.cells) found_row rows ∙ flat_map-same (λ (r : RowMarks). nodes_standing (cells_before (spread r.marks))) (λ (r : RowMarks). map (λ (f : Found). f.node) (found_in (spread r.marks))) (λ r. shown-found (spread r.marks)) rows ∙ sym (map-all (λ (f : Found). f.node) (λ (r : RowMarks). found_in (spread r.marks)) rows)) z
        ++ (flat_map-map (λ (h : FoundHeld). one_or_none h.node) found_reg regs ∙ flat_map-same (λ r. one_or_none (held r)) (λ r. map (λ (f : Found). f.node) (found_at r)) (λ r. held-found (held r) (how r)) regs ∙ sym (map-all (λ (f : Found). f.node) found_at regs)) z)
        ∙ sym (map-append (λ (f : Found). f.node) found_rows found_regs)
      where
        held-found : (o : Option NodeId) (h : How) → one_or_none o ≡ map (λ (f : Found). f.node) (found_held o h)
        held-found None h = refl
        held-found (Some n) h = refl

    split : L.found ≡ (found_rows ++ found_regs) ++ found_loose loose
    split = sym (append-assoc found_rows found_regs (found_loose loose))

    all-once : AreDistinct (λ (f : Found). f.node) ((found_rows ++ found_regs) ++ found_loose loose)
    all-once = subst (AreDistinct (λ (f : Found). f.node)) split w.common.found_once

    -- a node that is found is in a row or a register, or nowhere
    found-cases : (n : NodeId) → IsFound L n → ((q : RowMarks) × Has rows q × Has (nodes_standing (cells_before (spread q.marks))) n) ⊎ ((q : R) × Has regs q × (held q ≡ Some n)) ⊎ Has (nodes_loose loose) n
    found-cases n h = let f = has-map (λ (f : Found). f.node) L.found n h in elim (has-append found_rows (found_regs ++ found_loose loose) f.0 f.1) [
      | inl i ↦ (let q = has-flat_map (λ (r : RowMarks). found_in (spread r.marks)) rows f.0 i in inl (q.0, q.1, subst (λ l. Has l n) (sym (shown-found (spread q.0.marks))) (subst (Has (map (λ (f : Found). f.node) (found_in (spread q.0.marks)))) f.2 (map-has (λ (f : Found). f.node) (found_in (spread q.0.marks)) f.0 q.2))))
      | inr a ↦ elim (has-append found_regs (found_loose loose) f.0 a) [
        | inl i ↦ (let q = has-flat_map found_at regs f.0 i in inr (inl (q.0, q.1, (found_held-is (held q.0) (how q.0) f.0 q.2).0 ∙ ap (λ m. Some m) f.2)))
        | inr i ↦ (let l = has-map (λ (l : Loose). let f : Found = record { node = l.node; how = l.how } in f) loose f.0 i in
            inr (inr (subst (Has (nodes_loose loose)) (ap (λ (f : Found). f.node) l.2 ∙ f.2) (map-has (λ (l : Loose). l.node) loose l.0 l.1))))
      ]
    ]

    found-told : (n : NodeId) → IsFound L n → IsTrue (shown.names.names_node n)
    found-told n h = elim (found-cases n h) [
      | inl (q, i, j) ↦ (let f = has-map (λ (f : Found). f.node) (found_in (spread q.marks)) n (subst (λ l. Has l n) (shown-found (spread q.marks)) j) in in-row q n i (subst (Has (nodes_in (spread q.marks))) f.2 (found-in (spread q.marks) f.0 f.1)))
      | inr a ↦ elim a [
        | inl (q, i, e) ↦ node-named n (w.held_named q n i e)
        | inr i ↦ node-named n (w.loose_named n i)
      ]
    ]

    row-found : (q : RowMarks) (n : NodeId) → Has rows q → Has (map (λ (f : Found). f.node) (found_in (spread q.marks))) n → IsFound L n
    row-found q n h i = let f = has-map (λ (f : Found). f.node) (found_in (spread q.marks)) n i in
        subst (IsFound L) f.2 (map-has (λ (f : Found). f.node) L.found f.0 (append_left found_rows (found_regs ++ found_loose loose) f.0 (flat_map-has (λ (r : RowMarks). found_in (spread r.marks)) rows q f.0 h f.1)))

    loose-found : (n : NodeId) → Has (nodes_loose loose) n → IsFound L n
    loose-found n h = let l = has-map (λ (l : Loose). l.node) loose n h in
        subst (IsFound L) l.2 (map-has (λ (f : Found). f.node) L.found (record { node = l.0.node; how = l.0.how }) (append_right found_rows (found_regs ++ found_loose loose) (record { node = l.0.node; how = l.0.how })
        (append_right found_regs (found_loose loose) (record { node = l.0.node; how = l.0.how }) (map-has (λ (l : Loose). let f : Found = record { node = l.node; how = l.how } in f) loose l.0 l.1))))

    -- ## Bounds

    below-new : (n : NodeId) → Has (nodes_new new) n → IsBelow F n.0
    below-new n h = w.below n.0 (append_left (node_atoms (nodes_new new)) _ n.0 (map-has (λ (n : NodeId). n.0) (nodes_new new) n h))

    below-found : (n : NodeId) → IsFound L n → IsBelow F n.0
    below-found n h = w.below n.0 (append_right (node_atoms (nodes_new new)) _ n.0 (append_left (node_atoms (map (λ (f : Found). f.node) L.found)) _ n.0 (map-has (λ (n : NodeId). n.0) (map (λ (f : Found). f.node) L.found) n h)))

    below-cell : (c : CellId) → Has (in_rows cells_in rows) c → IsBelow F c.0
    below-cell c h = w.below c.0 (append_right (node_atoms (nodes_new new)) _ c.0 (append_right (node_atoms (map (λ (f : Found). f.node) L.found)) _ c.0 (append_right (node_atoms (fields_of L)) _ c.0 (map-has (λ (c : CellId). c.0) (in_rows cells_in rows) c h))))

    -- ## Who is above

    field-known : (n : NodeId) → Has (fields_of L) n → (Has (nodes_new new) n → ⊥) → (n ≡ root) ⊎ ((t : Spot) × IsUnder W n t) ⊎ Has (nodes_loose loose) n
    field-known n h old = elim (all-has (λ (n : NodeId). (n ≡ root) ⊎ Has L.new n ⊎ IsFound L n) (fields_of L) n w.common.fields_found h) [
      | inl e ↦ inl e
      | inr a ↦ elim a [
        | inl i ↦ absurd (old i)
        | inr f ↦ elim (found-cases n f) [
          | inl (q, i, j) ↦ inr (inl (Spot.Register (row_field q.node), inl (found_row q, map-has found_row rows q i, j, refl)))
          | inr b ↦ elim b [
            | inl (q, i, e) ↦ inr (inl (Spot.Register (field q), inr (found_reg q, map-has found_reg regs q i, e, refl)))
            | inr i ↦ inr (inr i)
          ]
        ]
      ]
    ]

    some-above : (a b : NodeId) → ◌≡◌ {A = Option NodeId} (Some a) (Some b) → a ≡ b
    some-above a b e = cc

    none-not : (n : NodeId) → ◌≡◌ {A = Option NodeId} None (Some n) → ⊥
    none-not n e = cc

    no-cell : (xs : List CellView) (n : NodeId) → Has (nodes_standing xs) n → xs ≡ [] → ⊥
    no-cell xs n h e = absurd (subst (λ l. Has (nodes_standing l) n) e h)

    above : (n p : NodeId) (s : Spot) → IsUnder W n s → node_of s ≡ Some p → (p ≡ root) ⊎ ((t : Spot) × IsUnder W p t) ⊎ Has (nodes_loose loose) p
    above n p s (inl (r, h, i, e)) g =
        let q = row-from r h in
        let up : q.0.node ≡ p = some-above q.0.node p (ap (λ (r : FoundRow). Some r.node) q.2 ∙ sym (ap node_of e) ∙ g) in
        subst (λ p. (p ≡ root) ⊎ ((t : Spot) × IsUnder W p t) ⊎ Has (nodes_loose loose) p) up
        (field-known q.0.node (append_left (map (λ (r : RowMarks). r.node) rows) (map (λ (f : FieldId). f.node) L.registers) q.0.node (map-has (λ (r : RowMarks). r.node) rows q.0 q.1))
        (λ j. no-cell (cells_before (spread q.0.marks)) n (subst (λ (r : FoundRow). Has (nodes_standing r.cells) n) (sym q.2) i) (all-has (λ (r : RowMarks). Has L.new r.node → cells_before (spread r.marks) ≡ []) rows q.0 w.common.new_rows q.1 j)))
    above n p s (inr (h, i, e, f)) g =
        let q = reg-from h i in
        let up : (field q.0).node ≡ p = some-above (field q.0).node p (ap (λ (h : FoundHeld). Some h.field.node) q.2 ∙ sym (ap node_of f) ∙ g) in
        subst (λ p. (p ≡ root) ⊎ ((t : Spot) × IsUnder W p t) ⊎ Has (nodes_loose loose) p) up
        (field-known (field q.0).node (append_right (map (λ (r : RowMarks). r.node) rows) (map (λ (f : FieldId). f.node) L.registers) (field q.0).node (map-has (λ (f : FieldId). f.node) L.registers (field q.0) (map-has field regs q.0 q.1)))
        (λ j. none-not n (sym (w.new_empty q.0 q.1 j) ∙ ap (λ (h : FoundHeld). h.node) q.2 ∙ e)))

    -- ## What it makes

    not-found : (n : NodeId) → Has (nodes_new new) n → (n ≢ root) × (IsFound L n → ⊥)
    not-found n h = all-has (λ (n : NodeId). (n ≢ root) × (IsFound L n → ⊥)) L.new n w.common.new_not_found h

    new-owns : (n : NodeId) (r : FoundRow) (x : CellView) → Has (nodes_new new) n → Has W.rows r → Has r.cells x → x.node ≡ Some n → ⊥
    new-owns n r x h i j e =
        let q = row-from r i in
        elim (owner-is (spread q.0.marks) x n (subst (λ (r : FoundRow). Has r.cells x) (sym q.2) j) e) [
          | inl k ↦ (not-found n h).1 (row-found q.0 n q.1 k)
          | inr k ↦ all-has (λ (n : NodeId). Has L.new n → ⊥) (in_rows fill_owners rows) n w.common.filled_old (flat_map-has (λ (r : RowMarks). fill_owners (spread r.marks)) rows q.0 n q.1 k) h
        ]

    owner-told : (r : FoundRow) (x : CellView) (n : NodeId) → Has W.rows r → Has r.cells x → x.node ≡ Some n → IsTrue (shown.names.names_node n)
    owner-told r x n i j e =
        let q = row-from r i in
        elim (owner-is (spread q.0.marks) x n (subst (λ (r : FoundRow). Has r.cells x) (sym q.2) j) e) [
          | inl k ↦ found-told n (row-found q.0 n q.1 k)
          | inr k ↦ in-row q.0 n q.1 (fill-in (spread q.0.marks) n k)
        ]

    made-from : (c : CellId) → Has (in_rows cells_made rows) c → (q : RowMarks) × Has rows q × Has (cells_made (spread q.marks)) c
    made-from c h = has-flat_map (λ (r : RowMarks). cells_made (spread r.marks)) rows c h

    cell-made-apart : (c : CellId) (r : FoundRow) → Has (in_rows cells_made rows) c → Has W.rows r → Has (cells_named r.cells) c → ⊥
    cell-made-apart c r h i j =
        let m = made-from c h in
        let q = row-from r i in
        let b : Has (cells_named (cells_before (spread q.0.marks))) c = subst (λ (r : FoundRow). Has (cells_named r.cells) c) (sym q.2) j in
        let same : q.0 ≡ m.0 = one_list (λ (r : RowMarks). cells_in (spread r.marks)) (λ (c : CellId). c) rows q.0 m.0 c c w.common.cells_once q.1 m.1 (named-in (spread q.0.marks) c b) (made-in (spread m.0.marks) c m.2) refl in
        found-unmade (spread q.0.marks) c (list_distinct (λ (r : RowMarks). cells_in (spread r.marks)) (λ (c : CellId). c) rows q.0 w.common.cells_once q.1) b (subst (λ (r : RowMarks). Has (cells_made (spread r.marks)) c) (sym same) m.2)

    pub shown_by : IsShown F side
    shown_by = record {
      rows = row-shown;
      held = reg-shown;
      full_told = λ r x n i j f e. let q = row-from r i in full-named (spread q.0.marks) x n (subst (λ (r : FoundRow). Has r.cells x) (sym q.2) j) f e;
      cell_told = λ r c i j. let q = row-from r i in subst (λ (r : FoundRow). IsTrue (shown.names.names_cell r.node c)) q.2 (cell-named q.0 c q.1 (named-in (spread q.0.marks) c (subst (λ (r : FoundRow). Has (cells_named r.cells) c) (sym q.2) j)));
      owner_told = owner-told;
      known_told = λ n h. elim (w.known_found n h) [
        | inl f ↦ found-told n f
        | inr k ↦ (let q = has-flat_map (λ (r : RowMarks). hole_owners (spread r.marks)) rows n k.0 in in-row q.0 n q.1 (hole-in (spread q.0.marks) n q.2))
      ];
      new_told = λ n h. ((among_has (nodes_new new) n).1 h, node-named n (w.new_named n h));
      new_apart = λ n h. ((not-found n h).0, λ i. elim (w.known_found n i) [ inl f ↦ (not-found n h).1 f | inr k ↦ k.1 h ]);
      new_unowned = new-owns;
      new_below = below-new;
      made_told = λ c h. let m = made-from c h in (
        has-any (λ d. same_cell d c) (in_rows cells_made rows) c h (same_cell-itself c),
        (m.0.node, cell-named m.0 c m.1 (made-in (spread m.0.marks) c m.2)),
      );
      made_apart = cell-made-apart;
      made_below = λ c h. let m = made-from c h in below-cell c (flat_map-has (λ (r : RowMarks). cells_in (spread r.marks)) rows m.0 c m.1 (made-in (spread m.0.marks) c m.2));
      loose_shown = λ n h. (among_has (nodes_loose loose) n).1 h;
      loose_known = λ n h. w.found_known n (loose-found n h);
      loose_alone = λ n h i.
          let f = has-map (λ (f : Found). f.node) (found_rows ++ found_regs) n (subst (λ l. Has l n) nodes-are i) in
          let l = has-map (λ (l : Loose). l.node) loose n h in
          distinct-between (λ (f : Found). f.node) (found_rows ++ found_regs) (found_loose loose) f.0 (record { node = l.0.node; how = l.0.how }) all-once f.1 (map-has (λ (l : Loose). let f : Found = record { node = l.node; how = l.how } in f) loose l.0 l.1) (l.2 ∙ sym f.2);
      loose_below = λ n h. below-found n (loose-found n h);
      closed = above;
    }
