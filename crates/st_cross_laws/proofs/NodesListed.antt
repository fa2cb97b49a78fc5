-- Whom a change or a step lists is whom it mentions, evicts or finds.
use Rattle.std.proofs.Common.{◌≡◌, Bool, true, false, ◌||◌, ◌&&◌, not, List, [], ◌∷◌, ◌++◌, map, Option, Some, None, cond, refl, sym, ap, ◌∙◌, subst, inl, inr, IsSome, is_some}
use Rattle.std.specs.List.{flat_map, list_any}
use Rattle.st_ids.specs.Listing.{Has, item_of}
use Rattle.st_ids.specs.Order.{field_cmp, node_cmp, same_node}
use Rattle.st_ids.specs.Root.{root}
use Rattle.st_ids.proofs.Listings.{has-item_of, item_of-has}
use Rattle.st_ids.proofs.Orders.{field_cmp_exact, field_cmp_total, node_cmp_exact, node_cmp_total}
use Rattle.st_ids.specs.declared.names.CellId.{CellId}
use Rattle.st_ids.specs.declared.names.FieldId.{FieldId}
use Rattle.st_ids.specs.declared.names.NodeId.{NodeId}
use Rattle.st_kind.specs.Named.{Nodes, either}
use Rattle.st_lemmas.proofs.Bools.{and-first, or-cases, or-left, or-right, true-false}
use Rattle.st_lemmas.proofs.Lists.{flat_map-map, flat_map-same}
use Rattle.st_marks.specs.declared.changes.Change.{Change}
use Rattle.st_marks.specs.declared.intents.Intent.{Intent}
use Rattle.st_marks.specs.declared.intents.Owned.{Owned}
use Rattle.st_marks.specs.declared.intents.To.{To}
use Rattle.st_marks.specs.declared.marks.How.{How}
use Rattle.st_marks.specs.declared.marks.How.TheVariants.{Stay, Leave}
use Rattle.st_marks.specs.declared.marks.Loose.{Loose}
use Rattle.st_marks.specs.declared.marks.RegMark.{RegMark}
use Rattle.st_marks.specs.declared.marks.RegStep.{RegStep}
use Rattle.st_marks.specs.declared.marks.RowMarks.{RowMarks}
use Rattle.st_marks.specs.declared.places.Slot.{Slot}
use Rattle.st_marks.specs.declared.places.Spot.{Spot}
use Rattle.st_marks.specs.declared.steps.Step.{Step}
use Rattle.st_marks.specs.Document.{Document, IsSoundInForm, NodeType, content}
use Rattle.st_marks.specs.Embedding.{IsEmbedding, is_among, is_loose, is_nowhere, register_part, row_part, tells}
use Rattle.st_marks.specs.Extends.{IsExtendedBy}
use Rattle.st_marks.specs.How.{is_here}
use Rattle.st_marks.specs.Intent.{clears, put_in, put_of}
use Rattle.st_marks.specs.Listings.{cells_before, nodes_loose, nodes_new, nodes_standing, one_or_none, placed_before}
use Rattle.st_marks.specs.Register.{comes_in, holds_mentioned, how_held}
use Rattle.st_marks.specs.Row.{CellMark, Counted, Gap, Touch, Make, Fill, RowPart, embed_cell, embed_cells, embed_made, embed_row, how, merge, spread}
use Rattle.st_marks.specs.Step.{IsStep}
use Rattle.st_marks.proofs.Climb.{placed_known, shown}
use Rattle.st_marks.proofs.Members.{append_left, append_right, flat_map-has, has-append, has-flat_map, has-map, map-has}
use Rattle.st_puts.proofs.Basics.{one-is}
use Rattle.st_puts.proofs.ListedIf.{listed-Some, shown-Some}
use Rattle.st_read_laws.specs.Reading.{read_change, read_row, read_step}
use Rattle.st_read_laws.proofs.Readings.{spread-read}
use Rattle.st_rows.proofs.KindLaws.{spread-merge}
use Rattle.st_steps.proofs.NamesListed.{mentioned_loose, mentioned_stood}
use Rattle.st_steps.proofs.NodesFound.{found_stands, listed_named, new_apart}
use Rattle.st_trim.specs.Evicted.{in_cleared, is_cleared_spot}
use Rattle.st_cross_laws.specs.Crossed.{found_by_change, found_by_step}
use Rattle.st_cross_laws.proofs.NodesStanding.{among, among-has, full_slot, standing_read}

-- rows that are read tell of the same nodes
rows_read_stand : (l : Bool) (rows : List RowMarks) → flat_map (λ (r : RowMarks). nodes_standing (cells_before (spread r.marks))) (map (read_row l) rows) ≡ flat_map (λ (r : RowMarks). nodes_standing (cells_before (spread r.marks))) rows
rows_read_stand l rows =
    flat_map-map (λ (r : RowMarks). nodes_standing (cells_before (spread r.marks))) (read_row l) rows
    ∙ flat_map-same (λ (r : RowMarks). nodes_standing (cells_before (spread (read_row l r).marks))) (λ (r : RowMarks). nodes_standing (cells_before (spread r.marks)))
    (λ (r : RowMarks). ap (λ xs. nodes_standing (cells_before xs)) (spread-read l r.marks) ∙ standing_read l (spread r.marks)) rows

-- ## A row of a change

module _ (p : RowPart) where
  made_stand : (os : List Owned) (xs : List CellMark) → nodes_standing (cells_before (embed_made p os ++ xs)) ≡ nodes_standing (cells_before xs)
  made_stand [] xs = refl
  made_stand (o ∷ os) xs = made_stand os xs

  cells_named : (c : List Slot) (n : NodeId) → Has (nodes_standing (cells_before (embed_cells p c))) n → p.mentioned n ≡ true
  cells_named [] n h = absurd h
  cells_named (s ∷ c) n h = go s.full (λ w. cells_named c n (subst (λ ns. Has ns n) (made_stand (p.new_cells (Some s.cell)) (embed_cells p c)) w)) h
    where
      full : (Has (nodes_standing (cells_before (embed_made p (p.new_cells (Some s.cell)) ++ embed_cells p c))) n → p.mentioned n ≡ true) → (b : Bool) → p.mentioned s.node ≡ b → (h : How) → Has (nodes_standing (cells_before (cond b (Touch s.cell s.node h) Counted ∷ (embed_made p (p.new_cells (Some s.cell)) ++ embed_cells p c)))) n → p.mentioned n ≡ true
      full rest true e h (inl q) = ap p.mentioned (sym q) ∙ e
      full rest true e h (inr w) = rest w
      full rest false e h w = rest w

      empty : (Has (nodes_standing (cells_before (embed_made p (p.new_cells (Some s.cell)) ++ embed_cells p c))) n → p.mentioned n ≡ true) → (b : Bool) → Has (nodes_standing (cells_before (cond b (Fill s.cell s.node) (Gap s.cell) ∷ (embed_made p (p.new_cells (Some s.cell)) ++ embed_cells p c)))) n → p.mentioned n ≡ true
      empty rest true w = rest w
      empty rest false w = rest w

      go : (b : Bool) → (Has (nodes_standing (cells_before (embed_made p (p.new_cells (Some s.cell)) ++ embed_cells p c))) n → p.mentioned n ≡ true) → Has (nodes_standing (cells_before (embed_cell p s.cell s.node b ∷ (embed_made p (p.new_cells (Some s.cell)) ++ embed_cells p c)))) n → p.mentioned n ≡ true
      go true rest w = full rest (p.mentioned s.node) refl (how (p.target_of s.node) (To.Cell s.cell)) w
      go false rest w = empty rest (is_here (how (p.target_of s.node) (To.Cell s.cell))) w

  row_named : (c : List Slot) (n : NodeId) → Has (nodes_standing (cells_before (embed_row p c))) n → p.mentioned n ≡ true
  row_named c n h = cells_named c n (subst (λ ns. Has ns n) (made_stand (p.new_cells None) (embed_cells p c)) h)

  any_behind : (os : List Owned) (xs : List CellMark) → list_any tells xs ≡ true → list_any tells (embed_made p os ++ xs) ≡ true
  any_behind [] xs e = e
  any_behind (o ∷ os) xs e = refl

  abbrev Told : List CellMark → NodeId → Type 0
  Told xs n = (list_any tells xs ≡ true) × Has (nodes_standing (cells_before xs)) n

  behind_made : (os : List Owned) (xs : List CellMark) (n : NodeId) → Told xs n → Told (embed_made p os ++ xs) n
  behind_made os xs n t = (any_behind os xs t.0, subst (λ ns. Has ns n) (sym (made_stand os xs)) t.1)

  behind_cell : (y : CellMark) (xs : List CellMark) (n : NodeId) → Told xs n → Told (y ∷ xs) n
  behind_cell Counted xs n t = t
  behind_cell (Gap c) xs n t = t
  behind_cell (Touch c k h) xs n t = (refl, inr t.1)
  behind_cell (Make c k b) xs n t = (refl, t.1)
  behind_cell (Fill c k) xs n t = (refl, t.1)

  cells_told : (c : List Slot) (n : NodeId) (a : CellId) → p.mentioned n ≡ true → Has c (full_slot a n) → Told (embed_cells p c) n
  cells_told [] n a e h = absurd h
  cells_told (s ∷ c) n a e (inl q) = go s.full (ap (λ (u : Slot). u.full) q)
    where
      node : s.node ≡ n
      node = ap (λ (u : Slot). u.node) q

      rest : List CellMark
      rest = embed_made p (p.new_cells (Some s.cell)) ++ embed_cells p c

      at : (b : Bool) → b ≡ true → (h : How) → Told (cond b (Touch s.cell s.node h) Counted ∷ rest) n
      at true w h = (refl, inl node)
      at false w h = cc

      go : (b : Bool) → b ≡ true → Told (embed_cell p s.cell s.node b ∷ rest) n
      go true w = at (p.mentioned s.node) (ap p.mentioned node ∙ e) (how (p.target_of s.node) (To.Cell s.cell))
      go false w = cc
  cells_told (s ∷ c) n a e (inr h) =
      behind_cell (embed_cell p s.cell s.node s.full) (embed_made p (p.new_cells (Some s.cell)) ++ embed_cells p c) n (behind_made (p.new_cells (Some s.cell)) (embed_cells p c) n (cells_told c n a e h))

  row_told : (c : List Slot) (n : NodeId) (a : CellId) → p.mentioned n ≡ true → Has c (full_slot a n) → Told (embed_row p c) n
  row_told c n a e h = behind_made (p.new_cells None) (embed_cells p c) n (cells_told c n a e h)

-- ## A change

module _ (l : Bool) (D : Document) (N : Intent) (C : Change) (x : IsSoundInForm D) (change : IsEmbedding D N C) where
  abbrev c : Nodes
  c = change.mentioned

  abbrev rows_stood : List NodeId
  rows_stood = flat_map (λ (r : RowMarks). nodes_standing (cells_before (spread r.marks))) C.rows

  abbrev helds : List NodeId
  helds = flat_map one_or_none (map (λ (r : RegMark). r.held) C.regs)

  whole : found_by_change (read_change l C) ≡ nodes_loose C.loose ++ (rows_stood ++ helds)
  whole = ap (λ ns. nodes_loose C.loose ++ (ns ++ helds)) (rows_read_stand l C.rows)

  abbrev row_cells : NodeId → List CellMark
  row_cells r = embed_row (row_part c N r) (content D r)

  cells_of : (r : RowMarks) → Has C.rows r → spread r.marks ≡ row_cells r.node
  cells_of r i =
      ap (λ (q : RowMarks). spread q.marks) (shown-Some (list_any tells (row_cells r.node)) (record { node = r.node; marks = merge (row_cells r.node) }) r
      (sym (change.rows.at_each r.node) ∙ has-item_of node_cmp node_cmp_total node_cmp_exact (λ (q : RowMarks). q.node) C.rows r change.rows.rising i))
      ∙ spread-merge (row_cells r.node)

  abbrev reg_of : FieldId → RegMark
  reg_of k = record { field = k; held = D.held k; how = how_held k (register_part c N k) (D.held k); clear = clears N k; fill = comes_in (D.held k) (put_in N k) }

  reg_is : (r : RegMark) → Has C.regs r → (r ≡ reg_of r.field) × ((clears N r.field || holds_mentioned c (D.held r.field)) ≡ true)
  reg_is r i = listed-Some (clears N r.field || holds_mentioned c (D.held r.field)) (reg_of r.field) r
      (sym (change.regs.at_each r.field) ∙ has-item_of field_cmp field_cmp_total field_cmp_exact (λ (q : RegMark). q.field) C.regs r change.regs.rising i)

  reg_there : (k : FieldId) → (clears N k || holds_mentioned c (D.held k)) ≡ true → Has C.regs (reg_of k)
  reg_there k e = (item_of-has field_cmp field_cmp_total field_cmp_exact (λ (q : RegMark). q.field) C.regs k (reg_of k) (change.regs.at_each k ∙ ap (λ b. cond b (Some (reg_of k)) None) e)).0

  -- whom it finds it mentions or evicts
  held_named : (k : FieldId) (n : NodeId) → D.held k ≡ Some n → (clears N k || holds_mentioned c (D.held k)) ≡ true → either c (in_cleared D N) n ≡ true
  held_named k n held e = elim (or-cases (clears N k) (holds_mentioned c (D.held k)) e) [
    | inl q ↦ or-right (c n) (in_cleared D N n) (ap (is_cleared_spot N) ((x.one_held n k).0 held) ∙ q)
    | inr q ↦ or-left (c n) (in_cleared D N n) (sym (ap (holds_mentioned c) held) ∙ q)
  ]

  loose_named : (n : NodeId) → Has (nodes_loose C.loose) n → c n ≡ true
  loose_named n h =
      let o = has-map (λ (q : Loose). q.node) C.loose n h in
      let e = (listed-Some (is_loose c D o.0.node) (record { node = o.0.node; how = how (put_of N o.0.node) To.Nowhere }) o.0
      (sym (change.loose.at_each o.0.node) ∙ has-item_of node_cmp node_cmp_total node_cmp_exact (λ (q : Loose). q.node) C.loose o.0 change.loose.rising o.1)).1 in
      ap c (sym o.2) ∙ and-first (c o.0.node) (is_nowhere (D.place o.0.node)) (and-first (c o.0.node && is_nowhere (D.place o.0.node)) (not (same_node o.0.node root)) e)

  found_named : (n : NodeId) → Has (nodes_loose C.loose ++ (rows_stood ++ helds)) n → either c (in_cleared D N) n ≡ true
  found_named n h = elim (has-append (nodes_loose C.loose) (rows_stood ++ helds) n h) [
    | inl i ↦ or-left (c n) (in_cleared D N n) (loose_named n i)
    | inr i ↦ elim (has-append rows_stood helds n i) [
      | inl j ↦ (let r = has-flat_map (λ (r : RowMarks). nodes_standing (cells_before (spread r.marks))) C.rows n j in
          or-left (c n) (in_cleared D N n) (row_named (row_part c N r.0.node) (content D r.0.node) n (subst (λ xs. Has (nodes_standing (cells_before xs)) n) (cells_of r.0 r.1) r.2)))
      | inr j ↦ (let o = has-flat_map one_or_none (map (λ (r : RegMark). r.held) C.regs) n j in
          let r = has-map (λ (r : RegMark). r.held) C.regs o.0 o.1 in
          let is = reg_is r.0 r.1 in
          held_named r.0.field n (sym (ap (λ (q : RegMark). q.held) is.0) ∙ r.2 ∙ one-is o.0 n o.2) is.1)
    ]
  ]

  -- and whom it mentions or evicts it finds
  held_found : (k : FieldId) (n : NodeId) → D.held k ≡ Some n → (clears N k || holds_mentioned c (D.held k)) ≡ true → Has (nodes_loose C.loose ++ (rows_stood ++ helds)) n
  held_found k n held e = append_right (nodes_loose C.loose) (rows_stood ++ helds) n (append_right rows_stood helds n
      (flat_map-has one_or_none (map (λ (r : RegMark). r.held) C.regs) (D.held k) n (map-has (λ (r : RegMark). r.held) C.regs (reg_of k) (reg_there k e)) (subst (λ o. Has (one_or_none o) n) (sym held) (inl refl))))

  mentioned_found : (n : NodeId) → c n ≡ true → same_node n root ≡ false → (s : Spot) → D.place n ≡ s → Has (nodes_loose C.loose ++ (rows_stood ++ helds)) n
  mentioned_found n e z Spot.Nowhere q =
      let one : Loose = record { node = n; how = how (put_of N n) To.Nowhere } in
      let at : item_of node_cmp (λ (k : Loose). k.node) C.loose n ≡ Some one = change.loose.at_each n ∙ (λ i. cond {A = Option Loose} (e i && is_nowhere (q i) && not (z i)) (Some one) None) in
      append_left (nodes_loose C.loose) (rows_stood ++ helds) n (map-has (λ (k : Loose). k.node) C.loose one (item_of-has node_cmp node_cmp_total node_cmp_exact (λ (k : Loose). k.node) C.loose n one at).0)
  mentioned_found n e z (Spot.Row r a) q =
      let t = row_told (row_part c N r) (content D r) n a e (shown D x n r a q) in
      let row : RowMarks = record { node = r; marks = merge (row_cells r) } in
      let i = (item_of-has node_cmp node_cmp_total node_cmp_exact (λ (k : RowMarks). k.node) C.rows r row (change.rows.at_each r ∙ ap (λ b. cond b (Some row) None) t.0)).0 in
      append_right (nodes_loose C.loose) (rows_stood ++ helds) n (append_left rows_stood helds n
      (flat_map-has (λ (r : RowMarks). nodes_standing (cells_before (spread r.marks))) C.rows row n i (subst (λ xs. Has (nodes_standing (cells_before xs)) n) (sym (spread-merge (row_cells r))) t.1)))
  mentioned_found n e z (Spot.Register k) q =
      let held = (x.one_held n k).1 q in
      held_found k n held (or-right (clears N k) (holds_mentioned c (D.held k)) (ap (holds_mentioned c) held ∙ e))

  evicted_found : (n : NodeId) (s : Spot) → D.place n ≡ s → is_cleared_spot N s ≡ true → Has (nodes_loose C.loose ++ (rows_stood ++ helds)) n
  evicted_found n Spot.Nowhere q e = cc
  evicted_found n (Spot.Row r a) q e = cc
  evicted_found n (Spot.Register k) q e = held_found k n ((x.one_held n k).1 q) (or-left (clears N k) (holds_mentioned c (D.held k)) e)

  pub change_finds : (n : NodeId) → same_node n root ≡ false → is_among (found_by_change (read_change l C)) n ≡ either c (in_cleared D N) n
  change_finds n z = ap (λ ns. is_among ns n) whole ∙ go (is_among (nodes_loose C.loose ++ (rows_stood ++ helds)) n) refl (either c (in_cleared D N) n) refl
    where
      told : either c (in_cleared D N) n ≡ true → is_among (nodes_loose C.loose ++ (rows_stood ++ helds)) n ≡ true
      told e = among _ n (elim (or-cases (c n) (in_cleared D N n) e) [ inl q ↦ mentioned_found n q z (D.place n) refl | inr q ↦ evicted_found n (D.place n) refl q ])

      go : (a : Bool) → is_among (nodes_loose C.loose ++ (rows_stood ++ helds)) n ≡ a → (b : Bool) → either c (in_cleared D N) n ≡ b → a ≡ b
      go true p true q = refl
      go true p false q = absurd (true-false (found_named n (among-has _ n p)) q)
      go false p true q = absurd (true-false (told q) p)
      go false p false q = refl

-- ## A step

module _ (l : Bool) (D E : Document) (S : Step) (x : IsExtendedBy D E) (step : IsStep D E S) where
  abbrev placed : List NodeId
  placed = placed_before S.rows (map (λ (r : RegStep). r.before) S.regs)

  same : found_by_step (read_step l S) ≡ nodes_loose S.loose ++ placed
  same = ap (λ ns. nodes_loose S.loose ++ (ns ++ flat_map one_or_none (map (λ (r : RegStep). r.before) S.regs))) (rows_read_stand l S.rows)

  step_loose_named : (n : NodeId) → Has (nodes_loose S.loose) n → step.mentioned n ≡ true
  step_loose_named n h =
      let o = has-map (λ (q : Loose). q.node) S.loose n h in
      let e = (listed-Some (is_loose step.mentioned D o.0.node) (record { node = o.0.node; how = cond (is_nowhere (E.place o.0.node)) Stay Leave }) o.0
      (sym (step.loose.at_each o.0.node) ∙ has-item_of node_cmp node_cmp_total node_cmp_exact (λ (q : Loose). q.node) S.loose o.0 step.loose.rising o.1)).1 in
      ap step.mentioned (sym o.2) ∙ and-first (step.mentioned o.0.node) (is_nowhere (D.place o.0.node)) (and-first (step.mentioned o.0.node && is_nowhere (D.place o.0.node)) (not (same_node o.0.node root)) e)

  placed_named : (n : NodeId) → Has placed n → step.mentioned n ≡ true
  placed_named n h = elim (listed_named D E S x step n (among _ n (append_right (nodes_new S.new ++ nodes_loose S.loose) placed n h))) [
    | inl q ↦ q
    | inr q ↦ absurd (out (D.nodes n) (placed_known D x.before n (λ w. true-false (ap is_nowhere w) (found_stands D E S x step n (among _ n h)))) (new_apart D E S x step n q))
  ]
    where
      out : (o : Option NodeType) → IsSome o → is_some o ≡ false → ⊥
      out None h e = cc
      out (Some t) h e = cc

  pub step_finds : (n : NodeId) → same_node n root ≡ false → is_among (found_by_step (read_step l S)) n ≡ step.mentioned n
  step_finds n z = ap (λ ns. is_among ns n) same ∙ go (is_among (nodes_loose S.loose ++ placed) n) refl (step.mentioned n) refl
    where
      told : step.mentioned n ≡ true → (b : Bool) → is_nowhere (D.place n) ≡ b → Has (nodes_loose S.loose ++ placed) n
      told e true q = append_left (nodes_loose S.loose) placed n (among-has _ n (mentioned_loose D E S x step n e q z))
      told e false q = append_right (nodes_loose S.loose) placed n (among-has _ n (mentioned_stood D E S x step n e q))

      named : Has (nodes_loose S.loose ++ placed) n → step.mentioned n ≡ true
      named h = elim (has-append (nodes_loose S.loose) placed n h) [ inl i ↦ step_loose_named n i | inr i ↦ placed_named n i ]

      go : (a : Bool) → is_among (nodes_loose S.loose ++ placed) n ≡ a → (b : Bool) → step.mentioned n ≡ b → a ≡ b
      go true p true q = refl
      go true p false q = absurd (true-false (named (among-has _ n p)) q)
      go false p true q = absurd (true-false (among _ n (told q (is_nowhere (D.place n)) refl)) p)
      go false p false q = refl
