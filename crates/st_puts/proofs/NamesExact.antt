-- The nodes that a change's marks tell as named are those that its intent names, of the nodes that aren't new.
use Rattle.std.proofs.Common.{◌≡◌, ◌≢◌, ◌↔◌, ◌++◌, ◌&&◌, not, Bool, true, false, cond, List, [], ◌∷◌, map, Option, Some, None, IsSome, IfSome, refl, sym, ap, ◌∙◌, subst, inl, inr, option_and_then}
use Rattle.std.specs.List.{filter_map, flat_map}
use Rattle.st_ids.specs.Listing.{Has}
use Rattle.st_ids.specs.Order.{node_cmp, same_field}
use Rattle.st_ids.proofs.Listings.{has-item_of, item_of-has}
use Rattle.st_ids.proofs.Orders.{node_cmp_exact, node_cmp_total, same_field-itself}
use Rattle.st_ids.proofs.Shared.{filter-from}
use Rattle.st_ids.specs.declared.names.CellId.{CellId}
use Rattle.st_ids.specs.declared.names.FieldId.{FieldId}
use Rattle.st_ids.specs.declared.names.NodeId.{NodeId}
use Rattle.st_lemmas.proofs.Bools.{and-both, and-true, refuted-false}
use Rattle.st_marks.specs.declared.changes.Change.{Change}
use Rattle.st_marks.specs.declared.intents.Group.{Group}
use Rattle.st_marks.specs.declared.intents.Intent.{Intent}
use Rattle.st_marks.specs.declared.intents.Owned.{Owned}
use Rattle.st_marks.specs.declared.intents.Put.{Put}
use Rattle.st_marks.specs.declared.intents.To.{To}
use Rattle.st_marks.specs.declared.marks.How.{How}
use Rattle.st_marks.specs.declared.marks.How.TheVariants.{Here, Leave}
use Rattle.st_marks.specs.declared.marks.Loose.{Loose}
use Rattle.st_marks.specs.declared.marks.Mark.{Mark}
use Rattle.st_marks.specs.declared.marks.RegMark.{RegMark}
use Rattle.st_marks.specs.declared.marks.RowMarks.{RowMarks}
use Rattle.st_marks.specs.declared.places.Slot.{Slot}
use Rattle.st_marks.specs.Document.{Document, IsSoundInForm, content, owned_cell, slot}
use Rattle.st_marks.specs.Embedding.{IsEmbedding, is_among, named_by_intent, register_part}
use Rattle.st_marks.specs.How.{is_here, is_stay}
use Rattle.st_marks.specs.Intent.{Fits, IsKnown, Owns, cell_of, clears, put_of, register_of}
use Rattle.st_marks.specs.Listings.{cell_made, cells_made, nodes_new, one_or_none}
use Rattle.st_marks.specs.Row.{CellMark, Counted, Fill, Make, Touch, embed_row, how, spread}
use Rattle.st_marks.proofs.Lookups.{clears-has, group_at-group, has-put, put-has}
use Rattle.st_marks.proofs.Members.{all-has, append_left, append_right, flat_map-has, has-any, has-append, has-filter_map, has-flat_map, has-map, map-has}
use Rattle.st_normal.proofs.NoRings.{among_has}
use Rattle.st_puts.proofs.Basics.{is-one, one-is}
use Rattle.st_puts.proofs.OverDocuments.{loose-look, new-is, reg-look, row-look, row-makes}
use Rattle.st_puts.proofs.FoundOnce.{has-new}
use Rattle.st_puts.proofs.StayingNodes.{loose-how, reg-how}
use Rattle.st_puts.proofs.FoundPlaces.{PlacedAs, as_held, as_loose, as_row, filled, touched}
use Rattle.st_puts.proofs.PutsOfIntents.{is_here-put}
use Rattle.st_puts.specs.inside.Names.{loose_names, moved_by, moved_held, names_by, names_told, node_cleared, register_names, row_named, row_names}
use Rattle.st_puts.proofs.Marks.{from-spread, in-spread}
use Rattle.st_puts.proofs.PutsInMarks.{cleared-listed, held-how, in-group, mark-says, mark_of, over, part, put-named, put-placed, row-how, target-told}

touch-not : (c : CellId) (n : NodeId) (h : How) → Touch c n h ≡ Counted → ⊥
touch-not c n h e = cc

make-not : (c : CellId) (n : NodeId) (b : Bool) → Make c n b ≡ Counted → ⊥
make-not c n b e = cc

fill-not : (c : CellId) (n : NodeId) → Fill c n ≡ Counted → ⊥
fill-not c n e = cc

-- an option behind a test
unless : (b : Bool) (o : Option NodeId) (n : NodeId) → cond b None o ≡ Some n → (b ≡ false) × (o ≡ Some n)
unless true o n e = cc
unless false o n e = (refl, e)

guarded : (b : Bool) (o : Option NodeId) (n : NodeId) → cond b o None ≡ Some n → (b ≡ true) × (o ≡ Some n)
guarded true o n e = (refl, e)
guarded false o n e = cc

some-node : {a b : NodeId} → ◌≡◌ {A = Option NodeId} (Some a) (Some b) → a ≡ b
some-node q = cc

-- one that isn't put stays
put-there : (o : Option To) (t : To) (h : How) → how o t ≡ h → is_stay h ≡ false → (u : To) × (o ≡ Some u)
put-there None t h e s = let q : ◌≡◌ {A = Bool} true false = ap is_stay e ∙ s in cc
put-there (Some u) t h e s = (u, refl)

moves : (u t : To) → is_stay (how (Some u) t) ≡ false
moves u t = go (Rattle.st_marks.specs.Row.same_to u t)
  where
    go : (b : Bool) → is_stay (cond b Here Leave) ≡ false
    go true = refl
    go false = refl

module _ (D : Document) (N : Intent) (C : Change) (x : IsSoundInForm D) (f : Fits D N) (emb : IsEmbedding D N C) where
  abbrev puts : List NodeId
  puts = map (λ (p : Put). p.node) N.put

  abbrev groups : List NodeId
  groups = map (λ (g : Group). g.node) N.groups

  abbrev targets : List NodeId
  targets = filter_map (λ (p : Put). option_and_then D.row_of (cell_of p.to)) N.put

  abbrev clear : List NodeId
  clear = map (λ (k : FieldId). k.node) N.clear

  abbrev Named : NodeId → Type 0
  Named n = Has (named_by_intent D N) n

  need-named : (n : NodeId) → Has N.need n → Named n
  need-named n h = append_left (puts ++ N.need ++ groups ++ targets) clear n (append_left (puts ++ N.need ++ groups) targets n (append_left (puts ++ N.need) groups n (append_right puts N.need n h)))

  group-named : (g : Group) → Has N.groups g → Named g.node
  group-named g h = append_left (puts ++ N.need ++ groups ++ targets) clear g.node (append_left (puts ++ N.need ++ groups) targets g.node (append_right (puts ++ N.need) groups g.node (map-has (λ (g : Group). g.node) N.groups g h)))

  target-named : (n r : NodeId) (c : CellId) → put_of N n ≡ Some (To.Cell c) → D.row_of c ≡ Some r → Named r
  target-named n r c e row = append_left (puts ++ N.need ++ groups ++ targets) clear r (append_right (puts ++ N.need ++ groups) targets r
      (has-filter_map (λ (p : Put). option_and_then D.row_of (cell_of p.to)) N.put (record { node = n; to = To.Cell c }) r (put-has N n (To.Cell c) e) row))

  clear-named : (k : FieldId) → clears N k ≡ true → Named k.node
  clear-named k e = append_right (puts ++ N.need ++ groups ++ targets) clear k.node (map-has (λ (k : FieldId). k.node) N.clear k (clears-has N.clear k e))

  -- each name is new or is there
  pub named-known : (n : NodeId) → Named n → IsKnown D N n
  named-known n h = elim (has-append (puts ++ N.need ++ groups ++ targets) clear n h) [
    | inr i ↦ (let k = has-map (λ (k : FieldId). k.node) N.clear n i in subst (IsKnown D N) k.2 (all-has (λ (k : FieldId). IsKnown D N k.node) N.clear k.0 f.clears_known k.1))
    | inl a ↦ elim (has-append (puts ++ N.need ++ groups) targets n a) [
      | inr i ↦ (let p = filter-from (λ (p : Put). option_and_then D.row_of (cell_of p.to)) N.put n i in inr (row_there (cell_of p.0.to) p.2))
      | inl b ↦ elim (has-append (puts ++ N.need) groups n b) [
        | inr i ↦ (let g = has-map (λ (g : Group). g.node) N.groups n i in subst (IsKnown D N) g.2 (all-has (λ (k : Group). IsKnown D N k.node × IfSome k.after (λ c. D.row_of c ≡ Some k.node)) N.groups g.0 f.groups_known g.1).0)
        | inl c ↦ elim (has-append puts N.need n c) [
          | inr i ↦ inr (all-has (λ n. IsSome (D.nodes n)) N.need n f.needs_known i)
          | inl i ↦ (let p = has-map (λ (p : Put). p.node) N.put n i in
              subst (IsKnown D N) p.2 (all-has (λ (p : Put). IsKnown D N p.node × IfSome (cell_of p.to) (Owns D N p.node) × IfSome (register_of p.to) (λ k. IsKnown D N k.node)) N.put p.0 f.puts_known p.1).0)
        ]
      ]
    ]
  ]
    where
      row_there : (o : Option CellId) → option_and_then D.row_of o ≡ Some n → IsSome (D.nodes n)
      row_there None e = cc
      row_there (Some c) e = let r = (x.one_row c n).0 e in (x.cells_known n (owned_cell c r.0) r.1).0

  slot-row : (r : NodeId) (s : Slot) → Has (content D r) s → D.row_of s.cell ≡ Some r
  slot-row r s h =
      let o = has-map (slot D) (D.rows r) s h in
      (x.one_row s.cell r).1 (o.0.node, subst (λ a. Has (D.rows r) (owned_cell a o.0.node)) (ap (λ (t : Slot). t.cell) o.2) o.1)

  -- ## What is told is named

  mark-names : (r : RowMarks) (y : Mark) (n : NodeId) → Has C.rows r → Has r.marks y → Has (names_by r.node y) n → Named n
  mark-names r y n i j h = elim (has-append (one_or_none (moved_by y)) (one_or_none (row_named r.node y)) n h) [
    | inl k ↦ moved-named y j (one-is (moved_by y) n k)
    | inr k ↦ row-is y j (one-is (row_named r.node y) n k)
  ]
    where
      moved-named : (y : Mark) → Has r.marks y → moved_by y ≡ Some n → Named n
      moved-named (Mark.Skip k) j e = cc
      moved-named (Mark.Gap c) j e = cc
      moved-named (Mark.Touch c k w) j e =
          let u = unless (is_stay w) (Some k) n e in
          let same : k ≡ n = some-node u.1 in
          let p = put-there (put_of N k) (To.Cell c) w (row-how D N C x f emb r c k w i (in-spread r.marks (Touch c k w) (touch-not c k w) j)) u.0 in
          subst Named same (put-named D N C x f emb k p.0 p.1)
      moved-named (Mark.Make c k b) j e = cc
      moved-named (Mark.Fill c k) j e = cc

      row-is : (y : Mark) → Has r.marks y → row_named r.node y ≡ Some n → Named n
      row-is (Mark.Skip k) j e = cc
      row-is (Mark.Gap c) j e = cc
      row-is (Mark.Touch c k w) j e =
          let u = guarded (is_here w) (Some r.node) n e in
          let same : r.node ≡ n = some-node u.1 in
          let there = in-spread r.marks (Touch c k w) (touch-not c k w) j in
          let p = is_here-put (put_of N k) (To.Cell c) (ap is_here (row-how D N C x f emb r c k w i there) ∙ u.0) in
          subst Named same (target-named k r.node c p (slot-row r.node (record { cell = c; node = k; full = true }) (touched (content D r.node) (spread r.marks) c k w ((over D N C x f emb).rows r i) there)))
      row-is (Mark.Make c k b) j e =
          let same : r.node ≡ n = some-node e in
          let there = in-spread r.marks (Make c k b) (make-not c k b) j in
          let made = row-makes (part D N C x f emb r.node) (content D r.node) c (subst (λ ms. Has (cells_made ms) c) (row-look D N C x f emb r i).0 (flat_map-has cell_made (spread r.marks) (Make c k b) c there (inl refl))) in
          let g = group_at-group N r.node made.0 made.1 made.2 in
          subst Named (g.node ∙ same) (group-named g.group g.listed)
      row-is (Mark.Fill c k) j e =
          let same : r.node ≡ n = some-node e in
          let there = in-spread r.marks (Fill c k) (fill-not c k) j in
          let p = is_here-put (put_of N k) (To.Cell c) (mark-says D N C x f emb r (Fill c k) i there) in
          subst Named same (target-named k r.node c p (slot-row r.node (record { cell = c; node = k; full = false }) (filled (content D r.node) (spread r.marks) c k ((over D N C x f emb).rows r i) there)))

  register-names : (r : RegMark) (n : NodeId) → Has C.regs r → Has (register_names r) n → Named n
  register-names r n i h = elim (has-append (one_or_none (moved_held r)) (one_or_none (node_cleared r)) n h) [
    | inl k ↦ (let u = unless (is_stay r.how) r.held n (one-is (moved_held r) n k) in
        let p = put-there (put_of N n) (To.Register r.field) r.how (held-how D N C x f emb r n i u.1) u.0 in
        put-named D N C x f emb n p.0 p.1)
    | inr k ↦ (let u = guarded r.clear (Some r.field.node) n (one-is (node_cleared r) n k) in
        subst Named (some-node u.1) (clear-named r.field ((reg-how D N C x f emb r.field (register_part emb.mentioned N r.field) (D.held r.field) r (reg-look D N C x f emb r i)).1 ∙ u.0)))
  ]

  loose-names : (l : Loose) (n : NodeId) → Has C.loose l → Has (loose_names l) n → Named n
  loose-names l n i h = go (is_stay l.how) refl h
    where
      go : (b : Bool) → is_stay l.how ≡ b → Has (cond b [] (l.node ∷ [])) n → Named n
      go true e q = absurd q
      go false e (inl q) = let p = put-there (put_of N l.node) To.Nowhere l.how (loose-how D N C x f emb l.node l (loose-look D N C x f emb l i)) e in subst Named q (put-named D N C x f emb l.node p.0 p.1)
      go false e (inr q) = absurd q

  abbrev rows_part : List NodeId
  rows_part = flat_map row_names C.rows

  abbrev regs_part : List NodeId
  regs_part = flat_map register_names C.regs

  abbrev loose_part : List NodeId
  loose_part = flat_map loose_names C.loose

  told-named : (n : NodeId) → Has (names_told C) n → Named n
  told-named n h = elim (has-append (rows_part ++ regs_part ++ loose_part) C.need n h) [
    | inr i ↦ need-named n (needed n i)
    | inl a ↦ elim (has-append (rows_part ++ regs_part) loose_part n a) [
      | inr i ↦ (let l = has-flat_map loose_names C.loose n i in loose-names l.0 n l.1 l.2)
      | inl b ↦ elim (has-append rows_part regs_part n b) [
        | inl i ↦ (let r = has-flat_map row_names C.rows n i in let y = has-flat_map (names_by r.0.node) r.0.marks n r.2 in mark-names r.0 y.0 n r.1 y.1 y.2)
        | inr i ↦ (let r = has-flat_map register_names C.regs n i in register-names r.0 n r.1 r.2)
      ]
    ]
  ]
    where
      needed : (n : NodeId) → Has C.need n → Has N.need n
      needed n i = (among_has N.need n).0 (said (is_among N.need n) (sym (emb.need.at_each n) ∙ has-item_of node_cmp node_cmp_total node_cmp_exact (λ (k : NodeId). k) C.need n emb.need.rising i))
        where
          said : (b : Bool) → cond b (Some n) None ≡ Some n → b ≡ true
          said true e = refl
          said false e = cc

  -- ## What is named is told

  in_row : (r : RowMarks) (y : Mark) (n : NodeId) → Has C.rows r → Has r.marks y → Has (names_by r.node y) n → Has (names_told C) n
  in_row r y n i j h = append_left (rows_part ++ regs_part ++ loose_part) C.need n (append_left (rows_part ++ regs_part) loose_part n (append_left rows_part regs_part n
      (flat_map-has row_names C.rows r n i (flat_map-has (names_by r.node) r.marks y n j h))))

  in_register : (r : RegMark) (n : NodeId) → Has C.regs r → Has (register_names r) n → Has (names_told C) n
  in_register r n i h = append_left (rows_part ++ regs_part ++ loose_part) C.need n (append_left (rows_part ++ regs_part) loose_part n (append_right rows_part regs_part n (flat_map-has register_names C.regs r n i h)))

  in_loose : (l : Loose) (n : NodeId) → Has C.loose l → Has (loose_names l) n → Has (names_told C) n
  in_loose l n i h = append_left (rows_part ++ regs_part ++ loose_part) C.need n (append_right (rows_part ++ regs_part) loose_part n (flat_map-has loose_names C.loose l n i h))

  told-row : (r : RowMarks) (y : Mark) (n : NodeId) → Has C.rows r → Has r.marks y → row_named r.node y ≡ Some n → Has (names_told C) n
  told-row r y n i j e = in_row r y n i j (append_right (one_or_none (moved_by y)) (one_or_none (row_named r.node y)) n (is-one (row_named r.node y) n e))

  put-told : (n : NodeId) (t : To) → put_of N n ≡ Some t → IsSome (D.nodes n) → Has (names_told C) n
  put-told n t e k = let h = put-placed D N C x f emb n t e k in at h.0 h.1
    where
      at : (h : How) → PlacedAs D C n h → Has (names_told C) n
      at h (as_row r c i j p) =
          let moved : is_stay h ≡ false = ap is_stay (sym (row-how D N C x f emb r c n h i j) ∙ ap (λ o. how o (To.Cell c)) e) ∙ moves t (To.Cell c) in
          in_row r (Mark.Touch c n h) n i (from-spread r.marks (Touch c n h) (touch-not c n h) j)
          (append_left (one_or_none (moved_by (Mark.Touch c n h))) (one_or_none (row_named r.node (Mark.Touch c n h))) n (is-one (moved_by (Mark.Touch c n h)) n (ap (λ b. cond b None (Some n)) moved)))
      at h (as_held r i g q p) =
          let moved : is_stay r.how ≡ false = ap is_stay (sym (held-how D N C x f emb r n i g) ∙ ap (λ o. how o (To.Register r.field)) e) ∙ moves t (To.Register r.field) in
          in_register r n i (append_left (one_or_none (moved_held r)) (one_or_none (node_cleared r)) n (is-one (moved_held r) n (ap (λ b. cond b None r.held) moved ∙ g)))
      at h (as_loose l i g q p k) =
          let moved : is_stay l.how ≡ false = ap is_stay (sym (loose-how D N C x f emb l.node l (loose-look D N C x f emb l i)) ∙ ap (λ k. how (put_of N k) To.Nowhere) g ∙ ap (λ o. how o To.Nowhere) e) ∙ moves t To.Nowhere in
          in_loose l n i (subst (λ b. Has (cond b [] (l.node ∷ [])) n) (sym moved) (inl g))

  need-told : (n : NodeId) → Has N.need n → Has (names_told C) n
  need-told n h = append_right (rows_part ++ regs_part ++ loose_part) C.need n
      (item_of-has node_cmp node_cmp_total node_cmp_exact (λ (k : NodeId). k) C.need n n (emb.need.at_each n ∙ ap (λ b. cond b (Some n) None) ((among_has N.need n).1 h))).0

  group-told : (g : Group) → Has N.groups g → Has (names_told C) g.node
  group-told g h = go g.cells refl
    where
      go : (os : List Owned) → g.cells ≡ os → Has (names_told C) g.node
      go [] q = absurd (all-has (λ (g : Group). g.cells ≢ []) N.groups g f.itself.group_some h q)
      go (o ∷ os) q =
          let r = in-group D N C x f emb g o h (subst (λ l. Has l o) (sym q) (inl refl)) in
          let b = is_here (how (put_of N o.node) (To.Cell o.cell)) in
          subst (Has (names_told C)) r.2 (told-row r.0 (Mark.Make o.cell o.node b) r.0.node r.1 (from-spread r.0.marks (Make o.cell o.node b) (make-not o.cell o.node b) r.3) refl)

  target-is-told : (n r : NodeId) (c : CellId) → put_of N n ≡ Some (To.Cell c) → D.row_of c ≡ Some r → Has (names_told C) r
  target-is-told n r c e row = let q = target-told D N C x f emb n r c e row in subst (Has (names_told C)) q.2 (elim q.3 [
    | inl t ↦ told-row q.0 (Mark.Touch c n Here) q.0.node q.1 (from-spread q.0.marks (Touch c n Here) (touch-not c n Here) t) refl
    | inr t ↦ told-row q.0 (Mark.Fill c n) q.0.node q.1 (from-spread q.0.marks (Fill c n) (fill-not c n) t) refl
  ])

  clear-told : (k : FieldId) → Has N.clear k → Has (names_told C) k.node
  clear-told k h =
      let said : clears N k ≡ true = has-any (λ g. same_field g k) N.clear k h (same_field-itself k) in
      let i = cleared-listed D N C x f emb k said in
      let r = mark_of D N C x f emb k in
      in_register r k.node i (append_right (one_or_none (moved_held r)) (one_or_none (node_cleared r)) k.node (is-one (node_cleared r) k.node (ap (λ b. cond b (Some k.node) None) said)))

  named-told : (n : NodeId) → Named n → IsSome (D.nodes n) → Has (names_told C) n
  named-told n h known = elim (has-append (puts ++ N.need ++ groups ++ targets) clear n h) [
    | inr i ↦ (let k = has-map (λ (k : FieldId). k.node) N.clear n i in subst (Has (names_told C)) k.2 (clear-told k.0 k.1))
    | inl a ↦ elim (has-append (puts ++ N.need ++ groups) targets n a) [
      | inr i ↦ (let p = filter-from (λ (p : Put). option_and_then D.row_of (cell_of p.to)) N.put n i in target p.0 p.1 (cell_of p.0.to) refl p.2)
      | inl b ↦ elim (has-append (puts ++ N.need) groups n b) [
        | inr i ↦ (let g = has-map (λ (g : Group). g.node) N.groups n i in subst (Has (names_told C)) g.2 (group-told g.0 g.1))
        | inl c ↦ elim (has-append puts N.need n c) [
          | inr i ↦ need-told n i
          | inl i ↦ (let p = has-map (λ (p : Put). p.node) N.put n i in put-told n p.0.to (ap (put_of N) (sym p.2) ∙ has-put N f.itself p.0 p.1) known)
        ]
      ]
    ]
  ]
    where
      cell-is : (t : To) (c : CellId) → cell_of t ≡ Some c → t ≡ To.Cell c
      cell-is To.Nowhere c e = cc
      cell-is (To.Cell d) c e = let q : d ≡ c = cc in ap (λ c. To.Cell c) q
      cell-is (To.Register g) c e = cc

      target : (p : Put) → Has N.put p → (q : Option CellId) → cell_of p.to ≡ q → option_and_then D.row_of q ≡ Some n → Has (names_told C) n
      target p i None e q = cc
      target p i (Some c) e q = target-is-told p.node n c (has-put N f.itself p i ∙ ap (λ t. Some t) (cell-is p.to c e)) q

  -- the names that are told and aren't new are the intent's, of the nodes that are there
  pub names_exact : (n : NodeId) → ((is_among (names_told C) n && not (is_among (nodes_new C.new) n)) ≡ true) ↔ (Named n × IsSome (D.nodes n))
  names_exact n = (
    λ e. (let p = and-true (is_among (names_told C) n) (not (is_among (nodes_new C.new) n)) e in
        let named = told-named n ((among_has (names_told C) n).0 p.0) in (
          named,
          elim (named-known n named) [
            | inl new ↦ absurd (clash (is_among (nodes_new C.new) n) ((among_has (nodes_new C.new) n).1 (has-new D N C x f emb n new)) p.1)
            | inr k ↦ k
          ],
        )),
    λ h. and-both (is_among (names_told C) n) (not (is_among (nodes_new C.new) n)) ((among_has (names_told C) n).1 (named-told n h.0 h.1))
        (ap not (refuted-false (is_among (nodes_new C.new) n) (λ e. fresh (f.fresh_nodes n (new-is D N C x f emb n ((among_has (nodes_new C.new) n).0 e))) h.1))),
  )
    where
      clash : (b : Bool) → b ≡ true → not b ≡ true → ⊥
      clash true e g = cc
      clash false e g = cc

      fresh : D.nodes n ≡ None → IsSome (D.nodes n) → ⊥
      fresh e k = let q : ◌≡◌ {A = Bool} false true = rw e at k in cc
