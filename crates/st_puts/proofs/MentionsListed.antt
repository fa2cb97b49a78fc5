-- What the intent of a change mentions is exactly what the change lists as mentioned.
use Rattle.std.proofs.Common.{◌≡◌, ◌↔◌, ◌<◌, ◌+◌, ◌++◌, ℕ, zero, suc, Bool, true, false, not, List, [], ◌∷◌, map, Option, Some, None, IsSome, IsTrue, cond, refl, sym, ap, ◌∙◌, subst, inl, inr, ◌⊎◌, arith, option_and_then}
use Rattle.std.specs.List.{filter_map, flat_map, list_any}
use Rattle.st_ids.specs.Listing.{Has}
use Rattle.st_ids.specs.declared.names.CellId.{CellId}
use Rattle.st_ids.specs.declared.names.FieldId.{FieldId}
use Rattle.st_ids.specs.declared.names.NodeId.{NodeId}
use Rattle.st_marks.specs.declared.changes.Change.{Change}
use Rattle.st_marks.specs.declared.intents.Group.{Group}
use Rattle.st_marks.specs.declared.intents.Intent.{Intent}
use Rattle.st_marks.specs.declared.intents.Owned.{Owned}
use Rattle.st_marks.specs.declared.intents.Put.{Put}
use Rattle.st_marks.specs.declared.intents.To.{To}
use Rattle.st_normal.specs.declared.entries.Found.{Found}
use Rattle.st_marks.specs.declared.marks.How.{How}
use Rattle.st_marks.specs.declared.marks.How.TheVariants.{Stay, Here, Leave}
use Rattle.st_marks.specs.declared.marks.Loose.{Loose}
use Rattle.st_marks.specs.declared.marks.RegMark.{RegMark}
use Rattle.st_marks.specs.declared.marks.RowMarks.{RowMarks}
use Rattle.st_marks.specs.declared.places.Slot.{Slot}
use Rattle.st_marks.specs.Document.{Document, IsSoundInForm, above, climb, content, node_of, owned_cell, slot}
use Rattle.st_ids.specs.Root.{root}
use Rattle.st_marks.specs.Embedding.{IsMentionedByIntent, is_among, named_by_intent, tells}
use Rattle.st_marks.specs.Intent.{cell_of}
use Rattle.st_marks.specs.Row.{CellMark, Counted, Gap, Touch, Make, Fill, spread}
use Rattle.st_marks.specs.How.{is_here, is_stay, is_leave}
use Rattle.st_normal.specs.Rules.{IsFound, IsFoundAs, HasListedField, Entries, ObeysDataRules, fields_of, found_at, found_held, found_in, found_loose, in_rows, incoming_nodes, kept_at, entries_of_change, put_at, staying_nodes}
use Rattle.st_marks.specs.Listings.{nodes_new, one_or_none}
use Rattle.st_marks.proofs.Climb.{above_known, climb_more}
use Rattle.st_normal.proofs.NoRings.{among_has}
use Rattle.st_ids.proofs.Shared.{filter-has, filter-from, filtered}
use Rattle.st_marks.proofs.Members.{all-has, append_left, append_right, has-append, map-has, has-map, flat_map-has, has-flat_map, any-has, has-filter_map}
use Rattle.st_puts.specs.ChangeMentions.{mentions, moving_nodes}
use Rattle.st_puts.specs.Meant.{IsOver, cleared_at, nodes_gone, group_of, groups_along, groups_of, leaving_nodes, loose_puts, made_first, meant_intent, put_to, reg_puts, row_puts, along, Along}
use Rattle.st_puts.proofs.FoundPlaces.{PlacedAs, as_row, as_held, as_loose, touched, filled, has-found_in, is-found_held, found_placed, found_there, found_above, touch_place, held_place}
use Rattle.st_puts.proofs.MentionsOfIntents.{moving-has, has-moving, has-staying, has-leaving, leaving-has, row_put-has, here-put, fill-put, incoming-put, row_made}
use Rattle.st_puts.proofs.StepRows.{make-incoming, fill-incoming}
use Rattle.st_puts.proofs.Basics.{is-one, not-false, not-true, one-is}
use Rattle.st_lemmas.proofs.Bools.{true-false, and-both, and-true, or-cases, or-left, or-right}

-- a climb that ends is longer than one that doesn't
climb_lt : (up : NodeId → Option NodeId) (k i : ℕ) (m n : NodeId) → climb up k m ≡ None → climb up i m ≡ Some n → i < k
climb_lt up zero i m n e f = let bad : Some m ≡ None = e in cc
climb_lt up (suc k) zero m n e f = omega arith
climb_lt up (suc k) (suc i) m n e f = go (up m) refl (λ p a b. climb_lt up k i p n a b)
  where
    go : (o : Option NodeId) → up m ≡ o → ((p : NodeId) → climb up k p ≡ None → climb up i p ≡ Some n → i < k) → suc i < suc k
    go None q rest = let bad : None ≡ Some n = ap (option_and_then (climb up i)) (sym q) ∙ f in cc
    go (Some p) q rest = let r = rest p (ap (option_and_then (climb up k)) (sym q) ∙ e) (ap (option_and_then (climb up i)) (sym q) ∙ f) in omega (arith, r)

pub stay-leave : (h : How) → (is_stay h ≡ true) ⊎ (h ≡ Here) ⊎ (h ≡ Leave)
stay-leave Stay = inl refl
stay-leave Here = inr (inl refl)
stay-leave Leave = inr (inr refl)

module _ (D : Document) (C : Change) (x : IsSoundInForm D) (w : ObeysDataRules C) (o : IsOver D C) where
  abbrev L : Entries
  L = entries_of_change C

  abbrev N : Intent
  N = meant_intent D C

  abbrev M : NodeId → Type 0
  M n = IsMentionedByIntent D N n

  pub found-row : (r : RowMarks) (c : CellId) (n : NodeId) (h : How) → Has C.rows r → Has (spread r.marks) (Touch c n h) → Has L.found (record { node = n; how = h })
  found-row r c n h i j = append_left (in_rows found_in C.rows) (flat_map found_at C.regs ++ found_loose C.loose) (record { node = n; how = h }) (flat_map-has (λ (r : RowMarks). found_in (spread r.marks)) C.rows r (record { node = n; how = h }) i (has-found_in (spread r.marks) c n h j))

  pub found-reg : (r : RegMark) (n : NodeId) → Has C.regs r → r.held ≡ Some n → Has L.found (record { node = n; how = r.how })
  found-reg r n i e = append_right (in_rows found_in C.rows) (flat_map found_at C.regs ++ found_loose C.loose) (record { node = n; how = r.how })
      (append_left (flat_map found_at C.regs) (found_loose C.loose) (record { node = n; how = r.how }) (flat_map-has found_at C.regs r (record { node = n; how = r.how }) i (is-found_held r.held n r.how e)))

  pub found-loose : (l : Loose) → Has C.loose l → Has L.found (record { node = l.node; how = l.how })
  found-loose l i = append_right (in_rows found_in C.rows) (flat_map found_at C.regs ++ found_loose C.loose) (record { node = l.node; how = l.how })
      (append_right (flat_map found_at C.regs) (found_loose C.loose) (record { node = l.node; how = l.how }) (map-has (λ (l : Loose). let f : Found = record { node = l.node; how = l.how } in f) C.loose l i))

  pub is-found : (n : NodeId) (h : How) → Has L.found (record { node = n; how = h }) → IsFound L n
  is-found n h i = map-has (λ (f : Found). f.node) L.found (record { node = n; how = h }) i

  -- ## Puts

  pub put-row : (r : RowMarks) (p : Put) → Has C.rows r → Has (row_puts (spread r.marks)) p → Has N.put p
  put-row r p i j = append_left (flat_map (λ (r : RowMarks). row_puts (spread r.marks)) C.rows) _ p (flat_map-has (λ (r : RowMarks). row_puts (spread r.marks)) C.rows r p i j)

  pub put-reg : (r : RegMark) (p : Put) → Has C.regs r → Has (reg_puts r) p → Has N.put p
  put-reg r p i j = append_right (flat_map (λ (r : RowMarks). row_puts (spread r.marks)) C.rows) _ p (append_left (flat_map reg_puts C.regs) _ p (flat_map-has reg_puts C.regs r p i j))

  pub put-loose : (l : Loose) (p : Put) → Has C.loose l → Has (loose_puts l) p → Has N.put p
  put-loose l p i j = append_right (flat_map (λ (r : RowMarks). row_puts (spread r.marks)) C.rows) _ p (append_right (flat_map reg_puts C.regs) _ p (append_left (flat_map loose_puts C.loose) _ p (flat_map-has loose_puts C.loose l p i j)))

  pub put-gone : (n : NodeId) → Has (nodes_gone C) n → Has N.put (put_to n To.Nowhere)
  put-gone n i = append_right (flat_map (λ (r : RowMarks). row_puts (spread r.marks)) C.rows) _ (put_to n To.Nowhere) (append_right (flat_map reg_puts C.regs) _ (put_to n To.Nowhere) (append_right (flat_map loose_puts C.loose) _ (put_to n To.Nowhere) (map-has (λ n. put_to n To.Nowhere) (nodes_gone C) n i)))

  pub put-cases : (p : Put) → Has N.put p
      → ((r : RowMarks) × Has C.rows r × Has (row_puts (spread r.marks)) p) ⊎ ((r : RegMark) × Has C.regs r × Has (reg_puts r) p) ⊎ ((l : Loose) × Has C.loose l × Has (loose_puts l) p) ⊎ ((n : NodeId) × Has (nodes_gone C) n × (p ≡ put_to n To.Nowhere))
  put-cases p h = elim (has-append (flat_map (λ (r : RowMarks). row_puts (spread r.marks)) C.rows) (flat_map reg_puts C.regs ++ (flat_map loose_puts C.loose ++ map (λ n. put_to n To.Nowhere) (nodes_gone C))) p h) [
    | inl i ↦ inl (has-flat_map (λ (r : RowMarks). row_puts (spread r.marks)) C.rows p i)
    | inr i ↦ elim (has-append (flat_map reg_puts C.regs) (flat_map loose_puts C.loose ++ map (λ n. put_to n To.Nowhere) (nodes_gone C)) p i) [
      | inl j ↦ inr (inl (has-flat_map reg_puts C.regs p j))
      | inr j ↦ elim (has-append (flat_map loose_puts C.loose) (map (λ n. put_to n To.Nowhere) (nodes_gone C)) p j) [
        | inl k ↦ inr (inr (inl (has-flat_map loose_puts C.loose p k)))
        | inr k ↦ (let r = has-map (λ n. put_to n To.Nowhere) (nodes_gone C) p k in inr (inr (inr (r.0, r.1, sym r.2))))
      ]
    ]
  ]

  -- whom the change puts the intent puts
  pub put-list : (n : NodeId) → Has L.put n → (t : To) × Has N.put (put_to n t)
  put-list n h = elim (has-append (in_rows incoming_nodes C.rows) (flat_map put_at C.regs) n h) [
    | inl i ↦ (let r = has-flat_map (λ (r : RowMarks). incoming_nodes (spread r.marks)) C.rows n i in let c = incoming-put (spread r.0.marks) n r.2 in
        (To.Cell c.0, put-row r.0 (put_to n (To.Cell c.0)) r.1 c.1))
    | inr i ↦ (let r = has-flat_map put_at C.regs n i in
        (To.Register r.0.field, put-reg r.0 (put_to n (To.Register r.0.field)) r.1 (append_left (map (λ n. put_to n (To.Register r.0.field)) (one_or_none r.0.fill)) _ (put_to n (To.Register r.0.field)) (map-has (λ n. put_to n (To.Register r.0.field)) (one_or_none r.0.fill) n r.2))))
  ]

  here-true : (h : How) → h ≡ Here → is_here h ≡ true
  here-true h e = ap is_here e

  -- who doesn't stay is put
  pub moved-put : (f : Found) → Has L.found f → is_stay f.how ≡ false → (t : To) × Has N.put (put_to f.node t)
  moved-put f i e = elim (stay-leave f.how) [
    | inl s ↦ absurd (true-false s e)
    | inr b ↦ elim b [ inl here ↦ set here (found_placed D C x o f i) | inr leave ↦ target_of leave ]
  ]
    where
      set : f.how ≡ Here → PlacedAs D C f.node f.how → (t : To) × Has N.put (put_to f.node t)
      set here (as_row r c j k q) = (To.Cell c, put-row r (put_to f.node (To.Cell c)) j (here-put (spread r.marks) c f.node (subst (λ h. Has (spread r.marks) (Touch c f.node h)) here k)))
      set here (as_held r j k q p) = (
        To.Register r.field,
        put-reg r (put_to f.node (To.Register r.field)) j
            (append_right (map (λ n. put_to n (To.Register r.field)) (one_or_none r.fill)) _ (put_to f.node (To.Register r.field))
            (subst (λ b. Has (cond b (map (λ n. put_to n (To.Register r.field)) (one_or_none r.held)) []) (put_to f.node (To.Register r.field))) (sym (here-true r.how (q ∙ here)))
            (map-has (λ n. put_to n (To.Register r.field)) (one_or_none r.held) f.node (is-one r.held f.node k)))),
      )
      set here (as_loose l j k q p g) = (To.Nowhere, put-loose l (put_to f.node To.Nowhere) j (subst (λ b. Has (cond b (put_to l.node To.Nowhere ∷ []) []) (put_to f.node To.Nowhere)) (sym (here-true l.how (q ∙ here))) (inl (ap (λ n. put_to n To.Nowhere) k))))

      target_of : f.how ≡ Leave → (t : To) × Has N.put (put_to f.node t)
      target_of leave = decide (is_among L.put f.node) refl
        where
          decide : (b : Bool) → is_among L.put f.node ≡ b → (t : To) × Has N.put (put_to f.node t)
          decide true q = put-list f.node ((among_has L.put f.node).0 q)
          decide false q = (To.Nowhere, put-gone f.node (filter-has (λ n. not (is_among L.put n)) (leaving_nodes L.found) f.node (has-leaving L.found f i (ap is_leave leave)) (ap not q)))

  leaves-or-new : (n : NodeId) → Has L.put n → Has (nodes_new C.new) n ⊎ Has (moving_nodes L.found) n
  leaves-or-new n h = elim (all-has (λ (n : NodeId). Has L.new n ⊎ IsFoundAs L n Leave) L.put n w.common.put_leave h) [
    | inl i ↦ inl i
    | inr i ↦ inr (has-moving L.found (record { node = n; how = Leave }) i refl)
  ]

  -- who is put is new, or doesn't stay
  pub put-moved : (p : Put) → Has N.put p → Has (nodes_new C.new) p.node ⊎ Has (moving_nodes L.found) p.node
  put-moved p h = elim (put-cases p h) [
    | inl (r, i, j) ↦ (let c = row_put-has (spread r.marks) p j in elim c.2 [
      | inl a ↦ inr (has-moving L.found (record { node = p.node; how = Here }) (found-row r c.0 p.node Here i a) refl)
      | inr b ↦ leaves-or-new p.node (append_left (in_rows incoming_nodes C.rows) (flat_map put_at C.regs) p.node (flat_map-has (λ (r : RowMarks). incoming_nodes (spread r.marks)) C.rows r p.node i
          (elim b [ inl m ↦ make-incoming (spread r.marks) c.0 p.node m | inr m ↦ fill-incoming (spread r.marks) c.0 p.node m ])))
    ])
    | inr a ↦ elim a [
      | inl (r, i, j) ↦ elim (has-append (map (λ n. put_to n (To.Register r.field)) (one_or_none r.fill)) (cond (is_here r.how) (map (λ n. put_to n (To.Register r.field)) (one_or_none r.held)) []) p j) [
        | inl k ↦ (let n = has-map (λ n. put_to n (To.Register r.field)) (one_or_none r.fill) p k in
            leaves-or-new p.node (append_right (in_rows incoming_nodes C.rows) (flat_map put_at C.regs) p.node (flat_map-has put_at C.regs r p.node i (subst (λ m. Has (one_or_none r.fill) m) (ap (λ (p : Put). p.node) n.2) n.1))))
        | inr k ↦ inr (set r i (is_here r.how) refl k)
      ]
      | inr b ↦ elim b [
        | inl (l, i, j) ↦ inr (nowhere l i (is_here l.how) refl j)
        | inr (n, i, e) ↦ (let f = leaving-has L.found n (filtered (λ n. not (is_among L.put n)) (leaving_nodes L.found) n i).0 in
            inr (subst (Has (moving_nodes L.found)) (f.2 ∙ ap (λ (p : Put). p.node) (sym e)) (has-moving L.found f.0 f.1 (leave-not f.0.how f.3))))
      ]
    ]
  ]
    where
      leave-not : (h : How) → is_leave h ≡ true → is_stay h ≡ false
      leave-not Stay e = cc
      leave-not Here e = refl
      leave-not Leave e = refl

      here-not : (h : How) → is_here h ≡ true → is_stay h ≡ false
      here-not Stay e = cc
      here-not Here e = refl
      here-not Leave e = refl

      set : (r : RegMark) → Has C.regs r → (b : Bool) → is_here r.how ≡ b → Has (cond b (map (λ n. put_to n (To.Register r.field)) (one_or_none r.held)) []) p → Has (moving_nodes L.found) p.node
      set r i false e k = absurd k
      set r i true e k =
          let n = has-map (λ n. put_to n (To.Register r.field)) (one_or_none r.held) p k in
          let held = one-is r.held n.0 n.1 in
          subst (Has (moving_nodes L.found)) (ap (λ (p : Put). p.node) n.2) (has-moving L.found (record { node = n.0; how = r.how }) (found-reg r n.0 i held) (here-not r.how e))

      nowhere : (l : Loose) → Has C.loose l → (b : Bool) → is_here l.how ≡ b → Has (cond b (put_to l.node To.Nowhere ∷ []) []) p → Has (moving_nodes L.found) p.node
      nowhere l i false e k = absurd k
      nowhere l i true e (inl q) = subst (Has (moving_nodes L.found)) (ap (λ (p : Put). p.node) q) (has-moving L.found (record { node = l.node; how = l.how }) (found-loose l i) (here-not l.how e))
      nowhere l i true e (inr k) = absurd k

  -- ## What the change lists as mentioned the intent mentions

  abbrev put_nodes : List NodeId
  put_nodes = map (λ (p : Put). p.node) N.put

  abbrev group_nodes : List NodeId
  group_nodes = map (λ (g : Group). g.node) N.groups

  abbrev target_nodes : List NodeId
  target_nodes = filter_map (λ (p : Put). option_and_then D.row_of (cell_of p.to)) N.put

  abbrev clear_nodes : List NodeId
  clear_nodes = map (λ (f : FieldId). f.node) N.clear

  m-named : (s : NodeId) → Has (named_by_intent D N) s → IsSome (D.nodes s) → M s
  m-named s h k = (s, h, k, zero, refl)

  m-up : (n p : NodeId) → M n → above D n ≡ Some p → M p
  m-up n p (s, h, k, j, e) f = (s, h, k, suc j, climb_more (above D) j s n p e f)

  m-put : (n : NodeId) (t : To) → Has N.put (put_to n t) → IsSome (D.nodes n) → M n
  m-put n t h = m-named n (append_left (put_nodes ++ N.need ++ group_nodes ++ target_nodes) clear_nodes n (append_left (put_nodes ++ N.need ++ group_nodes) target_nodes n (append_left (put_nodes ++ N.need) group_nodes n (append_left put_nodes N.need n (map-has (λ (p : Put). p.node) N.put (put_to n t) h)))))

  m-need : (n : NodeId) → Has C.need n → IsSome (D.nodes n) → M n
  m-need n h = m-named n (append_left (put_nodes ++ N.need ++ group_nodes ++ target_nodes) clear_nodes n (append_left (put_nodes ++ N.need ++ group_nodes) target_nodes n (append_left (put_nodes ++ N.need) group_nodes n (append_right put_nodes N.need n h))))

  m-group : (g : Group) → Has N.groups g → IsSome (D.nodes g.node) → M g.node
  m-group g h = m-named g.node (append_left (put_nodes ++ N.need ++ group_nodes ++ target_nodes) clear_nodes g.node (append_left (put_nodes ++ N.need ++ group_nodes) target_nodes g.node (append_right (put_nodes ++ N.need) group_nodes g.node (map-has (λ (g : Group). g.node) N.groups g h))))

  m-target : (n r : NodeId) (c : CellId) → Has N.put (put_to n (To.Cell c)) → D.row_of c ≡ Some r → IsSome (D.nodes r) → M r
  m-target n r c h e = m-named r (append_left (put_nodes ++ N.need ++ group_nodes ++ target_nodes) clear_nodes r (append_right (put_nodes ++ N.need ++ group_nodes) target_nodes r (has-filter_map (λ (p : Put). option_and_then D.row_of (cell_of p.to)) N.put (put_to n (To.Cell c)) r h e)))

  m-clear : (f : FieldId) → Has N.clear f → IsSome (D.nodes f.node) → M f.node
  m-clear f h = m-named f.node (append_right (put_nodes ++ N.need ++ group_nodes ++ target_nodes) clear_nodes f.node (map-has (λ (f : FieldId). f.node) N.clear f h))

  -- a node that is found and doesn't stay
  m-moved : (f : Found) → Has L.found f → is_stay f.how ≡ false → M f.node
  m-moved f i e = let p = moved-put f i e in m-put f.node p.0 p.1 (found_there D C x o f.node (map-has (λ (f : Found). f.node) L.found f i))

  row-cell : (r : RowMarks) (c : CellId) (n : NodeId) (b : Bool) → Has (content D r.node) (record { cell = c; node = n; full = b }) → D.row_of c ≡ Some r.node
  row-cell r c n b h =
      let q = has-map (slot D) (D.rows r.node) (record { cell = c; node = n; full = b }) h in
      (x.one_row c r.node).1 (q.0.node, subst (λ d. Has (D.rows r.node) (owned_cell d q.0.node)) (ap (λ (s : Slot). s.cell) q.2) q.1)

  -- how a listed row mentions its node, where a node that stays in it does
  row-mentions : (r : RowMarks) → Has C.rows r → IsSome (D.nodes r.node)
      → ((n : NodeId) → IsFound L n → above D n ≡ Some r.node → Has (staying_nodes (in_rows found_in C.rows ++ (flat_map kept_at C.regs ++ found_loose C.loose))) n → M n) → M r.node
  row-mentions r i known stay = let t = any-has tells (spread r.marks) (all-has (λ (r : RowMarks). IsTrue (list_any tells (spread r.marks))) C.rows r w.common.tells i) in by t.0 t.1 t.2
    where
      by : (y : CellMark) → Has (spread r.marks) y → tells y ≡ true → M r.node
      by Counted j e = cc
      by (Gap c) j e = cc
      by (Touch c n h) j e = elim (stay-leave h) [
        | inl s ↦ m-up n r.node (stay n (is-found n h (found-row r c n h i j)) up
            (has-staying (in_rows found_in C.rows ++ (flat_map kept_at C.regs ++ found_loose C.loose)) (record { node = n; how = h })
            (append_left (in_rows found_in C.rows) (flat_map kept_at C.regs ++ found_loose C.loose) (record { node = n; how = h }) (flat_map-has (λ (r : RowMarks). found_in (spread r.marks)) C.rows r (record { node = n; how = h }) i (has-found_in (spread r.marks) c n h j))) s)) up
        | inr b ↦ m-up n r.node (m-moved (record { node = n; how = h }) (found-row r c n h i j) (elim b [ inl q ↦ ap is_stay q | inr q ↦ ap is_stay q ])) up
      ]
        where
          up : above D n ≡ Some r.node
          up = ap node_of (touch_place D C x o r c n h i j)
      by (Make c n b) j e = let g = row_made r.node (content D r.node) (spread r.marks) c n b (o.rows r i) j in
          subst M g.2 (m-group g.0 (flat_map-has (groups_of D) C.rows r g.0 i g.1) (subst (λ m. IsSome (D.nodes m)) (sym g.2) known))
      by (Fill c n) j e = m-target n r.node c (put-row r (put_to n (To.Cell c)) i (fill-put (spread r.marks) c n j)) (row-cell r c n false (filled (content D r.node) (spread r.marks) c n (o.rows r i) j)) known

  reg-mentions : (r : RegMark) → Has C.regs r → IsSome (D.nodes r.field.node)
      → ((n : NodeId) → IsFound L n → above D n ≡ Some r.field.node → Has (staying_nodes (in_rows found_in C.rows ++ (flat_map kept_at C.regs ++ found_loose C.loose))) n → M n) → M r.field.node
  reg-mentions r i known stay = by r.clear refl (all-has (λ (r : RegMark). IsTrue r.clear ⊎ IsSome r.held) C.regs r w.registers_tell i)
    where
      by : (b : Bool) → r.clear ≡ b → IsTrue r.clear ⊎ IsSome r.held → M r.field.node
      by true e h = m-clear r.field (flat_map-has cleared_at C.regs r r.field i (subst (λ b. Has (cond b (r.field ∷ []) []) r.field) (sym e) (inl refl))) known
      by false e (inl h) = absurd (true-false h e)
      by false e (inr h) = occupant r.held refl h
        where
          occupant : (q : Option NodeId) → r.held ≡ q → IsSome r.held → M r.field.node
          occupant None f h = absurd (let bad = rw f at h in let z : ◌≡◌ {A = Bool} false true = bad in cc)
          occupant (Some n) f h = elim (stay-leave r.how) [
            | inl s ↦ m-up n r.field.node (stay n (is-found n r.how (found-reg r n i f)) up
                (has-staying (in_rows found_in C.rows ++ (flat_map kept_at C.regs ++ found_loose C.loose)) (record { node = n; how = r.how })
                (append_right (in_rows found_in C.rows) (flat_map kept_at C.regs ++ found_loose C.loose) (record { node = n; how = r.how }) (append_left (flat_map kept_at C.regs) (found_loose C.loose) (record { node = n; how = r.how })
                (flat_map-has kept_at C.regs r (record { node = n; how = r.how }) i (subst (λ b. Has (cond b [] (found_held r.held r.how)) (record { node = n; how = r.how })) (sym e) (is-found_held r.held n r.how f))))) s)) up
            | inr b ↦ m-up n r.field.node (m-moved (record { node = n; how = r.how }) (found-reg r n i f) (elim b [ inl q ↦ ap is_stay q | inr q ↦ ap is_stay q ])) up
          ]
            where
              up : above D n ≡ Some r.field.node
              up = ap node_of (held_place D C x o r n i f)

  by-field : (n : NodeId) → Has (fields_of L) n → IsSome (D.nodes n) → ((m : NodeId) → IsFound L m → above D m ≡ Some n → Has (staying_nodes (in_rows found_in C.rows ++ (flat_map kept_at C.regs ++ found_loose C.loose))) m → M m) → M n
  by-field n h known stay = elim (has-append (map (λ (r : RowMarks). r.node) C.rows) (map (λ (f : FieldId). f.node) L.registers) n h) [
    | inl i ↦ (let r = has-map (λ (r : RowMarks). r.node) C.rows n i in subst M r.2 (row-mentions r.0 r.1 (subst (λ m. IsSome (D.nodes m)) (sym r.2) known) (λ m f e s. stay m f (e ∙ ap (λ m. Some m) r.2) s)))
    | inr i ↦ (let f = has-map (λ (f : FieldId). f.node) L.registers n i in let r = has-map (λ (r : RegMark). r.field) C.regs f.0 f.1 in
        let same : r.0.field.node ≡ n = ap (λ (f : FieldId). f.node) r.2 ∙ f.2 in
        subst M same (reg-mentions r.0 r.1 (subst (λ m. IsSome (D.nodes m)) (sym same) known) (λ m g e s. stay m g (e ∙ ap (λ m. Some m) same) s)))
  ]

  -- a node with a listed field, where climbs to it from found nodes have fewer than k steps
  field-mentions : (k : ℕ) (n : NodeId) → ((m : NodeId) (i : ℕ) → IsFound L m → climb (above D) i m ≡ Some n → i < k) → Has (fields_of L) n → IsSome (D.nodes n) → M n
  field-mentions zero n short h known = by-field n h known (λ m f e s. absurd (let l = short m 1 f (ap (option_and_then (climb (above D) 0)) e) in omega (arith, l)))
  field-mentions (suc k) n short h known = by-field n h known (λ m f e s. elim (all-has (λ (n : NodeId). Has C.need n ⊎ HasListedField L n) (staying_nodes (in_rows found_in C.rows ++ (flat_map kept_at C.regs ++ found_loose C.loose))) m w.mentioned s) [
    | inl a ↦ m-need m a (found_there D C x o m f)
    | inr a ↦ field-mentions k m (λ q i g c. let l = short q (suc i) g (climb_more (above D) i q m n c e) in omega (arith, l)) a (found_there D C x o m f)
  ])

  bound : (fs : List Found) → (k : ℕ) × ((f : Found) (i : ℕ) (n : NodeId) → Has fs f → climb (above D) i f.node ≡ Some n → i < k)
  bound [] = (0, λ f i n h e. absurd h)
  bound (g ∷ fs) =
      let r = bound fs in let e = x.no_ring g.node in (
        r.0 + e.0,
        λ f i n h c. elim h [
          | inl q ↦ (let l = climb_lt (above D) e.0 i g.node n e.1 (ap (λ (f : Found). climb (above D) i f.node) q ∙ c) in omega (arith, l))
          | inr j ↦ (let l = r.1 f i n j c in omega (arith, l))
        ],
      )

  m-field : (n : NodeId) → Has (fields_of L) n → IsSome (D.nodes n) → M n
  m-field n h known = let b = bound L.found in field-mentions b.0 n (λ m i f c. let g = has-map (λ (f : Found). f.node) L.found m f in b.1 g.0 i n g.1 (ap (climb (above D) i) g.2 ∙ c)) h known

  pub known-need : (n : NodeId) → Has C.need n → IsSome (D.nodes n)
  known-need n h = elim (all-has (λ (n : NodeId). (n ≡ root) ⊎ IsFound L n) C.need n w.needed h) [
    | inl e ↦ subst (λ m. IsSome (D.nodes m)) (sym e) x.root_known
    | inr f ↦ found_there D C x o n f
  ]

  pub known-field : (n : NodeId) → Has (fields_of L) n → (Has (nodes_new C.new) n → ⊥) → IsSome (D.nodes n)
  known-field n h old = elim (all-has (λ (n : NodeId). (n ≡ root) ⊎ Has L.new n ⊎ IsFound L n) (fields_of L) n w.common.fields_found h) [
    | inl e ↦ subst (λ m. IsSome (D.nodes m)) (sym e) x.root_known
    | inr a ↦ elim a [ inl i ↦ absurd (old i) | inr f ↦ found_there D C x o n f ]
  ]

  pub mentions-meant : (n : NodeId) → mentions C n ≡ true → M n
  mentions-meant n e = elim (or-cases (is_among (moving_nodes L.found) n) _ e) [
    | inl a ↦ (let f = moving-has L.found n ((among_has (moving_nodes L.found) n).0 a) in subst M f.2 (m-moved f.0 f.1 f.3))
    | inr b ↦ elim (or-cases (is_among C.need n) _ b) [
      | inl a ↦ (let h = (among_has C.need n).0 a in m-need n h (known-need n h))
      | inr c ↦ (let d = and-true (is_among (fields_of L) n) _ c in
          let h = (among_has (fields_of L) n).0 d.0 in
          m-field n h (known-field n h (λ i. not-true (is_among (nodes_new C.new) n) d.1 ((among_has (nodes_new C.new) n).1 i))))
    ]
  ]

  -- ## And nothing else

  old-known : (n : NodeId) → IsSome (D.nodes n) → Has (nodes_new C.new) n → ⊥
  old-known n k h = let e = o.new_nodes n h in let bad : ◌≡◌ {A = Bool} false true = rw e at k in cc

  pub listed-field : (n : NodeId) → Has (fields_of L) n → IsSome (D.nodes n) → mentions C n ≡ true
  listed-field n h k = or-right (is_among (moving_nodes L.found) n) _ (or-right (is_among C.need n) _ (and-both (is_among (fields_of L) n) _ ((among_has (fields_of L) n).1 h) (not-false (is_among (nodes_new C.new) n) (λ e. old-known n k ((among_has (nodes_new C.new) n).0 e)))))

  pub listed-moved : (n : NodeId) → Has (moving_nodes L.found) n → mentions C n ≡ true
  listed-moved n h = or-left (is_among (moving_nodes L.found) n) _ ((among_has (moving_nodes L.found) n).1 h)

  -- who is mentioned is the root, or found
  pub mentions-found : (n : NodeId) → mentions C n ≡ true → (n ≡ root) ⊎ IsFound L n
  mentions-found n e = elim (or-cases (is_among (moving_nodes L.found) n) _ e) [
    | inl a ↦ (let f = moving-has L.found n ((among_has (moving_nodes L.found) n).0 a) in inr (subst (IsFound L) f.2 (map-has (λ (f : Found). f.node) L.found f.0 f.1)))
    | inr b ↦ elim (or-cases (is_among C.need n) _ b) [
      | inl a ↦ all-has (λ (n : NodeId). (n ≡ root) ⊎ IsFound L n) C.need n w.needed ((among_has C.need n).0 a)
      | inr c ↦ (let d = and-true (is_among (fields_of L) n) _ c in elim (all-has (λ (n : NodeId). (n ≡ root) ⊎ Has L.new n ⊎ IsFound L n) (fields_of L) n w.common.fields_found ((among_has (fields_of L) n).0 d.0)) [
        | inl q ↦ inl q
        | inr a ↦ elim a [ inl i ↦ absurd (not-true (is_among (nodes_new C.new) n) d.1 ((among_has (nodes_new C.new) n).1 i)) | inr f ↦ inr f ]
      ])
    ]
  ]

  listed-up : (n p : NodeId) → mentions C n ≡ true → above D n ≡ Some p → mentions C p ≡ true
  listed-up n p e f = elim (mentions-found n e) [
    | inl q ↦ (let bad : None ≡ Some p = sym (ap node_of (ap D.place q ∙ x.root_nowhere)) ∙ f in cc)
    | inr i ↦ listed-field p (found_above D C x o n p i f) (above_known D x n p f)
  ]

  listed-climb : (k : ℕ) (s n : NodeId) → mentions C s ≡ true → climb (above D) k s ≡ Some n → mentions C n ≡ true
  listed-climb zero s n e f = let q : s ≡ n = cc in subst (λ m. mentions C m ≡ true) q e
  listed-climb (suc k) s n e f = go (above D s) refl (λ p a b. listed-climb k p n a b)
    where
      go : (q : Option NodeId) → above D s ≡ q → ((p : NodeId) → mentions C p ≡ true → climb (above D) k p ≡ Some n → mentions C n ≡ true) → mentions C n ≡ true
      go None q rest = let bad : None ≡ Some n = ap (option_and_then (climb (above D) k)) (sym q) ∙ f in cc
      go (Some p) q rest = rest p (listed-up s p e q) (ap (option_and_then (climb (above D) k)) (sym q) ∙ f)

  group-row : (g : Group) → Has N.groups g → (r : RowMarks) × Has C.rows r × (g.node ≡ r.node)
  group-row g h =
      let r = has-flat_map (groups_of D) C.rows g h in (
        r.0,
        r.1,
        elim (has-append (group_of r.0.node None (made_first (spread r.0.marks))) (groups_along r.0.node (along (content D r.0.node) (spread r.0.marks))) g r.2) [
          | inl i ↦ of_group r.0.node None (made_first (spread r.0.marks)) i
          | inr i ↦ (let t = has-flat_map (λ (t : Along). group_of r.0.node (Some t.slot.cell) t.made) (along (content D r.0.node) (spread r.0.marks)) g i in of_group r.0.node (Some t.0.slot.cell) t.0.made t.2)
        ],
      )
    where
      of_group : (n : NodeId) (a : Option CellId) (os : List Owned) → Has (group_of n a os) g → g.node ≡ n
      of_group n a [] h = absurd h
      of_group n a (p ∷ os) (inl e) = ap (λ (g : Group). g.node) (sym e)
      of_group n a (p ∷ os) (inr h) = absurd h

  some-one : {a b : NodeId} → ◌≡◌ {A = Option NodeId} (Some a) (Some b) → a ≡ b
  some-one q = cc

  -- a put into a cell that is there is into a listed row
  target-row : (p : Put) (c : CellId) (n : NodeId) → Has N.put p → cell_of p.to ≡ Some c → D.row_of c ≡ Some n → Has (fields_of L) n
  target-row p c n h e f = elim (put-cases p h) [
    | inl (r, i, j) ↦ (let q = row_put-has (spread r.marks) p j in let same : q.0 ≡ c = some-cell (ap cell_of (sym q.1) ∙ e) in
        elim q.2 [
          | inl a ↦ at r i (row-cell r q.0 p.node true (touched (content D r.node) (spread r.marks) q.0 p.node Here (o.rows r i) a)) same
          | inr b ↦ elim b [
            | inl a ↦ (let bad : None ≡ Some n = sym (o.new_cells q.0 (flat_map-has (λ (r : RowMarks). Rattle.st_marks.specs.Listings.cells_made (spread r.marks)) C.rows r q.0 i (made-cell (spread r.marks) q.0 p.node true a))) ∙ ap D.row_of same ∙ f in cc)
            | inr a ↦ at r i (row-cell r q.0 p.node false (filled (content D r.node) (spread r.marks) q.0 p.node (o.rows r i) a)) same
          ]
        ])
    | inr a ↦ absurd (elim a [
      | inl (r, i, j) ↦ elim (has-append (map (λ n. put_to n (To.Register r.field)) (one_or_none r.fill)) (cond (is_here r.how) (map (λ n. put_to n (To.Register r.field)) (one_or_none r.held)) []) p j) [
        | inl k ↦ (let m = has-map (λ n. put_to n (To.Register r.field)) (one_or_none r.fill) p k in register-not r.field (ap (λ (p : Put). cell_of p.to) m.2 ∙ e))
        | inr k ↦ set r (is_here r.how) k
      ]
      | inr b ↦ elim b [
        | inl (l, i, j) ↦ nowhere l (is_here l.how) j
        | inr (m, i, q) ↦ nowhere-not (ap (λ (p : Put). cell_of p.to) (sym q) ∙ e)
      ]
    ])
  ]
    where
      some-cell : {a b : CellId} → ◌≡◌ {A = Option CellId} (Some a) (Some b) → a ≡ b
      some-cell q = cc

      register-not : (g : FieldId) → cell_of (To.Register g) ≡ Some c → ⊥
      register-not g q = cc

      nowhere-not : cell_of To.Nowhere ≡ Some c → ⊥
      nowhere-not q = cc

      set : (r : RegMark) (b : Bool) → Has (cond b (map (λ n. put_to n (To.Register r.field)) (one_or_none r.held)) []) p → ⊥
      set r false k = k
      set r true k = let m = has-map (λ n. put_to n (To.Register r.field)) (one_or_none r.held) p k in register-not r.field (ap (λ (p : Put). cell_of p.to) m.2 ∙ e)

      nowhere : (l : Loose) (b : Bool) → Has (cond b (put_to l.node To.Nowhere ∷ []) []) p → ⊥
      nowhere l false k = k
      nowhere l true (inl q) = nowhere-not (ap (λ (p : Put). cell_of p.to) q ∙ e)
      nowhere l true (inr k) = k

      at : (r : RowMarks) → Has C.rows r → {d : CellId} → D.row_of d ≡ Some r.node → d ≡ c → Has (fields_of L) n
      at r i q same = subst (Has (fields_of L)) (some-one (sym q ∙ ap D.row_of same ∙ f)) (Rattle.st_puts.proofs.FoundPlaces.row_field-has D C x o r i)

      made-cell : (ms : List CellMark) (d : CellId) (m : NodeId) (b : Bool) → Has ms (Make d m b) → Has (Rattle.st_marks.specs.Listings.cells_made ms) d
      made-cell [] d m b i = absurd i
      made-cell (Counted ∷ ms) d m b (inl q) = cc
      made-cell (Counted ∷ ms) d m b (inr i) = made-cell ms d m b i
      made-cell (Gap a ∷ ms) d m b (inl q) = cc
      made-cell (Gap a ∷ ms) d m b (inr i) = made-cell ms d m b i
      made-cell (Touch a k g ∷ ms) d m b (inl q) = cc
      made-cell (Touch a k g ∷ ms) d m b (inr i) = made-cell ms d m b i
      made-cell (Make a k g ∷ ms) d m b (inl q) = let y : a ≡ d = cc in inl y
      made-cell (Make a k g ∷ ms) d m b (inr i) = inr (made-cell ms d m b i)
      made-cell (Fill a k ∷ ms) d m b (inl q) = cc
      made-cell (Fill a k ∷ ms) d m b (inr i) = made-cell ms d m b i

  clear-row : (f : FieldId) → Has N.clear f → Has (fields_of L) f.node
  clear-row f h = let r = has-flat_map cleared_at C.regs f h in go r.0 r.1 r.0.clear r.2
    where
      go : (r : RegMark) → Has C.regs r → (b : Bool) → Has (cond b (r.field ∷ []) []) f → Has (fields_of L) f.node
      go r i false k = absurd k
      go r i true (inl q) = subst (λ (f : FieldId). Has (fields_of L) f.node) q (Rattle.st_puts.proofs.FoundPlaces.reg_field-has D C x o r i)
      go r i true (inr k) = absurd k

  listed-named : (s : NodeId) → Has (named_by_intent D N) s → IsSome (D.nodes s) → mentions C s ≡ true
  listed-named s h k = elim (has-append (put_nodes ++ N.need ++ group_nodes ++ target_nodes) clear_nodes s h) [
    | inr i ↦ (let f = has-map (λ (f : FieldId). f.node) N.clear s i in listed-field s (subst (Has (fields_of L)) f.2 (clear-row f.0 f.1)) k)
    | inl a ↦ elim (has-append (put_nodes ++ N.need ++ group_nodes) target_nodes s a) [
      | inr i ↦ (let p = filter-from (λ (p : Put). option_and_then D.row_of (cell_of p.to)) N.put s i in listed-field s (target p.0 p.1 (cell_of p.0.to) refl p.2) k)
      | inl b ↦ elim (has-append (put_nodes ++ N.need) group_nodes s b) [
        | inr i ↦ (let g = has-map (λ (g : Group). g.node) N.groups s i in let r = group-row g.0 g.1 in
            listed-field s (subst (Has (fields_of L)) (sym r.2 ∙ g.2) (Rattle.st_puts.proofs.FoundPlaces.row_field-has D C x o r.0 r.1)) k)
        | inl c ↦ elim (has-append put_nodes N.need s c) [
          | inr i ↦ or-right (is_among (moving_nodes L.found) s) _ (or-left (is_among C.need s) _ ((among_has C.need s).1 i))
          | inl i ↦ (let p = has-map (λ (p : Put). p.node) N.put s i in elim (put-moved p.0 p.1) [
            | inl j ↦ absurd (old-known s k (subst (Has (nodes_new C.new)) p.2 j))
            | inr j ↦ listed-moved s (subst (Has (moving_nodes L.found)) p.2 j)
          ])
        ]
      ]
    ]
  ]
    where
      target : (p : Put) → Has N.put p → (q : Option CellId) → cell_of p.to ≡ q → option_and_then D.row_of q ≡ Some s → Has (fields_of L) s
      target p i None e f = cc
      target p i (Some c) e f = target-row p c s i e f

  meant-mentions : (n : NodeId) → M n → mentions C n ≡ true
  meant-mentions n (s, h, k, j, e) = listed-climb j s n (listed-named s h k) e

  -- the set of mentioned nodes is the one that the change lists
  pub mentions-exact : (n : NodeId) → (mentions C n ≡ true) ↔ M n
  mentions-exact n = (mentions-meant n, meant-mentions n)
