-- The puts that a change's marks tell are those of its intent.
use Rattle.std.proofs.Common.{◌≡◌, ◌≢◌, ◌++◌, Bool, true, false, cond, List, [], ◌∷◌, Option, Some, None, IsSome, IsTrue, refl, sym, ap, ◌∙◌, subst, inl, inr}
use Rattle.std.specs.List.{flat_map}
use Rattle.std.specs.Option.{option_or}
use Rattle.st_ids.specs.Listing.{Has}
use Rattle.st_ids.specs.Order.{same_node}
use Rattle.st_ids.proofs.Orders.{same_node-itself}
use Rattle.st_ids.specs.declared.names.CellId.{CellId}
use Rattle.st_ids.specs.declared.names.FieldId.{FieldId}
use Rattle.st_ids.specs.declared.names.NodeId.{NodeId}
use Rattle.st_marks.specs.declared.changes.Change.{Change}
use Rattle.st_marks.specs.declared.intents.Intent.{Intent}
use Rattle.st_marks.specs.declared.intents.Put.{Put}
use Rattle.st_marks.specs.declared.intents.To.{To}
use Rattle.st_marks.specs.declared.marks.How.{How}
use Rattle.st_marks.specs.declared.marks.How.TheVariants.{Stay, Here, Leave}
use Rattle.st_marks.specs.declared.marks.Loose.{Loose}
use Rattle.st_marks.specs.declared.marks.Mark.{Mark}
use Rattle.st_marks.specs.declared.marks.RegMark.{RegMark}
use Rattle.st_marks.specs.declared.marks.RowMarks.{RowMarks}
use Rattle.st_marks.specs.Document.{Document, IsSoundInForm}
use Rattle.st_marks.specs.Embedding.{IsEmbedding}
use Rattle.st_marks.specs.How.{is_here, is_leave, is_stay}
use Rattle.st_marks.specs.Intent.{Fits, is_new, put_in, put_of}
use Rattle.st_marks.specs.Register.{comes_in}
use Rattle.st_marks.specs.Row.{Counted, Fill, Make, Touch, how, spread}
use Rattle.st_marks.proofs.Full.{known_put}
use Rattle.st_marks.proofs.Lookups.{has-put, has-put_in, put-has, put_clears, put_in-has}
use Rattle.st_marks.proofs.Members.{all-has, append_left, append_right, flat_map-has, has-append, has-flat_map}
use Rattle.st_puts.proofs.OverDocuments.{loose-look}
use Rattle.st_puts.proofs.RegisterRules.{fill-put}
use Rattle.st_puts.proofs.StayingNodes.{loose-how}
use Rattle.st_puts.proofs.FoundPlaces.{PlacedAs, as_held, as_loose, as_row}
use Rattle.st_puts.proofs.PutsOfIntents.{is_here-put}
use Rattle.st_puts.specs.declared.puts.Fate.{Fate}
use Rattle.st_puts.specs.inside.First.{first_at}
use Rattle.st_puts.specs.inside.Puts.{comes_by, comes_told, fate_by, goes_by, goes_told, into_nowhere, into_register, leaving, loose_put, row_fate, set_here}
use Rattle.st_puts.proofs.Firsts.{first-is, is-first}
use Rattle.st_puts.proofs.Marks.{from-spread, in-spread}
use Rattle.st_puts.proofs.PutsInMarks.{cleared-listed, held-how, mark-says, mark_of, put-in-cell, put-placed, row-how}

abbrev Pair : Type 0
Pair = NodeId × To

carry : (P : NodeId → To → Type 0) (k n : NodeId) (q p : To) → ◌≡◌ {A = Pair} (k, q) (n, p) → P k q → P n p
carry P k n q p e h = subst (λ (z : Pair). P z.0 z.1) e h

touch-not : (c : CellId) (n : NodeId) (h : How) → Touch c n h ≡ Counted → ⊥
touch-not c n h e = cc

make-not : (c : CellId) (n : NodeId) (b : Bool) → Make c n b ≡ Counted → ⊥
make-not c n b e = cc

fill-not : (c : CellId) (n : NodeId) → Fill c n ≡ Counted → ⊥
fill-not c n e = cc

is-leave : (h : How) → is_leave h ≡ true → h ≡ Leave
is-leave Stay e = cc
is-leave Here e = cc
is-leave Leave e = refl

-- ## Pairs of marks, registers and nodes that are nowhere

comes-cases : (P : NodeId → To → Type 0) (r : RowMarks)
    → ((c : CellId) (n : NodeId) (h : How) → Has (spread r.marks) (Touch c n h) → is_here h ≡ true → P n (To.Cell c))
    → ((c : CellId) (n : NodeId) → Has (spread r.marks) (Make c n true) → P n (To.Cell c))
    → ((c : CellId) (n : NodeId) → Has (spread r.marks) (Fill c n) → P n (To.Cell c))
    → (n : NodeId) (p : To) → Has (row_fate Fate.Comes r) (n, p) → P n p
comes-cases P r touched made filled n p h = let y = has-flat_map (fate_by Fate.Comes) r.marks (n, p) h in go y.0 y.1 y.2
  where
    go : (y : Mark) → Has r.marks y → Has (comes_by y) (n, p) → P n p
    go (Mark.Skip k) i j = absurd j
    go (Mark.Gap c) i j = absurd j
    go (Mark.Touch c k w) i j = by (is_here w) refl j
      where
        by : (b : Bool) → is_here w ≡ b → Has {A = Pair} (cond b ((k, To.Cell c) ∷ []) []) (n, p) → P n p
        by false e q = absurd q
        by true e (inl q) = carry P k n (To.Cell c) p q (touched c k w (in-spread r.marks (Touch c k w) (touch-not c k w) i) e)
        by true e (inr q) = absurd q
    go (Mark.Make c k true) i (inl q) = carry P k n (To.Cell c) p q (made c k (in-spread r.marks (Make c k true) (make-not c k true) i))
    go (Mark.Make c k true) i (inr q) = absurd q
    go (Mark.Make c k false) i j = absurd j
    go (Mark.Fill c k) i (inl q) = carry P k n (To.Cell c) p q (filled c k (in-spread r.marks (Fill c k) (fill-not c k) i))
    go (Mark.Fill c k) i (inr q) = absurd q

goes-cases : (P : NodeId → To → Type 0) (r : RowMarks)
    → ((c : CellId) (n : NodeId) → Has (spread r.marks) (Touch c n Leave) → P n To.Nowhere)
    → (n : NodeId) (p : To) → Has (row_fate Fate.Goes r) (n, p) → P n p
goes-cases P r left n p h = let y = has-flat_map (fate_by Fate.Goes) r.marks (n, p) h in go y.0 y.1 y.2
  where
    go : (y : Mark) → Has r.marks y → Has (goes_by y) (n, p) → P n p
    go (Mark.Skip k) i j = absurd j
    go (Mark.Gap c) i j = absurd j
    go (Mark.Touch c k w) i j = by (is_leave w) refl j
      where
        by : (b : Bool) → is_leave w ≡ b → Has {A = Pair} (cond b ((k, To.Nowhere) ∷ []) []) (n, p) → P n p
        by false e q = absurd q
        by true e (inl q) = carry P k n To.Nowhere p q (left c k (subst (λ h. Has (spread r.marks) (Touch c k h)) (is-leave w e) (in-spread r.marks (Touch c k w) (touch-not c k w) i)))
        by true e (inr q) = absurd q
    go (Mark.Make c k b) i j = absurd j
    go (Mark.Fill c k) i j = absurd j

into-is : (f : FieldId) (o : Option NodeId) (n : NodeId) (t : To) → Has (into_register f o) (n, t) → (o ≡ Some n) × (To.Register f ≡ t)
into-is f None n t h = absurd h
into-is f (Some k) n t (inl q) = (ap (λ (z : Pair). Some z.0) q, ap (λ (z : Pair). z.1) q)
into-is f (Some k) n t (inr q) = absurd q

is-into : (f : FieldId) (o : Option NodeId) (n : NodeId) → o ≡ Some n → Has (into_register f o) (n, To.Register f)
is-into f o n e = subst (λ o. Has (into_register f o) (n, To.Register f)) (sym e) (inl refl)

nowhere-is : (o : Option NodeId) (n : NodeId) (t : To) → Has (into_nowhere o) (n, t) → (o ≡ Some n) × (To.Nowhere ≡ t)
nowhere-is None n t h = absurd h
nowhere-is (Some k) n t (inl q) = (ap (λ (z : Pair). Some z.0) q, ap (λ (z : Pair). z.1) q)
nowhere-is (Some k) n t (inr q) = absurd q

is-nowhere : (o : Option NodeId) (n : NodeId) → o ≡ Some n → Has (into_nowhere o) (n, To.Nowhere)
is-nowhere o n e = subst (λ o. Has (into_nowhere o) (n, To.Nowhere)) (sym e) (inl refl)

guarded : (b : Bool) (o : Option NodeId) (n : NodeId) → cond b o None ≡ Some n → (b ≡ true) × (o ≡ Some n)
guarded true o n e = (refl, e)
guarded false o n e = cc

loose-is : (l : Loose) (n : NodeId) (t : To) → Has (loose_put l) (n, t) → (is_stay l.how ≡ false) × (l.node ≡ n) × (To.Nowhere ≡ t)
loose-is l n t h = go (is_stay l.how) refl h
  where
    go : (b : Bool) → is_stay l.how ≡ b → Has {A = Pair} (cond b [] ((l.node, To.Nowhere) ∷ [])) (n, t) → (is_stay l.how ≡ false) × (l.node ≡ n) × (To.Nowhere ≡ t)
    go true e q = absurd q
    go false e (inl q) = (e, ap (λ (z : Pair). z.0) q, ap (λ (z : Pair). z.1) q)
    go false e (inr q) = absurd q

-- one that isn't put stays
put-moves : (o : Option To) (t : To) (h : How) → how o t ≡ h → is_stay h ≡ false → o ≢ None
put-moves o t h e s n = let q : ◌≡◌ {A = Bool} true false = ap is_stay (ap (λ o. how o t) (sym n) ∙ e) ∙ s in cc

some-to : {a b : To} → ◌≡◌ {A = Option To} (Some a) (Some b) → a ≡ b
some-to {a} e = ap at e
  where
    at : Option To → To
    at None = a
    at (Some z) = z

module _ (D : Document) (N : Intent) (C : Change) (x : IsSoundInForm D) (f : Fits D N) (emb : IsEmbedding D N C) where
  abbrev rows_part : Fate → List Pair
  rows_part w = flat_map (row_fate w) C.rows

  abbrev of_register : RegMark → List Pair
  of_register r = into_register r.field r.fill ++ into_register r.field (set_here r)

  abbrev regs_part : List Pair
  regs_part = flat_map of_register C.regs

  abbrev leaving_part : List Pair
  leaving_part = flat_map (λ (r : RegMark). into_nowhere (leaving r)) C.regs

  -- who is told to be put into a cell or a register is put there
  comes_right : (n : NodeId) (t : To) → Has (comes_told C) (n, t) → put_of N n ≡ Some t
  comes_right n t h = elim (has-append (rows_part Fate.Comes) regs_part (n, t) h) [
    | inl i ↦ (let r = has-flat_map (row_fate Fate.Comes) C.rows (n, t) i in
        comes-cases (λ k q. put_of N k ≡ Some q) r.0
        (λ c k w j e. is_here-put (put_of N k) (To.Cell c) (ap is_here (row-how D N C x f emb r.0 c k w r.1 j) ∙ e))
        (λ c k j. is_here-put (put_of N k) (To.Cell c) (mark-says D N C x f emb r.0 (Make c k true) r.1 j))
        (λ c k j. is_here-put (put_of N k) (To.Cell c) (mark-says D N C x f emb r.0 (Fill c k) r.1 j)) n t r.2)
    | inr i ↦ (let r = has-flat_map of_register C.regs (n, t) i in
        elim (has-append (into_register r.0.field r.0.fill) (into_register r.0.field (set_here r.0)) (n, t) r.2) [
          | inl j ↦ (let q = into-is r.0.field r.0.fill n t j in
              has-put N f.itself (record { node = n; to = To.Register r.0.field }) (put_in-has N r.0.field n (fill-put D N C x f emb r.0 n r.1 q.0).0) ∙ ap (λ t. Some t) q.1)
          | inr j ↦ (let q = into-is r.0.field (set_here r.0) n t j in
              let w = guarded (is_here r.0.how) r.0.held n q.0 in
              is_here-put (put_of N n) (To.Register r.0.field) (ap is_here (held-how D N C x f emb r.0 n r.1 w.1) ∙ w.0) ∙ ap (λ t. Some t) q.1)
        ])
  ]

  -- who is told to go nowhere is put
  goes_right : (n : NodeId) (t : To) → Has (goes_told C) (n, t) → (To.Nowhere ≡ t) × (put_of N n ≢ None)
  goes_right n t h = elim (has-append (rows_part Fate.Goes ++ leaving_part) (flat_map loose_put C.loose) (n, t) h) [
    | inr i ↦ (let l = has-flat_map loose_put C.loose (n, t) i in
        let q = loose-is l.0 n t l.2 in
        (q.2, put-moves (put_of N n) To.Nowhere l.0.how (ap (λ k. how (put_of N k) To.Nowhere) (sym q.1) ∙ loose-how D N C x f emb l.0.node l.0 (loose-look D N C x f emb l.0 l.1)) q.0))
    | inl a ↦ elim (has-append (rows_part Fate.Goes) leaving_part (n, t) a) [
      | inl i ↦ (let r = has-flat_map (row_fate Fate.Goes) C.rows (n, t) i in
          goes-cases (λ k q. (To.Nowhere ≡ q) × (put_of N k ≢ None)) r.0 (λ c k j. (refl, put-moves (put_of N k) (To.Cell c) Leave (row-how D N C x f emb r.0 c k Leave r.1 j) refl)) n t r.2)
      | inr i ↦ (let r = has-flat_map (λ (r : RegMark). into_nowhere (leaving r)) C.regs (n, t) i in
          let q = nowhere-is (leaving r.0) n t r.2 in
          let w = guarded (is_leave r.0.how) r.0.held n q.0 in
          (q.1, put-moves (put_of N n) (To.Register r.0.field) r.0.how (held-how D N C x f emb r.0 n r.1 w.1) (ap is_stay (is-leave r.0.how w.0))))
    ]
  ]

  -- ## All are told

  comes_cell : (n : NodeId) (c : CellId) → put_of N n ≡ Some (To.Cell c) → Has (comes_told C) (n, To.Cell c)
  comes_cell n c e = let q = put-in-cell D N C x f emb n c e in append_left (rows_part Fate.Comes) regs_part (n, To.Cell c) (flat_map-has (row_fate Fate.Comes) C.rows q.0 (n, To.Cell c) q.1 (elim q.2 [
    | inl t ↦ flat_map-has (fate_by Fate.Comes) q.0.marks (Mark.Touch c n Here) (n, To.Cell c) (from-spread q.0.marks (Touch c n Here) (touch-not c n Here) t) (inl refl)
    | inr w ↦ elim w [
      | inl t ↦ flat_map-has (fate_by Fate.Comes) q.0.marks (Mark.Fill c n) (n, To.Cell c) (from-spread q.0.marks (Fill c n) (fill-not c n) t) (inl refl)
      | inr t ↦ flat_map-has (fate_by Fate.Comes) q.0.marks (Mark.Make c n true) (n, To.Cell c) (from-spread q.0.marks (Make c n true) (make-not c n true) t) (inl refl)
    ]
  ]))

  comes_register : (n : NodeId) (k : FieldId) → put_of N n ≡ Some (To.Register k) → Has (comes_told C) (n, To.Register k)
  comes_register n k e =
      let p = put-has N n (To.Register k) e in
      let i = cleared-listed D N C x f emb k (put_clears N f.itself n k p) in
      append_right (rows_part Fate.Comes) regs_part (n, To.Register k) (flat_map-has of_register C.regs (mark_of D N C x f emb k) (n, To.Register k) i (in_it (D.held k) refl (has-put_in N f.itself n k p)))
    where
      in_it : (o : Option NodeId) → D.held k ≡ o → put_in N k ≡ Some n → Has (of_register (mark_of D N C x f emb k)) (n, To.Register k)
      in_it None q fill = append_left (into_register k (comes_in (D.held k) (put_in N k))) (into_register k (set_here (mark_of D N C x f emb k))) (n, To.Register k)
          (is-into k (comes_in (D.held k) (put_in N k)) n (λ i. comes_in (q i) (fill i)))
      in_it (Some m) q fill = decide (same_node m n) refl
        where
          decide : (b : Bool) → same_node m n ≡ b → Has (of_register (mark_of D N C x f emb k)) (n, To.Register k)
          decide false g = append_left (into_register k (comes_in (D.held k) (put_in N k))) (into_register k (set_here (mark_of D N C x f emb k))) (n, To.Register k)
              (is-into k (comes_in (D.held k) (put_in N k)) n ((λ i. comes_in (q i) (fill i)) ∙ ap (λ b. cond b None (Some n)) g))
          decide true g =
              let same = Rattle.st_ids.proofs.Orders.same_node-true m n g in
              let held : D.held k ≡ Some n = q ∙ ap (λ m. Some m) same in
              let i = cleared-listed D N C x f emb k (put_clears N f.itself n k (put-has N n (To.Register k) e)) in
              let here : is_here (mark_of D N C x f emb k).how ≡ true = ap is_here (sym (held-how D N C x f emb (mark_of D N C x f emb k) n i held) ∙ Rattle.st_puts.proofs.PutsOfIntents.put-is_here (put_of N n) (To.Register k) e) in
              append_right (into_register k (comes_in (D.held k) (put_in N k))) (into_register k (set_here (mark_of D N C x f emb k))) (n, To.Register k)
              (is-into k (set_here (mark_of D N C x f emb k)) n ((λ i. cond (here i) (D.held k) None) ∙ held))

  goes_nowhere : (n : NodeId) → put_of N n ≡ Some To.Nowhere → Has (goes_told C) (n, To.Nowhere)
  goes_nowhere n e = let h = put-placed D N C x f emb n To.Nowhere e old in at h.0 h.1
    where
      old : IsSome (D.nodes n)
      old = elim (known_put D N f n To.Nowhere e).0 [
        | inl new ↦ absurd (all-has (λ (p : Put). IsTrue (is_new N p.node) → p.to ≢ To.Nowhere) N.put (record { node = n; to = To.Nowhere }) f.itself.new_somewhere (put-has N n To.Nowhere e) new refl)
        | inr k ↦ k
      ]

      at : (h : How) → PlacedAs D C n h → Has (goes_told C) (n, To.Nowhere)
      at h (as_row r c i j p) =
          let leaves : Leave ≡ h = sym (ap (λ o. how o (To.Cell c)) e) ∙ row-how D N C x f emb r c n h i j in
          append_left (rows_part Fate.Goes ++ leaving_part) (flat_map loose_put C.loose) (n, To.Nowhere) (append_left (rows_part Fate.Goes) leaving_part (n, To.Nowhere)
          (flat_map-has (row_fate Fate.Goes) C.rows r (n, To.Nowhere) i (flat_map-has (fate_by Fate.Goes) r.marks (Mark.Touch c n Leave) (n, To.Nowhere)
          (from-spread r.marks (Touch c n Leave) (touch-not c n Leave) (subst (λ h. Has (spread r.marks) (Touch c n h)) (sym leaves) j)) (inl refl))))
      at h (as_held r i g q p) =
          let leaves : Leave ≡ r.how = sym (ap (λ o. how o (To.Register r.field)) e) ∙ held-how D N C x f emb r n i g in
          append_left (rows_part Fate.Goes ++ leaving_part) (flat_map loose_put C.loose) (n, To.Nowhere) (append_right (rows_part Fate.Goes) leaving_part (n, To.Nowhere)
          (flat_map-has (λ (r : RegMark). into_nowhere (leaving r)) C.regs r (n, To.Nowhere) i (is-nowhere (leaving r) n (ap (λ h. cond (is_leave h) r.held None) (sym leaves) ∙ g))))
      at h (as_loose l i g q p k) = append_right (rows_part Fate.Goes ++ leaving_part) (flat_map loose_put C.loose) (n, To.Nowhere)
          (flat_map-has loose_put C.loose l (n, To.Nowhere) i
          (subst (λ (b : Bool). Has {A = Pair} (cond b [] ((l.node, To.Nowhere) ∷ [])) (n, To.Nowhere))
          (sym (ap is_stay (sym (loose-how D N C x f emb l.node l (loose-look D N C x f emb l i)) ∙ ap (λ k. how (put_of N k) To.Nowhere) g ∙ ap (λ o. how o To.Nowhere) e)))
          (inl (λ z. (g z, To.Nowhere)))))

  -- the first that is told is the put
  pub puts_exact : (n : NodeId) → option_or (first_at (comes_told C) n) (first_at (goes_told C) n) ≡ put_of N n
  puts_exact n = go (first_at (comes_told C) n) refl (first_at (goes_told C) n) refl (put_of N n) refl
    where
      not-both : (a : Option To) (t : To) → a ≡ Some t → a ≡ None → ⊥
      not-both a t e g = let q : ◌≡◌ {A = Option To} (Some t) None = sym e ∙ g in cc

      go : (a : Option To) → first_at (comes_told C) n ≡ a → (b : Option To) → first_at (goes_told C) n ≡ b → (o : Option To) → put_of N n ≡ o → option_or a b ≡ o
      go (Some t) e b g o h = sym (comes_right n t (first-is (comes_told C) n t e)) ∙ h
      go None e (Some t) g None h = absurd ((goes_right n t (first-is (goes_told C) n t g)).1 h)
      go None e (Some t) g (Some To.Nowhere) h = ap (λ t. Some t) (sym (goes_right n t (first-is (goes_told C) n t g)).0)
      go None e b g (Some (To.Cell c)) h = let k = is-first (comes_told C) n (To.Cell c) (comes_cell n c h) in absurd (not-both (first_at (comes_told C) n) k.0 k.1 e)
      go None e b g (Some (To.Register r)) h = let k = is-first (comes_told C) n (To.Register r) (comes_register n r h) in absurd (not-both (first_at (comes_told C) n) k.0 k.1 e)
      go None e None g None h = refl
      go None e None g (Some To.Nowhere) h = let k = is-first (goes_told C) n To.Nowhere (goes_nowhere n h) in absurd (not-both (first_at (goes_told C) n) k.0 k.1 g)
