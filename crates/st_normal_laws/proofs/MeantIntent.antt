-- The intent of a change that obeys the rules, over a document in which it finds what is so, obeys the rules on intents and fits.
use Rattle.std.proofs.Common.{◌≡◌, ◌≢◌, ◌↔◌, ◌++◌, ℕ, suc, Bool, true, false, not, ◌&&◌, List, [], ◌∷◌, map, length, Option, Some, None, IsSome, IsTrue, IfSome, cond, refl, sym, ap, ◌∙◌, subst, inl, inr, ◌⊎◌, option_map, option_and_then}
use Rattle.std.specs.List.{AllByRecursion, filter_map, flat_map}
use Rattle.std.specs.Option.{option_or}
use Rattle.st_ids.specs.Listing.{AreDistinct, Has}
use Rattle.st_ids.specs.Order.{node_cmp, field_cmp, same_field}
use Rattle.st_ids.proofs.Orders.{node_cmp_exact, node_cmp_total, field_cmp_exact, field_cmp_total, same_field-true, same_field-itself}
use Rattle.st_ids.specs.declared.names.CellId.{CellId}
use Rattle.st_ids.specs.declared.names.FieldId.{FieldId}
use Rattle.st_ids.specs.declared.names.NodeId.{NodeId}
use Rattle.st_marks.specs.declared.changes.Change.{Change}
use Rattle.st_marks.specs.declared.intents.Group.{Group}
use Rattle.st_marks.specs.declared.intents.Intent.{Intent}
use Rattle.st_marks.specs.declared.intents.Owned.{Owned}
use Rattle.st_marks.specs.declared.intents.Put.{Put}
use Rattle.st_marks.specs.declared.intents.To.{To}
use Rattle.st_normal.specs.declared.entries.Found.{Found}
use Rattle.st_marks.specs.declared.marks.How.TheVariants.{Stay, Here}
use Rattle.st_marks.specs.declared.marks.Loose.{Loose}
use Rattle.st_marks.specs.declared.marks.RegMark.{RegMark}
use Rattle.st_marks.specs.declared.marks.RowMarks.{RowMarks}
use Rattle.st_marks.specs.declared.places.Slot.{Slot}
use Rattle.st_marks.specs.declared.places.Spot.{Spot}
use Rattle.st_marks.specs.Agree.{LeadsUp}
use Rattle.st_marks.specs.Agree.LeadsUp.{one_up, further_up}
use Rattle.st_marks.specs.Document.{Document, IsSoundInForm, ClimbsToAnEnd, climb, content, node_of, owned_cell, slot}
use Rattle.st_ids.specs.Root.{root}
use Rattle.st_marks.specs.Intent.{Fits, IsIntent, IsKnown, Owns, above_new, cell_of, clears, group_cells, is_new, new_row_of, put_of, put_under, register_of}
use Rattle.st_normal.specs.inside.Ring.{AreListed}
use Rattle.st_marks.specs.Row.{CellMark, Counted, Gap, Touch, Make, Fill, spread}
use Rattle.st_marks.specs.How.{is_here, is_leave}
use Rattle.st_normal.specs.Rules.{IsFound, IsNewInNew, Entries, ObeysDataRules, fields_of, found_at, found_in, found_loose, in_rows, entries_of_change}
use Rattle.st_marks.specs.Listings.{Places, placed_in_row, placed_in_register, cells_after, cells_made, held_after, nodes_new, one_or_none, listing_after_change, registers_after}
use Rattle.st_normal.proofs.AboveItself.{no_ring-leads_up, too_long}
use Rattle.st_ids.proofs.Listings.{has-item_of}
use Rattle.st_marks.proofs.Lookups.{put-has, group-new_row_of}
use Rattle.st_marks.proofs.Members.{all-has, has-all, append_left, append_right, has-append, map-has, has-map, flat_map-has, has-flat_map, any-has, has-any, distinct-has}
use Rattle.st_normal.proofs.ShownPlaces.{stands-after}
use Rattle.st_puts.specs.Meant.{IsOver, cleared_at, leaving_nodes, meant_intent, put_to, reg_puts}
use Rattle.st_puts.proofs.FoundPlaces.{touched, filled, found_there, row_field-has, reg_field-has}
use Rattle.st_puts.proofs.MentionsOfIntents.{leaving-has, row_put-has}
use Rattle.st_puts.proofs.MentionsListed.{put-cases, put-moved, known-need}
use Rattle.st_puts.proofs.PutsOfIntents.{put_once, put-is, cell-put, one_mark}
use Rattle.st_puts.proofs.Groups.{start_once, group-cases}
use Rattle.st_normal.specs.inside.Links.{stands_after}
use Rattle.st_puts.proofs.MeaningFits.{rows_once, regs_once, new_once, new-is, is-new, found-old, moving-found, group-nonempty, group-cell, cell-made, make-made, made_all, once-filter_map, cell_once, anchor_once, anchor-row, new_row-none, make-owner, made-new, made-all, group-cells}
use Rattle.st_puts.proofs.Basics.{one-is}
use Rattle.st_rows.proofs.RowRebases.{is-here}
use Rattle.st_ids.proofs.Shared.{filtered}

make-stands : (ms : List CellMark) (c : CellId) (n : NodeId) → Has ms (Make c n true) → Has (stands_after ms) n
make-stands [] c n k = absurd k
make-stands (Counted ∷ ms) c n (inl q) = cc
make-stands (Counted ∷ ms) c n (inr k) = make-stands ms c n k
make-stands (Gap d ∷ ms) c n (inl q) = cc
make-stands (Gap d ∷ ms) c n (inr k) = make-stands ms c n k
make-stands (Touch d m h ∷ ms) c n (inl q) = cc
make-stands (Touch d m h ∷ ms) c n (inr k) = elim (is_leave h) as (λ b. Has (cond b [] (m ∷ []) ++ stands_after ms) n) [ true ↦ make-stands ms c n k | false ↦ inr (make-stands ms c n k) ]
make-stands (Make d m b ∷ ms) c n (inl q) = let z : m ≡ n = cc in let e : b ≡ true = cc in subst (λ b. Has (cond b (m ∷ []) [] ++ stands_after ms) n) (sym e) (inl z)
make-stands (Make d m b ∷ ms) c n (inr k) = elim b as (λ b. Has (cond b (m ∷ []) [] ++ stands_after ms) n) [ true ↦ inr (make-stands ms c n k) | false ↦ make-stands ms c n k ]
make-stands (Fill d m ∷ ms) c n (inl q) = cc
make-stands (Fill d m ∷ ms) c n (inr k) = inr (make-stands ms c n k)

module _ (D : Document) (C : Change) (x : IsSoundInForm D) (w : ObeysDataRules C) (o : IsOver D C) (plain : C.schema ≡ None) where
  abbrev L : Entries
  L = entries_of_change C

  abbrev N : Intent
  N = meant_intent D C

  -- ## Registers

  pub reg-put : (n : NodeId) (f : FieldId) → Has N.put (put_to n (To.Register f)) → (r : RegMark) × Has C.regs r × (r.field ≡ f) × ((r.fill ≡ Some n) ⊎ ((r.how ≡ Here) × (r.held ≡ Some n)))
  reg-put n f h = elim (put-cases D C x w o (put_to n (To.Register f)) h) [
    | inl (r, i, j) ↦ (let q = row_put-has (spread r.marks) (put_to n (To.Register f)) j in absurd (not-cell q.0 q.1))
    | inr a ↦ elim a [
      | inl (r, i, j) ↦ (let a = of_reg r j in (r, i, a.0, a.1))
      | inr b ↦ absurd (elim b [
        | inl (l, i, j) ↦ nowhere l (is_here l.how) j
        | inr (m, i, q) ↦ not-nowhere (ap (λ (p : Put). p.to) (sym q))
      ])
    ]
  ]
    where
      not-cell : (c : CellId) → To.Register f ≡ To.Cell c → ⊥
      not-cell c q = cc

      not-nowhere : To.Nowhere ≡ To.Register f → ⊥
      not-nowhere q = cc

      same-register : (g h : FieldId) → To.Register g ≡ To.Register h → g ≡ h
      same-register g h q = cc

      set : (r : RegMark) (b : Bool) → is_here r.how ≡ b → Has (cond b (map (λ n. put_to n (To.Register r.field)) (one_or_none r.held)) []) (put_to n (To.Register f)) → (r.field ≡ f) × ((r.fill ≡ Some n) ⊎ ((r.how ≡ Here) × (r.held ≡ Some n)))
      set r false e k = absurd k
      set r true e k = let m = has-map (λ n. put_to n (To.Register r.field)) (one_or_none r.held) (put_to n (To.Register f)) k in
          (same-register r.field f (ap (λ (p : Put). p.to) m.2), inr (is-here r.how e, one-is r.held n (subst (λ y. Has (one_or_none r.held) y) (ap (λ (p : Put). p.node) m.2) m.1)))

      of_reg : (r : RegMark) → Has (reg_puts r) (put_to n (To.Register f)) → (r.field ≡ f) × ((r.fill ≡ Some n) ⊎ ((r.how ≡ Here) × (r.held ≡ Some n)))
      of_reg r j = elim (has-append (map (λ n. put_to n (To.Register r.field)) (one_or_none r.fill)) (cond (is_here r.how) (map (λ n. put_to n (To.Register r.field)) (one_or_none r.held)) []) (put_to n (To.Register f)) j) [
        | inl k ↦ (let m = has-map (λ n. put_to n (To.Register r.field)) (one_or_none r.fill) (put_to n (To.Register f)) k in
            (same-register r.field f (ap (λ (p : Put). p.to) m.2), inl (one-is r.fill n (subst (λ y. Has (one_or_none r.fill) y) (ap (λ (p : Put). p.node) m.2) m.1))))
        | inr k ↦ set r (is_here r.how) refl k
      ]

      nowhere : (l : Loose) (b : Bool) → Has (cond b (put_to l.node To.Nowhere ∷ []) []) (put_to n (To.Register f)) → ⊥
      nowhere l false k = k
      nowhere l true (inl q) = not-nowhere (ap (λ (p : Put). p.to) q)
      nowhere l true (inr k) = k

  pub clear-is : (r : RegMark) → Has C.regs r → r.clear ≡ true → clears N r.field ≡ true
  clear-is r i e = has-any (λ g. same_field g r.field) N.clear r.field (flat_map-has cleared_at C.regs r r.field i (subst (λ b. Has (cond b (r.field ∷ []) []) r.field) (sym e) (inl refl))) (same_field-itself r.field)

  pub cleared-has : (f : FieldId) → Has N.clear f → (r : RegMark) × Has C.regs r × (r.clear ≡ true) × (r.field ≡ f)
  cleared-has f h = let r = has-flat_map cleared_at C.regs f h in let a = go r.0 r.0.clear refl r.2 in (r.0, r.1, a.0, a.1)
    where
      go : (r : RegMark) (b : Bool) → r.clear ≡ b → Has (cond b (r.field ∷ []) []) f → (r.clear ≡ true) × (r.field ≡ f)
      go r false e k = absurd k
      go r true e (inl q) = (e, q)
      go r true e (inr k) = absurd k

  pub is-clear : (f : FieldId) → clears N f ≡ true → (r : RegMark) × Has C.regs r × (r.clear ≡ true) × (r.field ≡ f)
  is-clear f e = let g = any-has (λ g. same_field g f) N.clear e in let r = cleared-has g.0 g.1 in (r.0, r.1, r.2, r.3 ∙ same_field-true g.0 f g.2)

  pub put-clear : (r : RegMark) (n : NodeId) → Has C.regs r → (r.fill ≡ Some n) ⊎ ((r.how ≡ Here) × (r.held ≡ Some n)) → r.clear ≡ true
  put-clear r n i h = all-has (λ (r : RegMark). IsSome r.fill ⊎ (r.how ≡ Here) → IsTrue r.clear) C.regs r w.cleared i (elim h [ inl e ↦ inl (rw e refl) | inr e ↦ inr e.0 ])

  -- one node is put into a register
  pub one_in : (f : FieldId) (n m : NodeId) → Has N.put (put_to n (To.Register f)) → Has N.put (put_to m (To.Register f)) → n ≡ m
  one_in f n m h i =
      let r = reg-put n f h in let q = reg-put m f i in
      let same = distinct-has (λ (r : RegMark). r.field) C.regs q.0 r.0 (regs_once D C x w o plain) q.1 r.1 (q.2 ∙ sym r.2) in
      go r.0 r.1 r.3 (subst (λ (r : RegMark). (r.fill ≡ Some m) ⊎ ((r.how ≡ Here) × (r.held ≡ Some m))) same q.3)
    where
      some-node : {a b : NodeId} → ◌≡◌ {A = Option NodeId} (Some a) (Some b) → a ≡ b
      some-node q = cc

      apart : (r : RegMark) (k : NodeId) → Has C.regs r → r.fill ≡ Some k → r.how ≡ Here → ⊥
      apart r k i e h = let z = (all-has (λ (r : RegMark). (r.held ≡ None → r.how ≡ Stay) × (IsSome r.fill → r.fill ≢ r.held) × (r.how ≡ Here → r.fill ≡ None)) C.regs r w.registers_fit i).2 h in let bad : None ≡ Some k = sym z ∙ e in cc

      go : (r : RegMark) → Has C.regs r → (r.fill ≡ Some n) ⊎ ((r.how ≡ Here) × (r.held ≡ Some n)) → (r.fill ≡ Some m) ⊎ ((r.how ≡ Here) × (r.held ≡ Some m)) → n ≡ m
      go r i (inl e) (inl f) = some-node (sym e ∙ f)
      go r i (inl e) (inr f) = absurd (apart r n i e f.0)
      go r i (inr e) (inl f) = absurd (apart r m i f e.0)
      go r i (inr e) (inr f) = some-node (sym e.1 ∙ f.1)

  -- ## In itself

  not-put-root : put_of N root ≡ None
  not-put-root = go (put_of N root) refl
    where
      go : (q : Option To) → put_of N root ≡ q → q ≡ None
      go None e = refl
      go (Some t) e = absurd (elim (put-moved D C x w o (put_to root t) (put-has N root t e)) [
        | inl i ↦ (all-has (λ (n : NodeId). (n ≢ root) × (IsFound L n → ⊥)) L.new root w.common.new_not_found i).0 refl
        | inr i ↦ w.common.root_stays.0 (moving-found D C x w o plain root i)
      ])

  same-mark : (r q : RowMarks) (c : CellId) (n m : NodeId) → Has C.rows r → Has C.rows q
      → (Has (spread r.marks) (Touch c n Here) ⊎ Has (spread r.marks) (Make c n true) ⊎ Has (spread r.marks) (Fill c n))
      → (Has (spread q.marks) (Touch c m Here) ⊎ Has (spread q.marks) (Make c m true) ⊎ Has (spread q.marks) (Fill c m)) → n ≡ m
  same-mark r q c n m i j (inl a) (inl b) = let e = (one_mark D C x w o r q (Touch c n Here) (Touch c m Here) c i j a b refl refl).1 in cc
  same-mark r q c n m i j (inl a) (inr (inl b)) = let e = (one_mark D C x w o r q (Touch c n Here) (Make c m true) c i j a b refl refl).1 in cc
  same-mark r q c n m i j (inl a) (inr (inr b)) = let e = (one_mark D C x w o r q (Touch c n Here) (Fill c m) c i j a b refl refl).1 in cc
  same-mark r q c n m i j (inr (inl a)) (inl b) = let e = (one_mark D C x w o r q (Make c n true) (Touch c m Here) c i j a b refl refl).1 in cc
  same-mark r q c n m i j (inr (inl a)) (inr (inl b)) = let e = (one_mark D C x w o r q (Make c n true) (Make c m true) c i j a b refl refl).1 in cc
  same-mark r q c n m i j (inr (inl a)) (inr (inr b)) = let e = (one_mark D C x w o r q (Make c n true) (Fill c m) c i j a b refl refl).1 in cc
  same-mark r q c n m i j (inr (inr a)) (inl b) = let e = (one_mark D C x w o r q (Fill c n) (Touch c m Here) c i j a b refl refl).1 in cc
  same-mark r q c n m i j (inr (inr a)) (inr (inl b)) = let e = (one_mark D C x w o r q (Fill c n) (Make c m true) c i j a b refl refl).1 in cc
  same-mark r q c n m i j (inr (inr a)) (inr (inr b)) = let e = (one_mark D C x w o r q (Fill c n) (Fill c m) c i j a b refl refl).1 in cc

  cell-is : (t : To) (c : CellId) → cell_of t ≡ Some c → t ≡ To.Cell c
  cell-is To.Nowhere c e = cc
  cell-is (To.Cell d) c e = let q : d ≡ c = cc in ap (λ c. To.Cell c) q
  cell-is (To.Register f) c e = cc

  register-is : (t : To) (f : FieldId) → register_of t ≡ Some f → t ≡ To.Register f
  register-is To.Nowhere f e = cc
  register-is (To.Cell d) f e = cc
  register-is (To.Register g) f e = let q : g ≡ f = cc in ap (λ f. To.Register f) q

  as-put : (p : Put) (t : To) → Has N.put p → p.to ≡ t → Has N.put (put_to p.node t)
  as-put p t h e = subst (Has N.put) (λ i. put_to p.node (e i)) h

  no_cell_twice : AreDistinct (λ c. c) (filter_map (λ (p : Put). cell_of p.to) N.put)
  no_cell_twice = once-filter_map (λ (p : Put). cell_of p.to) (λ (p : Put). p.node) N.put (put_once D C x w o)
      (λ p q c h i e f. let a = cell-put D C x w o p.node c (put-is D C x w o p.node (To.Cell c) (as-put p (To.Cell c) h (cell-is p.to c e))) in
      let b = cell-put D C x w o q.node c (put-is D C x w o q.node (To.Cell c) (as-put q (To.Cell c) i (cell-is q.to c f))) in
      same-mark b.0 a.0 c q.node p.node b.1 a.1 b.2 a.2)

  no_register_twice : AreDistinct (λ f. f) (filter_map (λ (p : Put). register_of p.to) N.put)
  no_register_twice = once-filter_map (λ (p : Put). register_of p.to) (λ (p : Put). p.node) N.put (put_once D C x w o)
      (λ p q c h i e f. one_in c q.node p.node (as-put q (To.Register c) i (register-is q.to c f)) (as-put p (To.Register c) h (register-is p.to c e)))

  new_somewhere : (p : Put) → Has N.put p → IsTrue (is_new N p.node) → p.to ≢ To.Nowhere
  new_somewhere p h n e = elim (put-cases D C x w o p h) [
    | inl (r, i, j) ↦ (let q = row_put-has (spread r.marks) p j in not-cell q.0 (sym q.1 ∙ e))
    | inr a ↦ elim a [
      | inl (r, i, j) ↦ elim (has-append (map (λ n. put_to n (To.Register r.field)) (one_or_none r.fill)) (cond (is_here r.how) (map (λ n. put_to n (To.Register r.field)) (one_or_none r.held)) []) p j) [
        | inl k ↦ (let m = has-map (λ n. put_to n (To.Register r.field)) (one_or_none r.fill) p k in not-register r.field (ap (λ (p : Put). p.to) m.2 ∙ e))
        | inr k ↦ set r (is_here r.how) k
      ]
      | inr b ↦ elim b [
        | inl (l, i, j) ↦ loose l i (is_here l.how) j
        | inr (m, i, q) ↦ old (leaving-found m (filtered (λ n. not (Rattle.st_marks.specs.Embedding.is_among L.put n)) (leaving_nodes L.found) m i).0 (ap (λ (p : Put). p.node) (sym q)))
      ]
    ]
  ]
    where
      not-cell : (c : CellId) → To.Cell c ≡ To.Nowhere → ⊥
      not-cell c q = cc

      not-register : (f : FieldId) → To.Register f ≡ To.Nowhere → ⊥
      not-register f q = cc

      old : IsFound L p.node → ⊥
      old f = found-old D C x w o plain p.node f (is-new D C x w o plain p.node n)

      leaving-found : (m : NodeId) → Has (leaving_nodes L.found) m → m ≡ p.node → IsFound L p.node
      leaving-found m i s = let f = leaving-has L.found m i in subst (IsFound L) (f.2 ∙ s) (map-has (λ (f : Found). f.node) L.found f.0 f.1)

      set : (r : RegMark) (b : Bool) → Has (cond b (map (λ n. put_to n (To.Register r.field)) (one_or_none r.held)) []) p → ⊥
      set r false k = k
      set r true k = let m = has-map (λ n. put_to n (To.Register r.field)) (one_or_none r.held) p k in not-register r.field (ap (λ (p : Put). p.to) m.2 ∙ e)

      found-loose : (l : Loose) → Has C.loose l → IsFound L l.node
      found-loose l i = map-has (λ (f : Found). f.node) L.found (record { node = l.node; how = l.how }) (append_right (in_rows found_in C.rows) (flat_map found_at C.regs ++ found_loose C.loose) (record { node = l.node; how = l.how })
          (append_right (flat_map found_at C.regs) (found_loose C.loose) (record { node = l.node; how = l.how }) (map-has (λ (l : Loose). let f : Found = record { node = l.node; how = l.how } in f) C.loose l i)))

      loose : (l : Loose) → Has C.loose l → (b : Bool) → Has (cond b (put_to l.node To.Nowhere ∷ []) []) p → ⊥
      loose l i false k = k
      loose l i true (inl q) = old (subst (IsFound L) (ap (λ (p : Put). p.node) q) (found-loose l i))
      loose l i true (inr k) = k

  cleared : (p : Put) → Has N.put p → IfSome (register_of p.to) (λ f. IsTrue (clears N f))
  cleared p h = go (register_of p.to) refl
    where
      go : (q : Option FieldId) → register_of p.to ≡ q → IfSome q (λ f. IsTrue (clears N f))
      go None e = tt
      go (Some f) e = let r = reg-put p.node f (as-put p (To.Register f) h (register-is p.to f e)) in subst (λ f. clears N f ≡ true) r.2 (clear-is r.0 r.1 (put-clear r.0 p.node r.1 r.3))

  need_old : (n : NodeId) → Has C.need n → is_new N n ≡ false
  need_old n h = go (is_new N n) refl
    where
      go : (b : Bool) → is_new N n ≡ b → b ≡ false
      go false e = refl
      go true e = absurd (elim (all-has (λ (n : NodeId). (n ≡ root) ⊎ IsFound L n) C.need n w.needed h) [
        | inl q ↦ (all-has (λ (n : NodeId). (n ≢ root) × (IsFound L n → ⊥)) L.new n w.common.new_not_found (is-new D C x w o plain n e)).0 q
        | inr f ↦ found-old D C x w o plain n f (is-new D C x w o plain n e)
      ])

  -- ## New nodes form no ring

  row-after : (r : RowMarks) → Has C.rows r → (listing_after_change C).row r.node ≡ Some (cells_after (spread r.marks))
  row-after r i = ap (λ q. option_or (option_map (λ (r : RowMarks). cells_after (spread r.marks)) q) (cond (Rattle.st_marks.specs.Embedding.is_among (nodes_new C.new) r.node) (Some []) None)) (has-item_of node_cmp node_cmp_total node_cmp_exact (λ (r : RowMarks). r.node) C.rows r w.rising.rows i)

  reg-after : (r : RegMark) → Has C.regs r → (listing_after_change C).register r.field ≡ Some (held_after r)
  reg-after r i = ap (λ q. registers_after (option_map held_after q) C.new r.field) (has-item_of field_cmp field_cmp_total field_cmp_exact (λ (r : RegMark). r.field) C.regs r w.rising.regs i)

  some-node : {a b : NodeId} → ◌≡◌ {A = Option NodeId} (Some a) (Some b) → a ≡ b
  some-node q = cc

  under-says : (n p : NodeId) (q : Option To) → put_of N n ≡ q → put_under N q ≡ Some p → Has (nodes_new C.new) n → (s : Spot) × Places (listing_after_change C) n s × (node_of s ≡ Some p)
  under-says n p None e f h = cc
  under-says n p (Some To.Nowhere) e f h = cc
  under-says n p (Some (To.Cell c)) e f h =
      let g = group-new_row_of N c p f in
      let r = group-cell D C x w o plain g.0 g.3.0 g.1 g.3.1 in
      let q = cell-put D C x w o n c e in
      made q.0 q.1 q.2 r.0 r.1 r.2 g.3.0.node (subst (λ c. Has (spread r.0.marks) (Make c g.3.0.node r.1)) g.3.2 r.3) (sym r.4 ∙ g.2)
    where
      by : (r : RowMarks) → Has C.rows r → r.node ≡ p → Has (spread r.marks) (Make c n true) → (s : Spot) × Places (listing_after_change C) n s × (node_of s ≡ Some p)
      by r i t m = let a = stands-after (spread r.marks) n (make-stands (spread r.marks) c n m) in
          (Spot.Row r.node a.1, placed_in_row r.node n a.1 (cells_after (spread r.marks)) a.0 (row-after r i) a.2, ap (λ n. Some n) t)

      not-touch : {d : CellId} {m : NodeId} {b : Bool} → Touch c n Here ≡ Make d m b → ⊥
      not-touch e = cc

      not-fill : {d : CellId} {m : NodeId} {b : Bool} → Fill c n ≡ Make d m b → ⊥
      not-fill e = cc

      made : (q : RowMarks) → Has C.rows q → (Has (spread q.marks) (Touch c n Here) ⊎ Has (spread q.marks) (Make c n true) ⊎ Has (spread q.marks) (Fill c n))
          → (r : RowMarks) (b : Bool) → Has C.rows r → (m : NodeId) → Has (spread r.marks) (Make c m b) → r.node ≡ p → (s : Spot) × Places (listing_after_change C) n s × (node_of s ≡ Some p)
      made q i (inl a) r b j m k t = absurd (not-touch (one_mark D C x w o q r (Touch c n Here) (Make c m b) c i j a k refl refl).1)
      made q i (inr (inl a)) r b j m k t = by q i (ap (λ (r : RowMarks). r.node) (one_mark D C x w o q r (Make c n true) (Make c m b) c i j a k refl refl).0 ∙ t) a
      made q i (inr (inr a)) r b j m k t = absurd (not-fill (one_mark D C x w o q r (Fill c n) (Make c m b) c i j a k refl refl).1)
  under-says n p (Some (To.Register f)) e g h =
      let r = reg-put n f (put-has N n (To.Register f) e) in
      (Spot.Register f, placed_in_register f n (subst (λ f. (listing_after_change C).register f ≡ Some (held_after r.0)) r.2 (reg-after r.0 r.1) ∙ ap (λ q. Some q) (held r.0 r.1 r.3)), g)
    where
      held : (r : RegMark) → Has C.regs r → (r.fill ≡ Some n) ⊎ ((r.how ≡ Here) × (r.held ≡ Some n)) → held_after r ≡ Some n
      held r i (inl e) = ap (λ q. option_or q (cond (is_leave r.how) None (cond (Rattle.std.specs.Prelude.◌&&◌ r.clear (not (is_here r.how))) None r.held))) e
      held r i (inr e) = absurd (found-old D C x w o plain n (map-has (λ (f : Found). f.node) L.found (record { node = n; how = r.how })
          (append_right (in_rows found_in C.rows) (flat_map found_at C.regs ++ found_loose C.loose) (record { node = n; how = r.how })
          (append_left (flat_map found_at C.regs) (found_loose C.loose) (record { node = n; how = r.how }) (flat_map-has found_at C.regs r (record { node = n; how = r.how }) i (Rattle.st_puts.proofs.FoundPlaces.is-found_held r.held n r.how e.1))))) h)

  new-above : (n p : NodeId) → above_new N n ≡ Some p → Has (nodes_new C.new) n × Has (nodes_new C.new) p × ((s : Spot) × Places (listing_after_change C) n s × (node_of s ≡ Some p))
  new-above n p e = one (is_new N n) refl e
    where
      only : (b : Bool) (q : NodeId) → is_new N q ≡ b → cond b (Some q) None ≡ Some p → (q ≡ p) × (is_new N q ≡ true)
      only true q f g = (some-node g, f)
      only false q f g = cc

      two : (q : Option NodeId) → put_under N (put_of N n) ≡ q → option_and_then (λ p. cond (is_new N p) (Some p) None) q ≡ Some p → (put_under N (put_of N n) ≡ Some p) × (is_new N p ≡ true)
      two None f g = cc
      two (Some q) f g = let r = only (is_new N q) q refl g in (f ∙ ap (λ q. Some q) r.0, ap (is_new N) (sym r.0) ∙ r.1)

      one : (b : Bool) → is_new N n ≡ b → cond b (option_and_then (λ p. cond (is_new N p) (Some p) None) (put_under N (put_of N n))) None ≡ Some p → Has (nodes_new C.new) n × Has (nodes_new C.new) p × ((s : Spot) × Places (listing_after_change C) n s × (node_of s ≡ Some p))
      one false f g = cc
      one true f g = let r = two (put_under N (put_of N n)) refl g in let h = is-new D C x w o plain n f in (h, is-new D C x w o plain p r.1, under-says n p (put_of N n) refl r.0 h)

  abbrev IsUnder : NodeId → Spot → Type 0
  IsUnder n s = above_new N n ≡ node_of s

  under-iff : (n p : NodeId) → (above_new N n ≡ Some p) ↔ ((s : Spot) × IsUnder n s × (node_of s ≡ Some p))
  under-iff n p = (λ e. (Spot.Register (record { node = p; key = record { 0 = [] } }), e, refl), λ (s, a, e). a ∙ e)

  one-new : (n p : NodeId) → above_new N n ≡ Some p → (s : Spot) × IsNewInNew C n s × (node_of s ≡ Some p)
  one-new n p e = let r = new-above n p e in (r.2.0, (r.0, subst (λ o. IfSome o (Has (nodes_new C.new))) (sym r.2.2) r.1, r.2.1), r.2.2)

  leads-new : (n m : NodeId) → LeadsUp IsUnder n m → LeadsUp (IsNewInNew C) n m
  leads-new n m (one_up s a e) = let r = one-new n m (a ∙ e) in one_up r.0 r.1 r.2
  leads-new n m (further_up {p = p} s a e l) = let r = one-new n p (a ∙ e) in further_up r.0 r.1 r.2 (leads-new p m l)

  new-ends : (n : NodeId) → ClimbsToAnEnd (above_new N) n
  new-ends n = go (climb (above_new N) (suc (length (nodes_new C.new))) n) refl
    where
      listed : AreListed (above_new N) (nodes_new C.new)
      listed q p e = (new-above q p e).0

      go : (q : Option NodeId) → climb (above_new N) (suc (length (nodes_new C.new))) n ≡ q → ClimbsToAnEnd (above_new N) n
      go None e = (suc (length (nodes_new C.new)), e)
      go (Some m) e = absurd ((no_ring-leads_up IsUnder (above_new N) under-iff).1 (λ k l. w.no_new_ring k (leads-new k k l)) (too_long (above_new N) (nodes_new C.new) listed n m e))

  pub meant_is_intent : IsIntent N
  meant_is_intent = record {
    new_rev = w.revision.0;
    new_once = new_once D C x w o plain;
    cell_rev = has-all (λ (p : Owned). p.cell.0.rev ≡ C.rev) (group_cells N) (λ p h. let r = cell-made D C x w o plain p h in
        all-has (λ (c : CellId). c.0.rev ≡ C.rev) (in_rows cells_made C.rows) p.cell w.revision.1 (flat_map-has (λ (r : RowMarks). cells_made (spread r.marks)) C.rows r.0 p.cell r.2 (make-made (spread r.0.marks) p.cell p.node r.1 r.3)));
    cell_once = cell_once D C x w o plain;
    group_some = has-all (λ (g : Group). g.cells ≢ []) N.groups (λ g h. group-nonempty D C x w o plain g h);
    start_once = start_once D C x w o (rows_once D C x w o plain);
    anchor_once = anchor_once D C x w o plain;
    anchor_old = has-all (λ (g : Group). IfSome g.after (λ c. new_row_of N c ≡ None)) N.groups (λ g h. anchor-old g h g.after refl);
    owners = has-all (λ (p : Owned). IsTrue (is_new N p.node) ⊎ IsSome (put_of N p.node)) (group_cells N) (λ p h. let r = cell-made D C x w o plain p h in make-owner D C x w o plain r.0 p.cell p.node r.1 r.2 r.3);
    root_stays = not-put-root;
    put_once = put_once D C x w o;
    no_cell_twice = no_cell_twice;
    no_register_twice = no_register_twice;
    new_somewhere = has-all (λ (p : Put). IsTrue (is_new N p.node) → p.to ≢ To.Nowhere) N.put new_somewhere;
    cleared = has-all (λ (p : Put). IfSome (register_of p.to) (λ f. IsTrue (clears N f))) N.put cleared;
    register_keys = has-all (λ (f : FieldId). f.key.0 ≢ []) N.clear (λ f h. let r = cleared-has f h in all-has (λ (f : FieldId). f.key.0 ≢ []) L.registers f w.common.keys (subst (Has L.registers) r.3 (map-has (λ (r : RegMark). r.field) C.regs r.0 r.1)));
    need_old = has-all (λ n. is_new N n ≡ false) N.need need_old;
    no_ring = new-ends;
    schema_alone = subst (λ (s : Option (List ℕ)). IfSome s (λ _. (N.new ≡ []) × (N.groups ≡ []) × (N.clear ≡ []) × (N.put ≡ []) × (N.need ≡ []))) (sym plain) tt;
  }
    where
      anchor-old : (g : Group) → Has N.groups g → (q : Option CellId) → g.after ≡ q → IfSome q (λ c. new_row_of N c ≡ None)
      anchor-old g h None e = tt
      anchor-old g h (Some c) e = new_row-none D C x w o plain c g.node (anchor-row D C x w o plain g c h e)

  -- ## It fits

  listed-known : (n : NodeId) → Has (fields_of L) n → IsKnown D N n
  listed-known n h = elim (all-has (λ (n : NodeId). (n ≡ root) ⊎ Has L.new n ⊎ IsFound L n) (fields_of L) n w.common.fields_found h) [
    | inl e ↦ inr (subst (λ m. IsSome (D.nodes m)) (sym e) x.root_known)
    | inr a ↦ elim a [ inl i ↦ inl (new-is D C x w o plain n i) | inr f ↦ inr (found_there D C x o n f) ]
  ]

  put-known : (p : Put) → Has N.put p → IsKnown D N p.node
  put-known p h = elim (put-moved D C x w o p h) [ inl i ↦ inl (new-is D C x w o plain p.node i) | inr i ↦ inr (found_there D C x o p.node (moving-found D C x w o plain p.node i)) ]

  known-of : (n : NodeId) → IsTrue (is_new N n) ⊎ IsSome (put_of N n) → IsKnown D N n
  known-of n (inl e) = inl e
  known-of n (inr e) = go (put_of N n) refl e
    where
      go : (q : Option To) → put_of N n ≡ q → IsSome q → IsKnown D N n
      go None f s = cc
      go (Some t) f s = put-known (put_to n t) (put-has N n t f)

  slot-owned : (n : NodeId) (c : CellId) (m : NodeId) (b : Bool) → Has (content D n) (record { cell = c; node = m; full = b }) → Has (D.rows n) (owned_cell c m)
  slot-owned n c m b h = let q = has-map (slot D) (D.rows n) (record { cell = c; node = m; full = b }) h in
      subst (Has (D.rows n)) (λ i. owned_cell (ap (λ (s : Slot). s.cell) q.2 i) (ap (λ (s : Slot). s.node) q.2 i)) q.1

  owns : (n : NodeId) (c : CellId) → Has N.put (put_to n (To.Cell c)) → Owns D N n c
  owns n c h = let r = cell-put D C x w o n c (put-is D C x w o n (To.Cell c) h) in elim r.2 [
    | inl a ↦ inl (r.0.node, slot-owned r.0.node c n true (touched (content D r.0.node) (spread r.0.marks) c n Here (o.rows r.0 r.1) a))
    | inr b ↦ elim b [
      | inl a ↦ inr (subst (λ l. Has l (owned_cell c n)) (sym (group-cells D C x w o plain)) (flat_map-has (λ (r : RowMarks). made_all (spread r.marks)) C.rows r.0 (owned_cell c n) r.1 (made-all (spread r.0.marks) c n true a)))
      | inr a ↦ inl (r.0.node, slot-owned r.0.node c n false (filled (content D r.0.node) (spread r.0.marks) c n (o.rows r.0 r.1) a))
    ]
  ]

  pub meant_fits : Fits D N
  meant_fits = record {
    itself = meant_is_intent;
    fresh_nodes = λ n e. o.new_nodes n (is-new D C x w o plain n e);
    fresh_cells = λ c e. fresh c (new_row_of N c) refl e;
    fresh_schema = subst (λ (s : Option (List ℕ)). IfSome s (λ _. AllByRecursion (λ (e : Rattle.st_marks.specs.declared.schemas.SchemaEntry.SchemaEntry). e.rev ≢ C.rev) D.schemas)) (sym plain) tt;
    groups_known = has-all (λ (g : Group). IsKnown D N g.node × IfSome g.after (λ c. D.row_of c ≡ Some g.node)) N.groups (λ g h. (group-known g h, anchored g h g.after refl));
    owners_known = has-all (λ (p : Owned). IsKnown D N p.node) (group_cells N) (λ p h. let r = cell-made D C x w o plain p h in known-of p.node (make-owner D C x w o plain r.0 p.cell p.node r.1 r.2 r.3));
    puts_known = has-all (λ (p : Put). IsKnown D N p.node × IfSome (cell_of p.to) (Owns D N p.node) × IfSome (register_of p.to) (λ f. IsKnown D N f.node)) N.put
        (λ p h. (put-known p h, cell p h (cell_of p.to) refl, register p h (register_of p.to) refl));
    clears_known = has-all (λ (f : FieldId). IsKnown D N f.node) N.clear (λ f h. let r = cleared-has f h in subst (λ (f : FieldId). IsKnown D N f.node) r.3 (listed-known r.0.field.node (reg_field-has D C x o r.0 r.1)));
    needs_known = has-all (λ n. IsSome (D.nodes n)) N.need (known-need D C x w o);
  }
    where
      fresh : (c : CellId) (q : Option NodeId) → new_row_of N c ≡ q → IsSome q → D.row_of c ≡ None
      fresh c None e s = cc
      fresh c (Some n) e s = let g = group-new_row_of N c n e in let r = group-cell D C x w o plain g.0 g.3.0 g.1 g.3.1 in ap D.row_of (sym g.3.2) ∙ made-new D C x w o plain r.0 g.3.0.cell g.3.0.node r.1 r.2 r.3

      group-known : (g : Group) → Has N.groups g → IsKnown D N g.node
      group-known g h = let r = group-cases D C x w o (rows_once D C x w o plain) g h in
          let same : g.node ≡ r.0.node = elim r.2 [ inl k ↦ ap (λ (g : Group). g.node) k | inr k ↦ ap (λ (g : Group). g.node) k.2 ] in
          subst (IsKnown D N) (sym same) (listed-known r.0.node (row_field-has D C x o r.0 r.1))

      anchored : (g : Group) → Has N.groups g → (q : Option CellId) → g.after ≡ q → IfSome q (λ c. D.row_of c ≡ Some g.node)
      anchored g h None e = tt
      anchored g h (Some c) e = anchor-row D C x w o plain g c h e

      cell : (p : Put) → Has N.put p → (q : Option CellId) → cell_of p.to ≡ q → IfSome q (Owns D N p.node)
      cell p h None e = tt
      cell p h (Some c) e = owns p.node c (as-put p (To.Cell c) h (cell-is p.to c e))

      register : (p : Put) → Has N.put p → (q : Option FieldId) → register_of p.to ≡ q → IfSome q (λ f. IsKnown D N f.node)
      register p h None e = tt
      register p h (Some f) e = let r = reg-put p.node f (as-put p (To.Register f) h (register-is p.to f e)) in subst (λ (f : FieldId). IsKnown D N f.node) r.2 (listed-known r.0.field.node (reg_field-has D C x o r.0 r.1))
