-- What a commit and the document before it say of the way back is the way back.
use Rattle.std.proofs.Common.{◌≡◌, ◌≢◌, Bool, true, false, cond, not, ◌&&◌, [], ◌++◌, Option, Some, None, IsSome, is_some, refl, sym, ap, ◌∙◌, subst, inl, inr, option_map, MatchOption}
use Rattle.std.specs.List.{filter_map, find, list_any}
use Rattle.std.specs.Option.{option_map_or, option_or}
use Rattle.st_ids.specs.Listing.{AreDistinct, Has}
use Rattle.st_ids.specs.Order.{same_cell, same_field, same_node}
use Rattle.st_ids.specs.Root.{root}
use Rattle.st_ids.specs.declared.names.CellId.{CellId}
use Rattle.st_ids.specs.declared.names.FieldId.{FieldId}
use Rattle.st_ids.specs.declared.names.NodeId.{NodeId}
use Rattle.st_ids.proofs.Orders.{same_cell-true, same_cell-itself, same_field-itself, same_node-true, same_node-itself}
use Rattle.st_marks.specs.declared.intents.Group.{Group}
use Rattle.st_marks.specs.declared.intents.Intent.{Intent}
use Rattle.st_marks.specs.declared.intents.Owned.{Owned}
use Rattle.st_marks.specs.declared.intents.Put.{Put}
use Rattle.st_marks.specs.declared.intents.To.{To}
use Rattle.st_marks.specs.declared.places.Spot.{Spot}
use Rattle.st_marks.specs.Back.{is_in, place_back, to_of}
use Rattle.st_marks.specs.CarryOut.{full, with_names, place_after, spot_of, unless_cleared}
use Rattle.st_marks.specs.Document.{Document, IsSoundInForm, node_of, owned_cell}
use Rattle.st_marks.specs.Intent.{Fits, Owns, clears, new_row_of, put_of, register_of}
use Rattle.st_marks.proofs.Climb.{unknown_nowhere}
use Rattle.st_marks.proofs.Full.{HoldsWhatIsPlaced, full_one_held, known_put, known_put_in, put_to_cell, put_to_register}
use Rattle.st_marks.proofs.Lookups.{clears-has, group-new_row_of, has-put, has-put_in, made_there, new_row_of-group, put-has}
use Rattle.st_marks.proofs.Members.{any-has, append_left, append_right, first-distinct, has-any, has-append, has-filter_map}
use Rattle.st_lemmas.proofs.Bools.{and-both, and-true, both-ways-same, not-true, true-false}
use Rattle.st_lemmas.proofs.Options.{IsSome-Some, None-IsSome, one_some}
use Rattle.st_heads.specs.declared.ways.Way.{Way}
use Rattle.st_heads.specs.Remembered.{IsWayBack, intent_of_way}
use Rattle.st_heads.specs.inside.GoingBack.{back_by, back_of_put, entered_field, if_evicted, in_old_row, leads_into_old}
use Rattle.st_marks.specs.Row.{same_to}
use Rattle.st_join.proofs.Picked.{has-picked}
use Rattle.st_heads.proofs.Leading.{way_leads_back}
use Rattle.st_marks.proofs.Shared.{same_to-true, same_to-itself}

-- ## Targets

-- the place that is put to a register is that register
to_register : (t : Spot) (f : FieldId) → to_of t ≡ To.Register f → t ≡ Spot.Register f
to_register Spot.Nowhere f e = cc
to_register (Spot.Row r d) f e = cc
to_register (Spot.Register g) f e = let q : g ≡ f = cc in ap (λ f. Spot.Register f) q

-- who is still in a register after the clears was there before
stayed : (N : Intent) (t : Spot) (g : FieldId) → unless_cleared N t ≡ Spot.Register g → t ≡ Spot.Register g
stayed N Spot.Nowhere g e = cc
stayed N (Spot.Row r c) g e = cc
stayed N (Spot.Register k) g e = elim (clears N k) as (λ b. cond b Spot.Nowhere (Spot.Register k) ≡ Spot.Register g → Spot.Register k ≡ Spot.Register g) [ true ↦ λ e. cc | false ↦ λ e. e ] e

module _ (D : Document) (N : Intent) (s : IsSoundInForm D) (f : Fits D N) where
  abbrev E : Document
  E = full D N

  abbrev made : CellId → Bool
  made = in_old_row D N.groups

  abbrev row_after : CellId → Option NodeId
  row_after = (with_names D N).row_of

  after_held : HoldsWhatIsPlaced E
  after_held = full_one_held D N s.one_held f.itself

  -- the row of an old cell stays
  old_row : (n r : NodeId) (c : CellId) → Has (D.rows r) (owned_cell c n) → row_after c ≡ Some r
  old_row n r c h = let e : D.row_of c ≡ Some r = (s.one_row c r).1 (n, h) in rw e refl

  -- where an old node stands, seen as a put, leads there
  spot_again : (n : NodeId) (t : Spot) → D.place n ≡ t → spot_of row_after (to_of t) ≡ t
  spot_again n Spot.Nowhere e = refl
  spot_again n (Spot.Row r c) e = rw (old_row n r c (s.own_cell n r c e)) refl
  spot_again n (Spot.Register g) e = refl

  -- the cell of a put has a row
  cell_has_row : (n : NodeId) (c : CellId) → Owns D N n c → IsSome (row_after c)
  cell_has_row n c (inl h) = rw (old_row n h.0 c h.1) refl
  cell_has_row n c (inr h) = go (D.row_of c) (made_there N (owned_cell c n) h)
    where
      go : (o : Option NodeId) → IsSome (new_row_of N c) → IsSome (option_or o (new_row_of N c))
      go None i = i
      go (Some r) i = refl

  -- a put that leads where a place is, is the put to that place
  to_again : (n : NodeId) (to : To) (t : Spot) → put_of N n ≡ Some to → spot_of row_after to ≡ t → to ≡ to_of t
  to_again n to (Spot.Row r c) p e = (put_to_cell row_after to r c e).0
  to_again n to (Spot.Register g) p e = put_to_register row_after to g e
  to_again n To.Nowhere Spot.Nowhere p e = refl
  to_again n (To.Register g) Spot.Nowhere p e = cc
  to_again n (To.Cell c) Spot.Nowhere p e = go (row_after c) refl (cell_has_row n c (known_put D N f n (To.Cell c) p).1) e
    where
      go : (o : Option NodeId) → row_after c ≡ o → IsSome (row_after c) → option_map_or (λ r. Spot.Row r c) o Spot.Nowhere ≡ Spot.Nowhere → To.Cell c ≡ To.Nowhere
      go None k i e = absurd (None-IsSome (row_after c) k i)
      go (Some r) k i e = cc

  -- a new node's cell is made, in the row to which its put leads
  made_row : (n : NodeId) (c : CellId) → is_in D n ≡ false → put_of N n ≡ Some (To.Cell c) → (r : NodeId) × (new_row_of N c ≡ Some r) × (row_after c ≡ Some r)
  made_row n c new p = elim (known_put D N f n (To.Cell c) p).1 [
    | inl h ↦ absurd (true-false (s.cells_known h.0 (owned_cell c n) h.1).1 new)
    | inr h ↦ (let i = IsSome-Some (new_row_of N c) (made_there N (owned_cell c n) h) in
        let none : D.row_of c ≡ None = f.fresh_cells c (made_there N (owned_cell c n) h) in
        (i.0, i.1, rw none i.1))
  ]

  old_row_told : (c : CellId) (r : NodeId) → new_row_of N c ≡ Some r → in_old_row D N.groups c ≡ is_in D r
  old_row_told c r e = both-ways-same _ _ there back
    where
      there : in_old_row D N.groups c ≡ true → is_in D r ≡ true
      there h =
          let g = any-has (λ (g : Group). is_in D g.node && list_any (λ (o : Owned). same_cell o.cell c) g.cells) N.groups h in
          let b = and-true _ _ g.2 in
          let o = any-has (λ (o : Owned). same_cell o.cell c) g.0.cells b.1 in
          let at : new_row_of N c ≡ Some g.0.node = ap (new_row_of N) (sym (same_cell-true o.0.cell c o.2)) ∙ new_row_of-group N f.itself g.0 o.0 g.1 o.1 in
          ap (is_in D) (sym (one_some g.0.node r (sym at ∙ e))) ∙ b.0

      back : is_in D r ≡ true → in_old_row D N.groups c ≡ true
      back h =
          let g = group-new_row_of N c r e in
          has-any (λ (g : Group). is_in D g.node && list_any (λ (o : Owned). same_cell o.cell c) g.cells) N.groups g.0 g.1
          (and-both _ _ (ap (is_in D) g.2 ∙ h) (has-any (λ (o : Owned). same_cell o.cell c) g.0.cells g.3.0 g.3.1 (ap (λ d. same_cell d c) g.3.2 ∙ same_cell-itself c)))

  into_old : (n : NodeId) (to : To) → is_in D n ≡ false → put_of N n ≡ Some to → option_map_or (is_in D) (node_of (spot_of row_after to)) false ≡ leads_into_old D made to
  into_old n To.Nowhere new p = refl
  into_old n (To.Register g) new p = refl
  into_old n (To.Cell c) new p = let r = made_row n c new p in rw r.2 (sym (old_row_told c r.0 r.1))

  -- ## Each node goes back to where the way back leads it

  abbrev Leads : NodeId → Option To → Type 0
  Leads n o = MatchOption o (place_back D E n ≡ E.place n) (λ to. (place_back D E n ≢ E.place n) × (to ≡ to_of (place_back D E n)))

  nowhere_apart : (g : FieldId) → Spot.Register g ≢ Spot.Nowhere
  nowhere_apart g e = cc

  -- an old node that isn't put
  old_unput : (n : NodeId) → is_in D n ≡ true → put_of N n ≡ None → Leads n (if_evicted N.clear (D.place n))
  old_unput n old p = go (D.place n) refl
    where
      back : place_back D E n ≡ D.place n
      back = rw old refl

      now : E.place n ≡ unless_cleared N (D.place n)
      now = rw p refl

      go : (t : Spot) → D.place n ≡ t → Leads n (if_evicted N.clear t)
      go Spot.Nowhere e = back ∙ e ∙ sym (now ∙ ap (unless_cleared N) e)
      go (Spot.Row r c) e = back ∙ e ∙ sym (now ∙ ap (unless_cleared N) e)
      go (Spot.Register g) e = pick (clears N g) refl
        where
          pick : (b : Bool) → clears N g ≡ b → Leads n (cond b (Some (To.Register g)) None)
          pick true k =
              let out : E.place n ≡ Spot.Nowhere = now ∙ ap (unless_cleared N) e ∙ ap (λ b. cond b Spot.Nowhere (Spot.Register g)) k in
              (λ same. nowhere_apart g (sym (back ∙ e) ∙ same ∙ out), ap to_of (sym (back ∙ e)))
          pick false k = back ∙ e ∙ sym (now ∙ ap (unless_cleared N) e ∙ ap (λ b. cond b Spot.Nowhere (Spot.Register g)) k)

  -- an old node that is put
  old_put : (n : NodeId) (to : To) → is_in D n ≡ true → put_of N n ≡ Some to → Leads n (back_of_put D made n to)
  old_put n to old p = subst (Leads n) (sym told) (go (same_to to (to_of (D.place n))) refl)
    where
      told : back_of_put D made n to ≡ cond (same_to to (to_of (D.place n))) None (Some (to_of (D.place n)))
      told = rw old refl

      back : place_back D E n ≡ D.place n
      back = rw old refl

      now : E.place n ≡ spot_of row_after to
      now = rw p refl

      go : (b : Bool) → same_to to (to_of (D.place n)) ≡ b → Leads n (cond b None (Some (to_of (D.place n))))
      go true k = back ∙ sym (now ∙ ap (spot_of row_after) (same_to-true to _ k) ∙ spot_again n (D.place n) refl)
      go false k = (
        λ same. let t : to ≡ to_of (D.place n) = to_again n to (D.place n) p (sym now ∙ sym same ∙ back) in
            true-false (ap (λ u. same_to u (to_of (D.place n))) t ∙ same_to-itself (to_of (D.place n))) k,
        ap to_of (sym back),
      )

  -- a node that isn't there yet
  new_unput : (n : NodeId) → is_in D n ≡ false → D.place n ≡ Spot.Nowhere → put_of N n ≡ None → Leads n (if_evicted N.clear (D.place n))
  new_unput n new out p = subst (λ t. Leads n (if_evicted N.clear t)) (sym out) (rw (new, p, out) refl)

  new_put : (n : NodeId) (to : To) → is_in D n ≡ false → put_of N n ≡ Some to → Leads n (back_of_put D made n to)
  new_put n to new p = subst (Leads n) (sym goes) (go (leads_into_old D made to) refl)
    where
      goes : back_of_put D made n to ≡ cond (leads_into_old D made to) (Some To.Nowhere) None
      goes = rw new refl

      now : E.place n ≡ spot_of row_after to
      now = rw p refl

      told : option_map_or (is_in D) (node_of (E.place n)) false ≡ leads_into_old D made to
      told = ap (λ t. option_map_or (is_in D) (node_of t) false) now ∙ into_old n to new p

      not_nowhere : (t : Spot) → option_map_or (is_in D) (node_of t) false ≡ true → t ≢ Spot.Nowhere
      not_nowhere Spot.Nowhere h e = cc
      not_nowhere (Spot.Row r c) h e = cc
      not_nowhere (Spot.Register g) h e = cc

      go : (b : Bool) → leads_into_old D made to ≡ b → Leads n (cond b (Some To.Nowhere) None)
      go true k =
          let inside = told ∙ k in
          let back : place_back D E n ≡ Spot.Nowhere = rw (new, inside) refl in
          (λ same. not_nowhere (E.place n) inside (sym same ∙ back), ap to_of (sym back))
      go false k = rw (new, told ∙ k) refl

  pub leads : (n : NodeId) → Leads n (back_by D made n (put_of N n) (if_evicted N.clear (D.place n)))
  leads n = go (is_in D n) refl (put_of N n) refl
    where
      out : is_in D n ≡ false → D.place n ≡ Spot.Nowhere
      out e = pick (D.nodes n) refl e
        where
          pick : (o : Option _) → D.nodes n ≡ o → is_some o ≡ false → D.place n ≡ Spot.Nowhere
          pick None k e = unknown_nowhere D s n k
          pick (Some t) k e = cc

      go : (b : Bool) → is_in D n ≡ b → (o : Option To) → put_of N n ≡ o → Leads n (back_by D made n o (if_evicted N.clear (D.place n)))
      go true e None p = old_unput n e p
      go true e (Some to) p = old_put n to e p
      go false e None p = new_unput n e (out e) p
      go false e (Some to) p = new_put n to e p

  -- ## Which registers are cleared

  entered-is : (n : NodeId) (to : To) (g : FieldId) → entered_field D n to ≡ Some g → (to ≡ To.Register g) × (is_in D g.node ≡ true) × (same_to (To.Register g) (to_of (D.place n)) ≡ false)
  entered-is n To.Nowhere g e = cc
  entered-is n (To.Cell c) g e = cc
  entered-is n (To.Register h) g e = go (is_in D h.node && not (same_to (To.Register h) (to_of (D.place n)))) refl e
    where
      go : (b : Bool) → (is_in D h.node && not (same_to (To.Register h) (to_of (D.place n)))) ≡ b → cond b (Some h) None ≡ Some g
          → (To.Register h ≡ To.Register g) × (is_in D g.node ≡ true) × (same_to (To.Register g) (to_of (D.place n)) ≡ false)
      go false k e = cc
      go true k e =
          let q : h ≡ g = cc in
          let b = and-true _ _ k in
          (ap (λ h. To.Register h) q, ap (λ (h : FieldId). is_in D h.node) (sym q) ∙ b.0, ap (λ h. same_to (To.Register h) (to_of (D.place n))) (sym q) ∙ not-true _ b.1)

  is-entered : (n : NodeId) (g : FieldId) → is_in D g.node ≡ true → D.place n ≢ Spot.Register g → entered_field D n (To.Register g) ≡ Some g
  is-entered n g old apart = rw (old, apart_to) refl
    where
      apart_to : same_to (To.Register g) (to_of (D.place n)) ≡ false
      apart_to = go (same_to (To.Register g) (to_of (D.place n))) refl
        where
          go : (b : Bool) → same_to (To.Register g) (to_of (D.place n)) ≡ b → same_to (To.Register g) (to_of (D.place n)) ≡ false
          go false k = k
          go true k = absurd (apart (to_register (D.place n) g (sym (same_to-true _ _ k))))

  module _ (w : Way) (once : AreDistinct (λ (q : Put). q.node) w.put)
      (look : (n : NodeId) → option_map (λ (q : Put). q.to) (find (λ (q : Put). same_node q.node n) w.put) ≡ back_by D made n (put_of N n) (if_evicted N.clear (D.place n)))
      (cleared : w.clear ≡ filter_map (λ (q : Put). register_of q.to) w.put ++ filter_map (λ (q : Put). entered_field D q.node q.to) N.put) where
    abbrev put_back_of : NodeId → Option To
    put_back_of n = option_map (λ (q : Put). q.to) (find (λ (q : Put). same_node q.node n) w.put)

    led : (n : NodeId) → Leads n (put_back_of n)
    led n = subst (Leads n) (sym (look n)) (leads n)

    listed : (n : NodeId) (to : To) → put_back_of n ≡ Some to → Has w.put (record { node = n; to = to })
    listed n to e = put-has (intent_of_way w N.rev N.rev) n to e

    -- a node that goes back into a register stood there, and doesn't any more
    goes_into : (q : Put) (g : FieldId) → Has w.put q → register_of q.to ≡ Some g → (D.place q.node ≡ Spot.Register g) × (E.place q.node ≢ Spot.Register g)
    goes_into q g h e = go (place_back D E q.node) refl (is_in D q.node) refl
      where
        found : put_back_of q.node ≡ Some q.to
        found = ap (option_map (λ (q : Put). q.to)) (first-distinct (λ (q : Put). q.node) w.put (λ (r : Put). same_node r.node q.node) q once h (same_node-itself q.node) (λ r e. same_node-true r.node q.node e))

        l : (place_back D E q.node ≢ E.place q.node) × (q.to ≡ to_of (place_back D E q.node))
        l = rw found at (led q.node)

        go : (t : Spot) → place_back D E q.node ≡ t → (b : Bool) → is_in D q.node ≡ b → (D.place q.node ≡ Spot.Register g) × (E.place q.node ≢ Spot.Register g)
        go Spot.Nowhere k b i = let bad : None ≡ Some g = ap register_of (sym (l.1 ∙ ap to_of k)) ∙ e in cc
        go (Spot.Row r c) k b i = let bad : None ≡ Some g = ap register_of (sym (l.1 ∙ ap to_of k)) ∙ e in cc
        go (Spot.Register h) k true i =
            let q0 : Some h ≡ Some g = ap register_of (sym (l.1 ∙ ap to_of k)) ∙ e in
            let q1 : h ≡ g = cc in
            let back : place_back D E q.node ≡ D.place q.node = rw i refl in
            let at : place_back D E q.node ≡ Spot.Register g = k ∙ ap (λ h. Spot.Register h) q1 in
            (sym back ∙ at, λ same. l.0 (at ∙ sym same))
        go (Spot.Register h) k false i = elim (option_map_or (is_in D) (node_of (E.place q.node)) false) as (λ c. option_map_or (is_in D) (node_of (E.place q.node)) false ≡ c → (D.place q.node ≡ Spot.Register g) × (E.place q.node ≢ Spot.Register g)) [
          | true ↦ λ c. (let bad : Spot.Nowhere ≡ Spot.Register h = sym (place_is true c) ∙ k in cc)
          | false ↦ λ c. absurd (l.0 (place_is false c))
        ] refl
          where
            place_is : (c : Bool) → option_map_or (is_in D) (node_of (E.place q.node)) false ≡ c → place_back D E q.node ≡ cond c Spot.Nowhere (E.place q.node)
            place_is c e = rw (i, e) refl

    abbrev Differs : FieldId → Type 0
    Differs g = IsSome (D.nodes g.node) × (D.held g ≢ E.held g)

    from_back : (q : Put) (g : FieldId) → Has w.put q → register_of q.to ≡ Some g → Differs g
    from_back q g h e =
        let i = goes_into q g h e in
        let held : D.held g ≡ Some q.node = (s.one_held q.node g).1 i.0 in
        ((s.held_known q.node g held).1, λ same. i.1 ((after_held q.node g).0 (sym same ∙ held)))

    from_entered : (q : Put) (g : FieldId) → Has N.put q → entered_field D q.node q.to ≡ Some g → Differs g
    from_entered q g h e =
        let i = entered-is q.node q.to g e in
        let at : E.place q.node ≡ Spot.Register g = (let p : put_of N q.node ≡ Some (To.Register g) = has-put N f.itself q h ∙ ap (λ t. Some t) i.0 in rw p refl) in
        let held : E.held g ≡ Some q.node = (after_held q.node g).1 at in (
          i.1,
          λ same. (let stood : D.place q.node ≡ Spot.Register g = (s.one_held q.node g).0 (same ∙ held) in
              true-false (ap (λ t. same_to (To.Register g) (to_of t)) stood ∙ same_field-itself g) i.2),
        )

    clears_differ : (g : FieldId) → clears (intent_of_way w N.rev N.rev) g ≡ true → Differs g
    clears_differ g e = elim (has-append _ _ g (subst (λ gs. Has gs g) cleared (clears-has w.clear g e))) [
      | inl h ↦ (let p = has-picked (λ (q : Put). register_of q.to) w.put g h in from_back p.0 g p.1 p.2)
      | inr h ↦ (let p = has-picked (λ (q : Put). entered_field D q.node q.to) N.put g h in from_entered p.0 g p.1 p.2)
    ]

    clears-listed : (g : FieldId) → Has (filter_map (λ (q : Put). register_of q.to) w.put ++ filter_map (λ (q : Put). entered_field D q.node q.to) N.put) g → clears (intent_of_way w N.rev N.rev) g ≡ true
    clears-listed g h = has-any (λ k. same_field k g) w.clear g (subst (λ gs. Has gs g) (sym cleared) h) (same_field-itself g)

    -- who stood in a register, and doesn't any more, goes back there
    left : (m : NodeId) (g : FieldId) → D.held g ≡ Some m → E.held g ≢ Some m → clears (intent_of_way w N.rev N.rev) g ≡ true
    left m g h apart =
        let stood : D.place m ≡ Spot.Register g = (s.one_held m g).0 h in
        let known : is_in D m ≡ true = (s.held_known m g h).0 in
        let back : place_back D E m ≡ Spot.Register g = (let b : place_back D E m ≡ D.place m = rw known refl in b ∙ stood) in
        go (put_back_of m) refl (led m) back (λ same. apart ((after_held m g).1 (sym same ∙ back)))
      where
        go : (o : Option To) → put_back_of m ≡ o → Leads m o → place_back D E m ≡ Spot.Register g → place_back D E m ≢ E.place m → clears (intent_of_way w N.rev N.rev) g ≡ true
        go None e l back differs = absurd (differs l)
        go (Some to) e l back differs =
            clears-listed g (append_left _ _ g (has-filter_map (λ (q : Put). register_of q.to) w.put (record { node = m; to = to }) g (listed m to e) (ap register_of (l.1 ∙ ap to_of back))))

    -- who came into a register was put there
    came : (m : NodeId) (g : FieldId) → is_in D g.node ≡ true → E.held g ≡ Some m → D.held g ≢ Some m → clears (intent_of_way w N.rev N.rev) g ≡ true
    came m g old h apart = go (put_of N m) refl ((after_held m g).0 h)
      where
        elsewhere : D.place m ≢ Spot.Register g
        elsewhere e = apart ((s.one_held m g).1 e)

        go : (o : Option To) → put_of N m ≡ o → place_after row_after N o (D.place m) ≡ Spot.Register g → clears (intent_of_way w N.rev N.rev) g ≡ true
        go None p e = absurd (elsewhere (stayed N (D.place m) g e))
        go (Some to) p e =
            let t = put_to_register row_after to g e in
            let there : Has N.put (record { node = m; to = To.Register g }) = put-has N m (To.Register g) (p ∙ ap (λ t. Some t) t) in
            clears-listed g (append_right _ _ g (has-filter_map (λ (q : Put). entered_field D q.node q.to) N.put (record { node = m; to = To.Register g }) g there (is-entered m g old elsewhere)))

    differ_clears : (g : FieldId) → Differs g → clears (intent_of_way w N.rev N.rev) g ≡ true
    differ_clears g d = go (D.held g) refl (E.held g) refl
      where
        go : (a : Option NodeId) → D.held g ≡ a → (b : Option NodeId) → E.held g ≡ b → clears (intent_of_way w N.rev N.rev) g ≡ true
        go None h None k = absurd (d.1 (h ∙ sym k))
        go (Some m) h b k = left m g h (λ same. d.1 (h ∙ sym same))
        go None h (Some m) k = came m g d.0 k (λ same. d.1 (same ∙ sym k))

    after_keys : (m : NodeId) (g : FieldId) → E.held g ≡ Some m → g.key.0 ≢ []
    after_keys m g h = go (put_of N m) refl ((after_held m g).0 h)
      where
        go : (o : Option To) → put_of N m ≡ o → place_after row_after N o (D.place m) ≡ Spot.Register g → g.key.0 ≢ []
        go None p e = s.register_key m g ((s.one_held m g).1 (stayed N (D.place m) g e))
        go (Some to) p e =
            let t = put_to_register row_after to g e in
            (known_put_in D N f s m g (has-put_in N f.itself m g (put-has N m (To.Register g) (p ∙ ap (λ t. Some t) t)))).2

    root_out : E.place root ≡ Spot.Nowhere
    root_out = rw (f.itself.root_stays, s.root_nowhere) refl

    pub is_way_back : IsWayBack D N w
    is_way_back rev under = way_leads_back D E s after_held after_keys root_out w rev under once led (λ g. (clears_differ g, differ_clears g))
