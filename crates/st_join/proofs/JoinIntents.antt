-- Two parts joined are an intent.
use Rattle.std.proofs.Common.{◌≡◌, ◌≢◌, ◌⊎◌, ◌||◌, Bool, true, false, List, [], ◌∷◌, ◌++◌, Option, Some, None, IsSome, IsTrue, IfSome, is_some, cond, option_map, option_and_then, refl, sym, ap, ◌∙◌, subst, inl, inr}
use mathlib.Core.Path.{fun_ext}
use Rattle.std.specs.List.{AllByRecursion, find}
use Rattle.std.specs.Prelude.{if◌then◌else◌}
use Rattle.std.specs.Option.{option_or, option_map_or}
use Rattle.st_ids.specs.Listing.{AreDistinct, Has}
use Rattle.st_ids.specs.Order.{same_field, same_node}
use Rattle.st_ids.specs.declared.names.CellId.{CellId}
use Rattle.st_ids.specs.declared.names.FieldId.{FieldId}
use Rattle.st_ids.specs.declared.names.NodeId.{NodeId}
use Rattle.st_ids.proofs.Orders.{same_field-itself, same_node-itself, same_node-true}
use Rattle.st_marks.specs.declared.changes.NewNode.{NewNode}
use Rattle.st_marks.specs.declared.intents.Group.{Group}
use Rattle.st_marks.specs.declared.intents.Intent.{Intent}
use Rattle.st_marks.specs.declared.intents.Owned.{Owned}
use Rattle.st_marks.specs.declared.intents.Put.{Put}
use Rattle.st_marks.specs.declared.intents.To.{To}
use Rattle.st_marks.specs.declared.places.Spot.{Spot}
use Rattle.st_marks.specs.Document.{Document, NodeType, IsSoundInForm, ClimbsToAnEnd, above, node_of, owned_cell}
use Rattle.st_ids.specs.Root.{root}
use Rattle.st_marks.specs.Intent.{IsIntent, IsKnown, Owns, above_new, cell_of, clears, group_cells, is_new, new_row_of, new_type, put_of, put_under, register_of}
use Rattle.st_marks.specs.CarryOut.{full, place_after, spot_of, unless_cleared, with_names}
use Rattle.st_marks.specs.Join.{AreParts, above_made, put_unless_new, unless_cleared_by}
use Rattle.st_lemmas.proofs.Bools.{true-false}
use Rattle.st_marks.proofs.Members.{all-has, has-all, has-append, distinct-append, distinct-filter_map, distinct-has, first-distinct, has-any, has-flat_map, flat_map-has, none-has}
use Rattle.st_marks.proofs.Lookups.{clears-has, group-new_row_of, made_there, put-has}
use Rattle.st_marks.proofs.NewRows.{old_cell, one_row_each, owns_in_row, rows_once}
use Rattle.st_marks.proofs.Climb.{unknown_nowhere}
use Rattle.st_marks.proofs.Full.{known_put}
use Rattle.st_join.specs.Listed.{IsListedJoin}
use Rattle.st_join.proofs.Picked.{picked_distinct}

find_append : {A : Type 0} (f : A → Bool) (xs ys : List A) → find f (xs ++ ys) ≡ option_or (find f xs) (find f ys)
find_append f [] ys = refl
find_append {A} f (x ∷ xs) ys = go (f x) (find_append f xs ys)
  where
    go : (b : Bool) → find f (xs ++ ys) ≡ option_or (find f xs) (find f ys) → cond b (Some x) (find f (xs ++ ys)) ≡ option_or (cond b (Some x) (find f xs)) (find f ys)
    go true e = refl
    go false e = e

module _ (D : Document) (N M J : Intent) (s : IsSoundInForm D) (p : AreParts D N M) (j : IsListedJoin N M J) where
  -- ## What is new

  type_joined : (n : NodeId) → new_type J n ≡ option_or (new_type N n) (new_type M n)
  type_joined n =
      ap (λ l. option_map (λ (m : NewNode). record { ty = m.ty; leaf = m.leaf }) (find (λ (m : NewNode). same_node m.node n) l)) j.new
      ∙ ap (option_map (λ (m : NewNode). record { ty = m.ty; leaf = m.leaf })) (find_append (λ (m : NewNode). same_node m.node n) N.new M.new)
      ∙ mapped (find (λ (m : NewNode). same_node m.node n) N.new)
    where
      mapped : (o : Option NewNode) → option_map (λ (m : NewNode). record { ty = m.ty; leaf = m.leaf }) (option_or o (find (λ (m : NewNode). same_node m.node n) M.new)) ≡ option_or (option_map (λ (m : NewNode). record { ty = m.ty; leaf = m.leaf }) o) (new_type M n)
      mapped None = refl
      mapped (Some m) = refl

  is_new_joined : (n : NodeId) → is_new J n ≡ (is_new N n || is_new M n)
  is_new_joined n = ap is_some (type_joined n) ∙ go (new_type N n)
    where
      go : (o : Option NodeType) → is_some (option_or o (new_type M n)) ≡ (is_some o || is_new M n)
      go None = refl
      go (Some x) = refl

  none_both : {A : Type 0} (a b : Option A) → option_or a b ≡ None → (a ≡ None) × (b ≡ None)
  none_both None b e = (refl, e)
  none_both (Some x) b e = let bad : Some x ≡ None = e in cc

  -- a node that the second makes is neither in D nor made by the first
  second_new : (n : NodeId) → is_new M n ≡ true → (D.nodes n ≡ None) × (new_type N n ≡ None)
  second_new n h = none_both (D.nodes n) (new_type N n) (p.then_fits.fresh_nodes n h)

  second_cell_new : (c : CellId) → IsSome (new_row_of M c) → (D.row_of c ≡ None) × (new_row_of N c ≡ None)
  second_cell_new c h = none_both (D.row_of c) (new_row_of N c) (p.then_fits.fresh_cells c h)

  new_row_joined : (c : CellId) → new_row_of J c ≡ option_or (new_row_of N c) (new_row_of M c)
  new_row_joined c = go (new_row_of J c) refl
    where
      go : (o : Option NodeId) → new_row_of J c ≡ o → o ≡ option_or (new_row_of N c) (new_row_of M c)
      go (Some n) e =
          let g = group-new_row_of J c n e in
          elim (j.cells g.0 g.3.0 g.1 g.3.1) [
            | inl k ↦ (let a : new_row_of N c ≡ Some n = subst (λ c. new_row_of N c ≡ Some n) g.3.2 (k.0 ∙ ap (λ n. Some n) g.2) in rw a refl)
            | inr k ↦ (let a : new_row_of M c ≡ Some n = subst (λ c. new_row_of M c ≡ Some n) g.3.2 (k.0 ∙ ap (λ n. Some n) g.2) in let b = (second_cell_new c (ap is_some a)).1 in rw (b, a) refl)
          ]
      go None e = sym (both (new_row_of N c) refl (new_row_of M c) refl)
        where
          unlisted : (o : Owned) → Has (group_cells J) o → o.cell ≡ c → ⊥
          unlisted o h q = true-false (subst (λ c. IsSome (new_row_of J c)) q (made_there J o h)) (ap is_some e)

          both : (a : Option NodeId) → new_row_of N c ≡ a → (b : Option NodeId) → new_row_of M c ≡ b → option_or a b ≡ None
          both (Some n) q b r = let g = group-new_row_of N c n q in absurd (unlisted g.3.0 (j.first_cells g.3.0 (flat_map-has (λ (g : Group). g.cells) N.groups g.0 g.3.0 g.1 g.3.1)) g.3.2)
          both None q (Some n) r = let g = group-new_row_of M c n r in absurd (unlisted g.3.0 (j.second_cells g.3.0 (flat_map-has (λ (g : Group). g.cells) M.groups g.0 g.3.0 g.1 g.3.1)) g.3.2)
          both None q None r = refl

  new_first : (n : NodeId) → is_new N n ≡ true → is_new J n ≡ true
  new_first n h = is_new_joined n ∙ rw h refl

  new_second : (n : NodeId) → is_new M n ≡ true → is_new J n ≡ true
  new_second n h = is_new_joined n ∙ go (is_new N n)
    where
      go : (b : Bool) → (b || is_new M n) ≡ true
      go true = refl
      go false = h

  -- ## From which part a put is

  abbrev IsFrom : NodeId → To → Type 0
  IsFrom n to = (put_of M n ≡ Some to) ⊎ ((put_of M n ≡ None) × ((x : To) × (put_of N n ≡ Some x) × (unless_cleared_by M x ≡ to)))

  kept_put : (b : Bool) (x to : To) → put_unless_new b x ≡ Some to → (x ≡ to) × (b ≡ true → to ≢ To.Nowhere)
  kept_put true To.Nowhere to e = let bad : None ≡ Some to = e in cc
  kept_put false To.Nowhere to e = ((let q : Some To.Nowhere ≡ Some to = e in cc), λ b. let bad : false ≡ true = b in cc)
  kept_put b (To.Cell c) to e = let q : To.Cell c ≡ to = cc in (q, λ _ z. let bad : To.Cell c ≡ To.Nowhere = q ∙ z in cc)
  kept_put b (To.Register f) to e = let q : To.Register f ≡ to = cc in (q, λ _ z. let bad : To.Register f ≡ To.Nowhere = q ∙ z in cc)

  put_from : (n : NodeId) (to : To) → put_of J n ≡ Some to → IsFrom n to × (is_new N n ≡ true → to ≢ To.Nowhere)
  put_from n to e = go (put_of M n) refl (put_of N n) refl (sym (j.puts n) ∙ e)
    where
      go : (b : Option To) → put_of M n ≡ b → (a : Option To) → put_of N n ≡ a → option_and_then (put_unless_new (is_new N n)) (option_or b (option_map (unless_cleared_by M) a)) ≡ Some to → IsFrom n to × (is_new N n ≡ true → to ≢ To.Nowhere)
      go (Some x) q a r k = let w = kept_put (is_new N n) x to k in (inl (q ∙ ap (λ x. Some x) w.0), w.1)
      go None q (Some x) r k = let w = kept_put (is_new N n) (unless_cleared_by M x) to k in (inr (q, (x, r, w.0)), w.1)
      go None q None r k = let bad : None ≡ Some to = k in cc

  -- a node that either puts is put by the join, or new
  put_or_new : (n : NodeId) (x : To) → option_or (put_of M n) (option_map (unless_cleared_by M) (put_of N n)) ≡ Some x → (is_new J n ≡ true) ⊎ IsSome (put_of J n)
  put_or_new n x e = go (is_new N n) refl x e
    where
      go : (b : Bool) → is_new N n ≡ b → (x : To) → option_or (put_of M n) (option_map (unless_cleared_by M) (put_of N n)) ≡ Some x → (is_new J n ≡ true) ⊎ IsSome (put_of J n)
      go true h x e = inl (new_first n h)
      go false h To.Nowhere e = inr (let q : put_of J n ≡ Some To.Nowhere = j.puts n ∙ ap (option_and_then (put_unless_new (is_new N n))) e ∙ ap (λ b. put_unless_new b To.Nowhere) h in ap is_some q)
      go false h (To.Cell c) e = inr (let q : put_of J n ≡ Some (To.Cell c) = j.puts n ∙ ap (option_and_then (put_unless_new (is_new N n))) e in ap is_some q)
      go false h (To.Register f) e = inr (let q : put_of J n ≡ Some (To.Register f) = j.puts n ∙ ap (option_and_then (put_unless_new (is_new N n))) e in ap is_some q)

  put_first_or_new : (n : NodeId) → IsSome (put_of N n) → (is_new J n ≡ true) ⊎ IsSome (put_of J n)
  put_first_or_new n h = go (put_of M n) refl (put_of N n) refl h
    where
      go : (b : Option To) → put_of M n ≡ b → (a : Option To) → put_of N n ≡ a → IsSome a → (is_new J n ≡ true) ⊎ IsSome (put_of J n)
      go (Some x) q a r h = put_or_new n x (rw q refl)
      go None q (Some x) r h = put_or_new n (unless_cleared_by M x) (rw (q, r) refl)
      go None q None r h = let bad : false ≡ true = h in cc

  put_second_or_new : (n : NodeId) → IsSome (put_of M n) → (is_new J n ≡ true) ⊎ IsSome (put_of J n)
  put_second_or_new n h = go (put_of M n) refl h
    where
      go : (b : Option To) → put_of M n ≡ b → IsSome b → (is_new J n ≡ true) ⊎ IsSome (put_of J n)
      go (Some x) q h = put_or_new n x (rw q refl)
      go None q h = let bad : false ≡ true = h in cc

  owner : (o : Owned) → Has (group_cells J) o → IsTrue (is_new J o.node) ⊎ IsSome (put_of J o.node)
  owner o h =
      let g = has-flat_map (λ (g : Group). g.cells) J.groups o h in
      elim (j.cells g.0 o g.1 g.2) [
        | inl k ↦ elim (all-has (λ (o : Owned). IsTrue (is_new N o.node) ⊎ IsSome (put_of N o.node)) (group_cells N) o p.first_fits.itself.owners k.1) [ inl i ↦ inl (new_first o.node i) | inr i ↦ put_first_or_new o.node i ]
        | inr k ↦ elim (all-has (λ (o : Owned). IsTrue (is_new M o.node) ⊎ IsSome (put_of M o.node)) (group_cells M) o p.then_fits.itself.owners k.1) [ inl i ↦ inl (new_second o.node i) | inr i ↦ put_second_or_new o.node i ]
      ]

  -- ## Each cell and each register is filled once

  to_cell : (x : To) (c : CellId) → unless_cleared_by M x ≡ To.Cell c → x ≡ To.Cell c
  to_cell To.Nowhere c e = e
  to_cell (To.Cell d) c e = e
  to_cell (To.Register f) c e = go (clears M f) e
    where
      go : (b : Bool) → cond b To.Nowhere (To.Register f) ≡ To.Cell c → To.Register f ≡ To.Cell c
      go true e = let bad : To.Nowhere ≡ To.Cell c = e in cc
      go false e = e

  to_register : (x : To) (f : FieldId) → unless_cleared_by M x ≡ To.Register f → (x ≡ To.Register f) × (clears M f ≡ false)
  to_register To.Nowhere f e = let bad : To.Nowhere ≡ To.Register f = e in cc
  to_register (To.Cell d) f e = let bad : To.Cell d ≡ To.Register f = e in cc
  to_register (To.Register g) f e = go (clears M g) refl e
    where
      go : (b : Bool) → clears M g ≡ b → cond b To.Nowhere (To.Register g) ≡ To.Register f → (To.Register g ≡ To.Register f) × (clears M f ≡ false)
      go true q e = let bad : To.Nowhere ≡ To.Register f = e in cc
      go false q e = let same : g ≡ f = cc in (e, subst (λ g. clears M g ≡ false) same q)

  cell_to : (x : To) (c : CellId) → cell_of x ≡ Some c → x ≡ To.Cell c
  cell_to To.Nowhere c e = let bad : None ≡ Some c = e in cc
  cell_to (To.Cell d) c e = let q : d ≡ c = cc in ap (λ d. To.Cell d) q
  cell_to (To.Register f) c e = let bad : None ≡ Some c = e in cc

  register_to : (x : To) (f : FieldId) → register_of x ≡ Some f → x ≡ To.Register f
  register_to To.Nowhere f e = let bad : None ≡ Some f = e in cc
  register_to (To.Cell d) f e = let bad : None ≡ Some f = e in cc
  register_to (To.Register g) f e = let q : g ≡ f = cc in ap (λ g. To.Register g) q

  put_to : (q : Put) → Has J.put q → put_of J q.node ≡ Some q.to
  put_to q h = ap (λ o. option_map (λ (q : Put). q.to) o) (first-distinct (λ (q : Put). q.node) J.put (λ (r : Put). same_node r.node q.node) q j.put_once h (same_node-itself q.node) (λ r e. same_node-true r.node q.node e))

  -- the cell's row in the document after the first part, where the first fills it
  first_row : (n : NodeId) (c : CellId) → put_of N n ≡ Some (To.Cell c) → (r : NodeId) × Has ((full D N).rows r) (owned_cell c n)
  first_row n c e = go ((full D N).row_of c) refl (known_put D N p.first_fits n (To.Cell c) e).1
    where
      there : Owns D N n c → IsSome ((full D N).row_of c)
      there (inl h) = let row : D.row_of c ≡ Some h.0 = (s.one_row c h.0).1 (n, h.1) in rw row refl
      there (inr h) = made (D.row_of c) (made_there N (owned_cell c n) h)
        where
          made : (o : Option NodeId) → IsSome (new_row_of N c) → IsSome (option_or o (new_row_of N c))
          made None h = h
          made (Some r) h = refl

      go : (o : Option NodeId) → (full D N).row_of c ≡ o → Owns D N n c → (r : NodeId) × Has ((full D N).rows r) (owned_cell c n)
      go (Some r) q own = (r, owns_in_row D N s p.first_fits n r c own q)
      go None q own = absurd (true-false (there own) (ap is_some q))

  one_owner : (n m a b : NodeId) (c : CellId) → Has ((full D N).rows a) (owned_cell c n) → Has ((full D N).rows b) (owned_cell c m) → n ≡ m
  one_owner n m a b c h i =
      let x : (full D N).row_of c ≡ Some a = (one_row_each D N s p.first_fits c a).1 (n, h) in
      let y : (full D N).row_of c ≡ Some b = (one_row_each D N s p.first_fits c b).1 (m, i) in
      let same : b ≡ a = (let q : Some b ≡ Some a = sym y ∙ x in cc) in
      ap (λ (o : Owned). o.node) (distinct-has (λ (o : Owned). o.cell) ((full D N).rows a) (owned_cell c n) (owned_cell c m) (rows_once D N s p.first_fits a) h (subst (λ r. Has ((full D N).rows r) (owned_cell c m)) same i) refl)

  mixed_cell : (n m : NodeId) (c : CellId) → put_of N n ≡ Some (To.Cell c) → put_of M m ≡ Some (To.Cell c) → n ≡ m
  mixed_cell n m c e k =
      let a = first_row n c e in
      go a (known_put (full D N) M p.then_fits m (To.Cell c) k).1
    where
      go : (r : NodeId) × Has ((full D N).rows r) (owned_cell c n) → Owns (full D N) M m c → n ≡ m
      go a (inl h) = one_owner n m a.0 h.0 c a.1 h.1
      go a (inr h) =
          let gone : (full D N).row_of c ≡ None = p.then_fits.fresh_cells c (made_there M (owned_cell c m) h) in
          let there : (full D N).row_of c ≡ Some a.0 = (one_row_each D N s p.first_fits c a.0).1 (n, a.1) in
          let bad : None ≡ Some a.0 = sym gone ∙ there in cc

  same_cell_put : (L : Intent) → IsIntent L → (n m : NodeId) (c : CellId) → put_of L n ≡ Some (To.Cell c) → put_of L m ≡ Some (To.Cell c) → n ≡ m
  same_cell_put L w n m c e k = ap (λ (q : Put). q.node) (distinct-filter_map (λ (q : Put). cell_of q.to) L.put (record { node = n; to = To.Cell c }) (record { node = m; to = To.Cell c }) c w.no_cell_twice (put-has L n (To.Cell c) e) (put-has L m (To.Cell c) k) refl refl)

  same_register_put : (L : Intent) → IsIntent L → (n m : NodeId) (f : FieldId) → put_of L n ≡ Some (To.Register f) → put_of L m ≡ Some (To.Register f) → n ≡ m
  same_register_put L w n m f e k = ap (λ (q : Put). q.node) (distinct-filter_map (λ (q : Put). register_of q.to) L.put (record { node = n; to = To.Register f }) (record { node = m; to = To.Register f }) f w.no_register_twice (put-has L n (To.Register f) e) (put-has L m (To.Register f) k) refl refl)

  clears_filled : (L : Intent) → IsIntent L → (n : NodeId) (f : FieldId) → put_of L n ≡ Some (To.Register f) → clears L f ≡ true
  clears_filled L w n f e = all-has (λ (q : Put). IfSome (register_of q.to) (λ f. IsTrue (clears L f))) L.put (record { node = n; to = To.Register f }) w.cleared (put-has L n (To.Register f) e)

  cell_from : (q : Put) (c : CellId) → Has J.put q → cell_of q.to ≡ Some c → (put_of M q.node ≡ Some (To.Cell c)) ⊎ (put_of N q.node ≡ Some (To.Cell c))
  cell_from q c h e =
      let to = cell_to q.to c e in
      elim (put_from q.node q.to (put_to q h)).0 [
        | inl k ↦ inl (k ∙ ap (λ x. Some x) to)
        | inr k ↦ inr (k.1.1 ∙ ap (λ x. Some x) (to_cell k.1.0 c (k.1.2 ∙ to)))
      ]

  one_cell : (q r : Put) (c : CellId) → Has J.put q → Has J.put r → cell_of q.to ≡ Some c → cell_of r.to ≡ Some c → q.node ≡ r.node
  one_cell q r c h i e k = elim (cell_from q c h e) [
    | inl a ↦ elim (cell_from r c i k) [ inl b ↦ same_cell_put M p.then_fits.itself q.node r.node c a b | inr b ↦ sym (mixed_cell r.node q.node c b a) ]
    | inr a ↦ elim (cell_from r c i k) [ inl b ↦ mixed_cell q.node r.node c a b | inr b ↦ same_cell_put N p.first_fits.itself q.node r.node c a b ]
  ]

  register_from : (q : Put) (f : FieldId) → Has J.put q → register_of q.to ≡ Some f → (put_of M q.node ≡ Some (To.Register f)) ⊎ ((put_of N q.node ≡ Some (To.Register f)) × (clears M f ≡ false))
  register_from q f h e =
      let to = register_to q.to f e in
      elim (put_from q.node q.to (put_to q h)).0 [
        | inl k ↦ inl (k ∙ ap (λ x. Some x) to)
        | inr k ↦ (let w = to_register k.1.0 f (k.1.2 ∙ to) in inr (k.1.1 ∙ ap (λ x. Some x) w.0, w.1))
      ]

  one_register : (q r : Put) (f : FieldId) → Has J.put q → Has J.put r → register_of q.to ≡ Some f → register_of r.to ≡ Some f → q.node ≡ r.node
  one_register q r f h i e k = elim (register_from q f h e) [
    | inl a ↦ elim (register_from r f i k) [ inl b ↦ same_register_put M p.then_fits.itself q.node r.node f a b | inr b ↦ absurd (true-false (clears_filled M p.then_fits.itself q.node f a) b.1) ]
    | inr a ↦ elim (register_from r f i k) [ inl b ↦ absurd (true-false (clears_filled M p.then_fits.itself r.node f b) a.1) | inr b ↦ same_register_put N p.first_fits.itself q.node r.node f a.0 b.0 ]
  ]

  clears_if : (f : FieldId) → (clears N f ≡ true) ⊎ (clears M f ≡ true) → clears J f ≡ true
  clears_if f (inl e) = j.clears_both f ∙ rw e refl
  clears_if f (inr e) = j.clears_both f ∙ go (clears N f)
    where
      go : (b : Bool) → (b || clears M f) ≡ true
      go true = refl
      go false = e

  clears_put : (q : Put) → Has J.put q → (o : Option FieldId) → register_of q.to ≡ o → IfSome o (λ f. IsTrue (clears J f))
  clears_put q h None e = tt
  clears_put q h (Some f) e = elim (register_from q f h e) [
    | inl a ↦ clears_if f (inr (clears_filled M p.then_fits.itself q.node f a))
    | inr a ↦ clears_if f (inl (clears_filled N p.first_fits.itself q.node f a.0))
  ]

  -- ## What stands inside what among the new nodes

  unmade : (n : NodeId) → (is_new N n || is_new M n) ≡ true → D.nodes n ≡ None
  unmade n e = go (is_new N n) refl e
    where
      go : (b : Bool) → is_new N n ≡ b → (b || is_new M n) ≡ true → D.nodes n ≡ None
      go true h e = p.first_fits.fresh_nodes n h
      go false h e = (second_new n e).0

  owner_there : (n r : NodeId) (c : CellId) → D.nodes n ≡ None → Has (D.rows r) (owned_cell c n) → ⊥
  owner_there n r c none h = true-false (s.cells_known r (owned_cell c n) h).1 (ap is_some none)

  -- a cell that a new node owns isn't one of D
  first_cell_new : (n : NodeId) (c : CellId) → D.nodes n ≡ None → Owns D N n c → D.row_of c ≡ None
  first_cell_new n c none (inl h) = absurd (owner_there n h.0 c none h.1)
  first_cell_new n c none (inr h) = p.first_fits.fresh_cells c (made_there N (owned_cell c n) h)

  cell_new : (n : NodeId) (c : CellId) → D.nodes n ≡ None → Owns (full D N) M n c → D.row_of c ≡ None
  cell_new n c none (inr h) = (second_cell_new c (made_there M (owned_cell c n) h)).0
  cell_new n c none (inl h) = go (D.row_of c) refl
    where
      go : (o : Option NodeId) → D.row_of c ≡ o → D.row_of c ≡ None
      go None e = e
      go (Some r) e =
          let o = (s.one_row c r).0 e in
          let same : n ≡ o.0 = one_owner n o.0 h.0 r c h.1 (old_cell D N s p.first_fits r (owned_cell c o.0) o.1) in
          absurd (owner_there n r c none (subst (λ m. Has (D.rows r) (owned_cell c m)) (sym same) o.1))

  row_under : (c : CellId) (o : Option NodeId) → node_of (option_map_or (λ r. Spot.Row r c) o Spot.Nowhere) ≡ o
  row_under c None = refl
  row_under c (Some r) = refl

  row_under_cleared : (c : CellId) (o : Option NodeId) → node_of (unless_cleared M (option_map_or (λ r. Spot.Row r c) o Spot.Nowhere)) ≡ o
  row_under_cleared c None = refl
  row_under_cleared c (Some r) = refl

  nowhere_under : (b : Bool) → put_under J (put_unless_new b To.Nowhere) ≡ None
  nowhere_under true = refl
  nowhere_under false = refl

  second_under : (n : NodeId) (x : To) → D.nodes n ≡ None → put_of M n ≡ Some x → put_under J (put_unless_new (is_new N n) x) ≡ node_of (spot_of (with_names (full D N) M).row_of x)
  second_under n To.Nowhere none e = nowhere_under (is_new N n)
  second_under n (To.Register f) none e = refl
  second_under n (To.Cell c) none e =
      let gone = cell_new n c none (known_put (full D N) M p.then_fits n (To.Cell c) e).1 in
      let row : (with_names (full D N) M).row_of c ≡ option_or (new_row_of N c) (new_row_of M c) = rw gone refl in
      new_row_joined c ∙ sym row ∙ sym (row_under c ((with_names (full D N) M).row_of c))

  first_under : (n : NodeId) (x : To) → D.nodes n ≡ None → put_of N n ≡ Some x → put_under J (put_unless_new (is_new N n) (unless_cleared_by M x)) ≡ node_of (unless_cleared M (spot_of (with_names D N).row_of x))
  first_under n To.Nowhere none e = nowhere_under (is_new N n)
  first_under n (To.Register f) none e = go (clears M f)
    where
      go : (b : Bool) → put_under J (put_unless_new (is_new N n) (cond b To.Nowhere (To.Register f))) ≡ node_of (cond b Spot.Nowhere (Spot.Register f))
      go true = nowhere_under (is_new N n)
      go false = refl
  first_under n (To.Cell c) none e =
      let own = (known_put D N p.first_fits n (To.Cell c) e).1 in
      let gone = first_cell_new n c none own in
      let row : (with_names D N).row_of c ≡ new_row_of N c = rw gone refl in
      new_row_joined c ∙ only (new_row_of N c) (made own) ∙ sym row ∙ sym (row_under_cleared c ((with_names D N).row_of c))
    where
      made : Owns D N n c → IsSome (new_row_of N c)
      made (inl h) = absurd (owner_there n h.0 c none h.1)
      made (inr h) = made_there N (owned_cell c n) h

      only : (o : Option NodeId) → IsSome o → option_or o (new_row_of M c) ≡ o
      only None h = let bad : false ≡ true = h in cc
      only (Some r) h = refl

  under_joined : (n : NodeId) → D.nodes n ≡ None → put_under J (put_of J n) ≡ above (full (full D N) M) n
  under_joined n none = ap (put_under J) (j.puts n) ∙ go (put_of M n) refl (put_of N n) refl ∙ ap (λ x. node_of (place_after (with_names (full D N) M).row_of M (put_of M n) (place_after (with_names D N).row_of N (put_of N n) x))) (sym (unknown_nowhere D s n none))
    where
      go : (b : Option To) → put_of M n ≡ b → (a : Option To) → put_of N n ≡ a → put_under J (option_and_then (put_unless_new (is_new N n)) (option_or b (option_map (unless_cleared_by M) a)))
          ≡ node_of (place_after (with_names (full D N) M).row_of M b (place_after (with_names D N).row_of N a Spot.Nowhere))
      go (Some x) q a r = second_under n x none q
      go None q (Some x) r = first_under n x none r
      go None q None r = refl

  above_joined : (n : NodeId) → above_new J n ≡ above_made D N M n
  above_joined n = go (is_new N n || is_new M n) refl
    where
      filtered : (o : Option NodeId) → option_and_then (λ q. if is_new J q then Some q else None) o ≡ option_and_then (λ q. if (is_new N q || is_new M q) then Some q else None) o
      filtered None = refl
      filtered (Some q) = ap (λ b. if b then Some q else None) (is_new_joined q)

      go : (b : Bool) → (is_new N n || is_new M n) ≡ b → above_new J n ≡ above_made D N M n
      go true e =
          let new : is_new J n ≡ true = is_new_joined n ∙ e in
          let left : above_new J n ≡ option_and_then (λ q. if is_new J q then Some q else None) (put_under J (put_of J n)) = rw new refl in
          let right : above_made D N M n ≡ option_and_then (λ q. if (is_new N q || is_new M q) then Some q else None) (above (full (full D N) M) n) = rw e refl in
          left ∙ filtered (put_under J (put_of J n)) ∙ ap (option_and_then (λ q. if (is_new N q || is_new M q) then Some q else None)) (under_joined n (unmade n e)) ∙ sym right
      go false e =
          let new : is_new J n ≡ false = is_new_joined n ∙ e in
          let left : above_new J n ≡ None = rw new refl in
          let right : above_made D N M n ≡ None = rw e refl in
          left ∙ sym right

  -- ## Together

  both_false : (a b : Bool) → a ≡ false → b ≡ false → (a || b) ≡ false
  both_false a b e k = rw (e, k) refl

  -- a node of D is made by neither
  old_node : (n : NodeId) → IsSome (D.nodes n) → is_new J n ≡ false
  old_node n h = is_new_joined n ∙ go (is_new N n || is_new M n) refl
    where
      go : (b : Bool) → (is_new N n || is_new M n) ≡ b → (is_new N n || is_new M n) ≡ false
      go false e = e
      go true e = absurd (true-false h (ap is_some (unmade n e)))

  need_there : (n : NodeId) → Has J.need n → is_new J n ≡ false
  need_there n h = elim ((j.needs n).0 h) [
    | inl i ↦ old_node n (all-has (λ n. IsSome (D.nodes n)) N.need n p.first_fits.needs_known i)
    | inr i ↦ is_new_joined n ∙ both_false (is_new N n) (is_new M n) i.1 (all-has (λ n. is_new M n ≡ false) M.need n p.then_fits.itself.need_old i.0)
  ]

  anchor_new : (a : Option CellId) → IfSome a (λ c. (new_row_of N c ≡ None) × (new_row_of M c ≡ None)) → IfSome a (λ c. new_row_of J c ≡ None)
  anchor_new None k = tt
  anchor_new (Some c) k = new_row_joined c ∙ rw (k.0, k.1) refl

  key_there : (f : FieldId) → Has J.clear f → f.key.0 ≢ []
  key_there f h = go (clears N f) refl (sym (j.clears_both f) ∙ has-any (λ g. same_field g f) J.clear f h (same_field-itself f))
    where
      go : (b : Bool) → clears N f ≡ b → (b || clears M f) ≡ true → f.key.0 ≢ []
      go true e k = all-has (λ (f : FieldId). f.key.0 ≢ []) N.clear f p.first_fits.itself.register_keys (clears-has N.clear f e)
      go false e k = all-has (λ (f : FieldId). f.key.0 ≢ []) M.clear f p.then_fits.itself.register_keys (clears-has M.clear f k)

  -- a new node isn't put nowhere
  somewhere : (q : Put) → Has J.put q → is_new J q.node ≡ true → q.to ≢ To.Nowhere
  somewhere q h new z =
      let w = put_from q.node q.to (put_to q h) in
      go (is_new N q.node) refl w.0 w.1 (sym (is_new_joined q.node) ∙ new)
    where
      go : (b : Bool) → is_new N q.node ≡ b → IsFrom q.node q.to → (is_new N q.node ≡ true → q.to ≢ To.Nowhere) → (b || is_new M q.node) ≡ true → ⊥
      go true e from away k = away e z
      go false e (inl m) away k = all-has (λ (r : Put). IsTrue (is_new M r.node) → r.to ≢ To.Nowhere) M.put (record { node = q.node; to = q.to }) p.then_fits.itself.new_somewhere (put-has M q.node q.to m) k z
      go false e (inr m) away k = unknown (known_put D N p.first_fits q.node m.1.0 m.1.1).0
        where
          unknown : IsKnown D N q.node → ⊥
          unknown (inl i) = true-false i e
          unknown (inr i) = true-false i (ap is_some (second_new q.node k).0)

  root_unput : put_of J root ≡ None
  root_unput = j.puts root ∙ rw (p.then_fits.itself.root_stays, p.first_fits.itself.root_stays) refl

  pub joined_intent : IsIntent J
  joined_intent = record {
    new_rev = subst (AllByRecursion (λ (m : NewNode). m.node.0.rev ≡ J.rev)) (sym j.new) (has-all (λ (m : NewNode). m.node.0.rev ≡ J.rev) (N.new ++ M.new) (λ m h. elim (has-append N.new M.new m h) [
      | inl i ↦ all-has (λ (m : NewNode). m.node.0.rev ≡ N.rev) N.new m p.first_fits.itself.new_rev i ∙ sym j.rev
      | inr i ↦ all-has (λ (m : NewNode). m.node.0.rev ≡ M.rev) M.new m p.then_fits.itself.new_rev i ∙ p.one_rev ∙ sym j.rev
    ]));
    new_once = subst (AreDistinct (λ (m : NewNode). m.node)) (sym j.new) (distinct-append (λ (m : NewNode). m.node) N.new M.new p.first_fits.itself.new_once p.then_fits.itself.new_once apart);
    cell_rev = has-all (λ (o : Owned). o.cell.0.rev ≡ J.rev) (group_cells J) (λ o h. let g = has-flat_map (λ (g : Group). g.cells) J.groups o h in elim (j.cells g.0 o g.1 g.2) [
      | inl k ↦ all-has (λ (o : Owned). o.cell.0.rev ≡ N.rev) (group_cells N) o p.first_fits.itself.cell_rev k.1 ∙ sym j.rev
      | inr k ↦ all-has (λ (o : Owned). o.cell.0.rev ≡ M.rev) (group_cells M) o p.then_fits.itself.cell_rev k.1 ∙ p.one_rev ∙ sym j.rev
    ]);
    cell_once = j.cell_once;
    group_some = j.group_some;
    start_once = j.start_once;
    anchor_once = j.anchor_once;
    anchor_old = has-all (λ (g : Group). IfSome g.after (λ c. new_row_of J c ≡ None)) J.groups (λ g h. anchor_new g.after (all-has (λ (g : Group). IfSome g.after (λ c. (new_row_of N c ≡ None) × (new_row_of M c ≡ None))) J.groups g j.anchors h));
    owners = has-all (λ (o : Owned). IsTrue (is_new J o.node) ⊎ IsSome (put_of J o.node)) (group_cells J) owner;
    root_stays = root_unput;
    put_once = j.put_once;
    no_cell_twice = picked_distinct (λ (q : Put). cell_of q.to) (λ (q : Put). q.node) J.put j.put_once one_cell;
    no_register_twice = picked_distinct (λ (q : Put). register_of q.to) (λ (q : Put). q.node) J.put j.put_once one_register;
    new_somewhere = has-all (λ (q : Put). IsTrue (is_new J q.node) → q.to ≢ To.Nowhere) J.put somewhere;
    cleared = has-all (λ (q : Put). IfSome (register_of q.to) (λ f. IsTrue (clears J f))) J.put (λ q h. clears_put q h (register_of q.to) refl);
    register_keys = has-all (λ (f : FieldId). f.key.0 ≢ []) J.clear key_there;
    need_old = has-all (λ n. is_new J n ≡ false) J.need need_there;
    no_ring = λ n. subst (λ up. ClimbsToAnEnd up n) (sym (fun_ext above_joined)) (p.no_ring n);
    schema_alone = rw j.no_schema tt;
  }
    where
      new_of : (L : Intent) (m : NewNode) → Has L.new m → is_new L m.node ≡ true
      new_of L m h = found (find (λ (x : NewNode). same_node x.node m.node) L.new) refl
        where
          found : (o : Option NewNode) → find (λ (x : NewNode). same_node x.node m.node) L.new ≡ o → is_new L m.node ≡ true
          found (Some x) e = rw e refl
          found None e = absurd (true-false (same_node-itself m.node) (none-has (λ (x : NewNode). same_node x.node m.node) L.new m e h))

      apart : (x y : NewNode) → Has N.new x → Has M.new y → y.node ≢ x.node
      apart x y h i e = true-false (subst (λ n. is_new N n ≡ true) (sym e) (new_of N x h)) (ap is_some (second_new y.node (new_of M y i)).1)
