-- A document after an intent that makes the nodes of new trees: it keeps their list, and elsewhere it is as it was.
use Rattle.std.proofs.Common.{◌≡◌, ◌≢◌, ℕ, zero, suc, ◌+◌, ◌<◌, ◌≤◌, Bool, true, false, cond, List, [], ◌∷◌, ◌++◌, map, length, Option, Some, None, IsSome, IfSome, is_some, option_map, option_and_then, refl, sym, ap, ◌∙◌, subst, arith, append-nil, inl, inr, ◌⊎◌}
use Rattle.std.specs.Option.{option_or, option_map_or}
use Rattle.st_ids.specs.Listing.{Has}
use Rattle.st_ids.specs.Order.{same_node}
use Rattle.st_ids.specs.declared.names.CellId.{CellId}
use Rattle.st_ids.specs.declared.names.FieldId.{FieldId}
use Rattle.st_ids.specs.declared.names.NodeId.{NodeId}
use Rattle.st_ids.proofs.Orders.{same_node-true, same_node-itself, same_cell-itself}
use Rattle.st_tree.specs.Preorder.{node_named}
use Rattle.st_tree.specs.declared.flat.FlatAt.{FlatAt}
use Rattle.st_tree.specs.declared.flat.FlatNode.{FlatNode}
use Rattle.st_marks.specs.declared.changes.NewNode.{NewNode}
use Rattle.st_marks.specs.declared.intents.Group.{Group}
use Rattle.st_marks.specs.declared.intents.Intent.{Intent}
use Rattle.st_marks.specs.declared.intents.Owned.{Owned}
use Rattle.st_marks.specs.declared.intents.Put.{Put}
use Rattle.st_marks.specs.declared.intents.To.{To}
use Rattle.st_marks.specs.declared.places.Spot.{Spot}
use Rattle.st_marks.specs.declared.verdicts.Verdict.{Verdict}
use Rattle.st_marks.specs.Document.{Document, NodeType, IsSoundInForm, above, climb, node_of, is_cell, slot, owned_cell}
use Rattle.st_marks.specs.Intent.{Fits, new_type, put_of, put_in, clears, group_at}
use Rattle.st_marks.specs.CarryOut.{full, with_groups, with_names, spot_of, place_after, unless_cleared, unless_put}
use Rattle.st_marks.specs.Verdict.{IsVerdict}
use Rattle.st_marks.specs.LiveTree.{owners_shown, register}
use Rattle.st_marks.proofs.Lookups.{put-has, has-put, put_in-has, has-put_in, clears-has, group_at-group, group_found}
use Rattle.st_marks.proofs.Members.{has-map, map-has, first-distinct}
use Rattle.st_marks.proofs.NewRows.{row_cells}
use Rattle.st_marks.proofs.Full.{unput_above}
use Rattle.st_marks.proofs.Climb.{above_known}
use Rattle.st_edits.specs.New.{new_nodes, to_at, cells_under, group_of, group_under}
use Rattle.st_edits.specs.declared.names.NameCounters.{NameCounters}
use Rattle.st_edits.proofs.NewFits.{made_intent, NodesFresh, cells_under_has, cells_under_from}
use Rattle.st_edits.proofs.Numbered.{Counted, IsAt, IsNumbered, numbered, one_named, there_is, IsUnderArray}
use Rattle.st_opening.proofs.PreorderNames.{same_number}
use Rattle.st_schema_laws.specs.Alike.{AreAlikeAt}
use Rattle.st_schema_laws.proofs.NewTreesShown.{Keeps}
use Rattle.st_schema_laws.proofs.Rows.{owners_same, all_full}
use Rattle.st_schema_laws.proofs.Sound.{last_in_effect}
use Rattle.st_ids.proofs.Shared.{no_members}
use Rattle.st_lemmas.proofs.Options.{None-IsSome}

-- ## Lists

-- ## What is known of such an intent

pub record IsFilled (D : Document) (G : NameCounters) (into : Option FieldId) (m : NodeId) (xs : List FlatNode) (gs : List Group) (fs : List FieldId) : Type 0 where
  pub sound : IsSoundInForm D
  pub fits : Fits D (made_intent D G into xs gs fs)
  pub counted : Counted G.rev G.nodes xs G.nodes G.cells
  pub rows : (x : FlatNode) → Has xs x → IsUnderArray xs x.at
  pub nodes_fresh : NodesFresh D G
  pub known : IsSome (D.nodes m)
  pub into_m : IfSome into (λ f. f.node ≡ m)
  pub groups : (g : Group) → Has gs g → (g.node ≡ m) ⊎ ((x : FlatNode) × Has xs x × (group_under xs x ≡ Some g))
  pub own_group : (x : FlatNode) (g : Group) → Has xs x → group_under xs x ≡ Some g → Has gs g
  pub clears_old : (f : FieldId) → Has fs f → (f.node ≡ m) ⊎ (D.nodes f.node ≡ None)
  pub tops : (v : FlatNode) (d : CellId) → Has xs v → v.at ≡ FlatAt.Top d → into ≡ None → (with_names D (made_intent D G into xs gs fs)).row_of d ≡ Some m

module _ (D : Document) (G : NameCounters) (into : Option FieldId) (m : NodeId) (xs : List FlatNode) (gs : List Group) (fs : List FieldId) (w : IsFilled D G into m xs gs fs) where
  abbrev N : Intent
  N = made_intent D G into xs gs fs

  abbrev E : Document
  E = full D N

  abbrev put_at : FlatNode → Put
  put_at x = record { node = x.node; to = to_at into x.at }

  abbrev new_of : FlatNode → NewNode
  new_of x = record { node = x.node; ty = x.ty; leaf = x.leaf }

  number : (x : FlatNode) → Has xs x → IsNumbered G.rev G.nodes xs G.nodes G.cells x
  number x h = numbered G.rev G.nodes xs G.nodes G.cells x w.counted h

  pub fresh : (x : FlatNode) → Has xs x → D.nodes x.node ≡ None
  fresh x h = let r = number x h in ap D.nodes r.named ∙ w.nodes_fresh r.number r.low

  pub put_is : (x : FlatNode) → Has xs x → put_of N x.node ≡ Some (to_at into x.at)
  put_is x h = has-put N w.fits.itself (put_at x) (map-has put_at xs x h)

  pub old_unput : (y : NodeId) → IsSome (D.nodes y) → put_of N y ≡ None
  old_unput y known = go (put_of N y) refl
    where
      go : (o : Option To) → put_of N y ≡ o → put_of N y ≡ None
      go None e = e
      go (Some to) e =
          let x = has-map put_at xs (record { node = y; to = to }) (put-has N y to e) in
          absurd (None-IsSome (D.nodes y) (ap D.nodes (sym (ap (λ (p : Put). p.node) x.2)) ∙ fresh x.0 x.1) known)

  -- a node that is put is new
  put_new : (y : NodeId) → IsSome (put_of N y) → (x : FlatNode) × Has xs x × (x.node ≡ y)
  put_new y h = go (put_of N y) refl h
    where
      go : (o : Option To) → put_of N y ≡ o → IsSome o → (x : FlatNode) × Has xs x × (x.node ≡ y)
      go None e h = absurd (cc)
      go (Some to) e h = let x = has-map put_at xs (record { node = y; to = to }) (put-has N y to e) in (x.0, x.1, ap (λ (p : Put). p.node) x.2)

  pub old_full : (c : CellId) (y : NodeId) → IsSome (D.nodes y) → is_cell c (E.place y) ≡ is_cell c (D.place y)
  old_full c y known = ap (λ o. is_cell c (place_after (with_names D N).row_of N o (D.place y))) (old_unput y known) ∙ go (D.place y)
    where
      go : (s : Spot) → is_cell c (unless_cleared N s) ≡ is_cell c s
      go Spot.Nowhere = refl
      go (Spot.Row r d) = refl
      go (Spot.Register f) = elim (clears N f) as (λ b. is_cell c (cond b Spot.Nowhere (Spot.Register f)) ≡ false) [ true ↦ refl | false ↦ refl ]

  -- ## Its groups

  pub own_cells : (x : FlatNode) (g : Group) → group_under xs x ≡ Some g → (g.node ≡ x.node) × (g.after ≡ None) × (g.cells ≡ cells_under xs x.node)
  own_cells x g e = go x.row e
    where
      is : (os : List Owned) → group_of x.node None os ≡ Some g → (g.node ≡ x.node) × (g.after ≡ None) × (g.cells ≡ os)
      is [] f = absurd (cc)
      is (o ∷ os) f = let q : record { node = x.node; after = None; cells = o ∷ os } ≡ g = cc in (ap (λ (g : Group). g.node) (sym q), ap (λ (g : Group). g.after) (sym q), ap (λ (g : Group). g.cells) (sym q))

      go : (b : Bool) → cond b (group_of x.node None (cells_under xs x.node)) None ≡ Some g → (g.node ≡ x.node) × (g.after ≡ None) × (g.cells ≡ cells_under xs x.node)
      go true f = is (cells_under xs x.node) f
      go false f = absurd (cc)

  group_new : (g : Group) → Has gs g → (g.node ≡ m) ⊎ (D.nodes g.node ≡ None)
  group_new g h = elim (w.groups g h) [ inl e ↦ inl e | inr x ↦ inr (ap D.nodes (own_cells x.0 g x.2).0 ∙ fresh x.0 x.1) ]

  -- no cells come into the row of another old node
  pub old_row : (n : NodeId) → IsSome (D.nodes n) → n ≢ m → (a : Option CellId) → group_at N n a ≡ []
  old_row n known apart a = no_members (group_at N n a) (λ o h.
      let g = group_at-group N n a o h in
      elim (group_new g.group g.listed) [
        | inl e ↦ apart (sym g.node ∙ e)
        | inr e ↦ None-IsSome (D.nodes n) (ap D.nodes (sym g.node) ∙ e) known
      ])

  new_row : (x : FlatNode) → Has xs x → group_at N x.node None ≡ cells_under xs x.node
  new_row x h = go (cells_under xs x.node) refl
    where
      is_row : (o : Owned) → Has (cells_under xs x.node) o → x.row ≡ true
      is_row o k =
          let y = cells_under_from xs x.node o k in
          let a = subst (IsUnderArray xs) y.2 (w.rows y.0 y.1) in
          ap (λ (z : FlatNode). z.row) (sym (one_named G.rev G.nodes xs G.nodes G.cells a.0 x w.counted a.1 h a.2)) ∙ a.3

      go : (os : List Owned) → cells_under xs x.node ≡ os → group_at N x.node None ≡ cells_under xs x.node
      go [] e = no_members (group_at N x.node None) (λ o k.
          let g = group_at-group N x.node None o k in
          elim (w.groups g.group g.listed) [
            | inl q ↦ None-IsSome (D.nodes m) (ap D.nodes (sym q ∙ g.node) ∙ fresh x h) w.known
            | inr y ↦ (let own = own_cells y.0 g.group y.2 in subst (λ os. Has os o) (own.2 ∙ ap (cells_under xs) (sym own.0 ∙ g.node) ∙ e) g.cell)
          ]) ∙ sym e
      go (o ∷ os) e =
          let g : Group = record { node = x.node; after = None; cells = o ∷ os } in
          let rowed = is_row o (subst (λ l. Has l o) (sym e) (inl refl)) in
          let is : group_under xs x ≡ Some g = ap (λ b. cond b (group_of x.node None (cells_under xs x.node)) None) rowed ∙ ap (group_of x.node None) e in
          group_found N w.fits.itself g (w.own_group x g h is) ∙ sym e

  no_rows : (x : FlatNode) → Has xs x → D.rows x.node ≡ []
  no_rows x h = no_members (D.rows x.node) (λ o k. None-IsSome (D.nodes x.node) (fresh x h) (w.sound.cells_known x.node o k).0)

  pub new_rows : (x : FlatNode) → Has xs x → E.rows x.node ≡ cells_under xs x.node
  new_rows x h = (λ i. new_row x h i ++ with_groups N x.node (no_rows x h i)) ∙ append-nil (cells_under xs x.node)

  row_of_new : (x : FlatNode) (o : Owned) → Has xs x → Has (cells_under xs x.node) o → (with_names D N).row_of o.cell ≡ Some x.node
  row_of_new x o h k = (row_cells D N w.sound w.fits x.node o (subst (λ os. Has os o) (sym (new_rows x h)) k)).0

  full_new : (x : FlatNode) (o : Owned) → Has xs x → Has (cells_under xs x.node) o → is_cell o.cell (E.place o.node) ≡ true
  full_new x o h k =
      let y = cells_under_from xs x.node o k in
      let put : put_of N o.node ≡ Some (To.Cell o.cell) = ap (put_of N) (sym y.3) ∙ put_is y.0 y.1 ∙ ap (λ at. Some (to_at into at)) y.2 in
      ap (λ p. is_cell o.cell (place_after (with_names D N).row_of N p (D.place o.node))) put
      ∙ ap (λ r. is_cell o.cell (option_map_or (λ n. Spot.Row n o.cell) r Spot.Nowhere)) (row_of_new x o h k) ∙ same_cell-itself o.cell

  -- ## Its registers

  pub new_field : (v : FlatNode) (f : FieldId) → Has xs v → v.at ≡ FlatAt.Register f → D.nodes f.node ≡ None
  new_field v f h e =
      let r = number v h in
      let at = subst (IsAt G.rev G.nodes r.number r.cell) e r.at in
      ap D.nodes at.3 ∙ w.nodes_fresh at.0 at.1

  -- a node that is put into a register
  pub put_there : (v : FlatNode) (f : FieldId) → Has xs v → to_at into v.at ≡ To.Register f → (into ≡ Some f) ⊎ (v.at ≡ FlatAt.Register f)
  put_there v f h e = go into v.at refl e
    where
      go : (o : Option FieldId) (at : FlatAt) → v.at ≡ at → to_at o at ≡ To.Register f → (o ≡ Some f) ⊎ (v.at ≡ FlatAt.Register f)
      go o FlatAt.Root p q = absurd (cc)
      go None (FlatAt.Top c) p q = absurd (cc)
      go (Some g) (FlatAt.Top c) p q = let s : g ≡ f = cc in inl (ap (λ x. Some x) s)
      go o (FlatAt.Row r c) p q = absurd (cc)
      go o (FlatAt.Register g) p q = let s : g ≡ f = cc in inr (p ∙ ap (λ x. FlatAt.Register x) s)

  pub filled_from : (f : FieldId) (y : NodeId) → put_in N f ≡ Some y → (v : FlatNode) × Has xs v × (v.node ≡ y) × (to_at into v.at ≡ To.Register f)
  filled_from f y e =
      let v = has-map put_at xs (record { node = y; to = To.Register f }) (put_in-has N f y e) in
      (v.0, v.1, ap (λ (p : Put). p.node) v.2, ap (λ (p : Put). p.to) v.2)

  pub filled : (v : FlatNode) (f : FieldId) → Has xs v → to_at into v.at ≡ To.Register f → E.held f ≡ Some v.node
  filled v f h e =
      ap (λ o. option_or o (cond (clears N f) None (unless_put N (D.held f))))
      (has-put_in N w.fits.itself v.node f (subst (λ to. Has N.put (record { node = v.node; to = to })) e (map-has put_at xs v h)))

  into_is : (f : FieldId) → into ≡ Some f → f.node ≡ m
  into_is f e = subst (λ o. IfSome o (λ g. g.node ≡ m)) e w.into_m

  -- a register of another old node holds what it held
  pub old_held : (f : FieldId) → IsSome (D.nodes f.node) → f.node ≢ m → E.held f ≡ D.held f
  old_held f known apart = go (put_in N f) refl
    where
      not_cleared : (b : Bool) → clears N f ≡ b → clears N f ≡ false
      not_cleared false e = e
      not_cleared true e = elim (w.clears_old f (clears-has fs f e)) [ inl q ↦ absurd (apart q) | inr q ↦ absurd (None-IsSome (D.nodes f.node) q known) ]

      unput : (o : Option NodeId) → D.held f ≡ o → unless_put N o ≡ o
      unput None e = refl
      unput (Some y) e = ap (λ b. cond b None (Some y)) (ap is_some (old_unput y (w.sound.held_known y f e).0))

      go : (o : Option NodeId) → put_in N f ≡ o → option_or o (cond (clears N f) None (unless_put N (D.held f))) ≡ D.held f
      go None e = ap (λ b. cond b None (unless_put N (D.held f))) (not_cleared (clears N f) refl) ∙ unput (D.held f) refl
      go (Some y) e =
          let v = filled_from f y e in
          elim (put_there v.0 f v.1 v.3) [
            | inl q ↦ absurd (apart (into_is f q))
            | inr q ↦ absurd (None-IsSome (D.nodes f.node) (new_field v.0 f v.1 q) known)
          ]

  pub old_node : (x : NodeId) (t : NodeType) → D.nodes x ≡ Some t → E.nodes x ≡ Some t
  old_node x t e = ap (λ o. option_or o (new_type N x)) e

  pub alike : (x : NodeId) → IsSome (D.nodes x) → x ≢ m → AreAlikeAt D E x
  alike x known apart = record {
    node = old_node x;
    row = (λ i. owners_shown (map (slot E) (old_row x known apart None i ++ with_groups N x (D.rows x)))) ∙ ap (λ os. owners_shown (map (slot E) os)) (ungrown (D.rows x))
        ∙ owners_same D E (D.rows x) (λ o h. old_full o.cell o.node (w.sound.cells_known x o h).1);
    held = λ k. old_held (register x k) known apart;
  }
    where
      ungrown : (os : List Owned) → with_groups N x os ≡ os
      ungrown [] = refl
      ungrown (o ∷ os) = (λ i. o ∷ (old_row x known apart (Some o.cell) i ++ with_groups N x os)) ∙ ap (λ l. o ∷ l) (ungrown os)

  -- ## It keeps the list

  pub new_is : (z : FlatNode) → Has xs z → E.nodes z.node ≡ Some (record { ty = z.ty; leaf = z.leaf })
  new_is z h =
      ap (λ o. option_or o (new_type N z.node)) (fresh z h)
      ∙ ap (option_map (λ (k : NewNode). record { ty = k.ty; leaf = k.leaf }))
      (first-distinct (λ (k : NewNode). k.node) (new_nodes xs) (λ (k : NewNode). same_node k.node z.node) (new_of z) w.fits.itself.new_once (map-has new_of xs z h) (same_node-itself z.node) (λ k t. same_node-true k.node z.node t))

  held_from : (z : FlatNode) (f : FieldId) (y : NodeId) → Has xs z → f.node ≡ z.node → E.held f ≡ Some y → (v : FlatNode) × Has xs v × (v.at ≡ FlatAt.Register f)
  held_from z f y h own e = go (put_in N f) refl e
    where
      unknown : D.nodes f.node ≡ None
      unknown = ap D.nodes own ∙ fresh z h

      empty : (o : Option NodeId) → D.held f ≡ o → unless_put N o ≡ None
      empty None q = refl
      empty (Some x) q = absurd (None-IsSome (D.nodes f.node) unknown (w.sound.held_known x f q).1)

      nothing : (b : Bool) → cond b None (unless_put N (D.held f)) ≡ Some y → ⊥
      nothing true q = cc
      nothing false q = let bad : None ≡ Some y = sym (empty (D.held f) refl) ∙ q in cc

      go : (o : Option NodeId) → put_in N f ≡ o → option_or o (cond (clears N f) None (unless_put N (D.held f))) ≡ Some y → (v : FlatNode) × Has xs v × (v.at ≡ FlatAt.Register f)
      go None p q = absurd (nothing (clears N f) q)
      go (Some x) p q =
          let v = filled_from f x p in
          elim (put_there v.0 f v.1 v.3) [
            | inl r ↦ absurd (None-IsSome (D.nodes m) (ap D.nodes (sym (into_is f r)) ∙ unknown) w.known)
            | inr r ↦ (v.0, v.1, r)
          ]

  pub keeps : Keeps E xs
  keeps = record {
    node_is = new_is;
    row_is = λ z h. ap (λ os. owners_shown (map (slot E) os)) (new_rows z h) ∙ all_full E (cells_under xs z.node) (λ o k. full_new z o h k);
    in_register = λ v z f h k e own. filled v f k (ap (to_at into) e);
    from_register = held_from;
  }

  -- ## It makes no ring

  abbrev IsOld : NodeId → Type 0
  IsOld y = IsSome (D.nodes y)

  -- a new node of a number that isn't above j
  abbrev IsLow : ℕ → NodeId → Type 0
  IsLow j p = (u : FlatNode) × (h : Has xs u) × (u.node ≡ p) × ((number u h).number ≤ j)

  abbrev IsLess : ℕ → NodeId → Type 0
  IsLess j p = (u : FlatNode) × (h : Has xs u) × (u.node ≡ p) × ((number u h).number < j)

  -- a node of a lower number
  less_than : (j k : ℕ) (p : NodeId) (u : FlatNode) → Has xs u → u.node ≡ p → p ≡ node_named G.rev k → k < j → IsLess j p
  less_than j k p u h e q less =
      let r = number u h in
      let same : r.number ≡ k = same_number G.rev r.number k (sym r.named ∙ e ∙ q) in
      (u, h, e, omega (arith, same, less))

  old_up : (y p : NodeId) → IsOld y → above E y ≡ Some p → IsOld p
  old_up y p known e = elim (unput_above D N y (old_unput y known)) [
    | inl q ↦ (let bad : None ≡ Some p = sym q ∙ e in cc)
    | inr q ↦ above_known D w.sound y p (sym q ∙ e)
  ]

  place_new : (v : FlatNode) → Has xs v → above E v.node ≡ node_of (spot_of (with_names D N).row_of (to_at into v.at))
  place_new v h = ap (λ o. node_of (place_after (with_names D N).row_of N o (D.place v.node))) (put_is v h)

  new_up : (v : FlatNode) (h : Has xs v) (p : NodeId) → above E v.node ≡ Some p → IsOld p ⊎ IsLess (number v h).number p
  new_up v h p e = go into refl v.at refl (number v h).at (sym (place_new v h) ∙ e)
    where
      j : ℕ
      j = (number v h).number

      high : j < G.nodes + length xs
      high = (number v h).high

      is_m : (q : NodeId) → q ≡ m → q ≡ p → IsOld p
      is_m q a b = subst IsOld (sym a ∙ b) w.known

      in_cell : (d : CellId) (r q : NodeId) → (with_names D N).row_of d ≡ Some r → node_of (option_map_or (λ n. Spot.Row n d) ((with_names D N).row_of d) Spot.Nowhere) ≡ Some p → r ≡ p
      in_cell d r q a b = let c : Some r ≡ Some p = sym (ap (λ o. node_of (option_map_or (λ n. Spot.Row n d) o Spot.Nowhere)) a) ∙ b in cc

      go : (o : Option FieldId) → into ≡ o → (at : FlatAt) → v.at ≡ at → IsAt G.rev G.nodes j (number v h).cell at → node_of (spot_of (with_names D N).row_of (to_at o at)) ≡ Some p → IsOld p ⊎ IsLess j p
      go o i FlatAt.Root a is f = absurd is
      go None i (FlatAt.Top d) a is f = inl (is_m m refl (in_cell d m m (w.tops v d h a i) f))
      go (Some g) i (FlatAt.Top d) a is f = inl (is_m g.node (into_is g i) (let c : Some g.node ≡ Some p = f in cc))
      go o i (FlatAt.Row r d) a is f =
          let z = subst (IsUnderArray xs) a (w.rows v h) in
          let row = row_of_new z.0 (owned_cell d v.node) z.1 (cells_under_has xs z.0.node v d h (a ∙ ap (λ q. FlatAt.Row q d) (sym z.2))) in
          let same = in_cell d z.0.node p row f in
          inr (less_than j is.1.0 p z.0 z.1 same (sym same ∙ z.2 ∙ is.1.3) is.1.2)
      go o i (FlatAt.Register g) a is f =
          let u = there_is G.rev G.nodes xs G.nodes G.cells is.0 w.counted is.1 (omega (arith, is.2, high)) in
          let same : g.node ≡ p = (let c : Some g.node ≡ Some p = f in cc) in
          inr (less_than j is.0 p u.0 u.1 (u.2 ∙ sym is.3 ∙ same) (sym same ∙ is.3) is.2)

  old_climb : (k : ℕ) (y z : NodeId) → IsOld y → climb (above E) k y ≡ Some z → IsOld z
  old_climb zero y z known e = let same : y ≡ z = cc in subst IsOld same known
  old_climb (suc k) y z known e = go (above E y) refl (λ p q f. old_climb k p z q f) e
    where
      go : (o : Option NodeId) → above E y ≡ o → ((p : NodeId) → IsOld p → climb (above E) k p ≡ Some z → IsOld z) → option_and_then (climb (above E) k) o ≡ Some z → IsOld z
      go None q rest f = cc
      go (Some p) q rest f = rest p (old_up y p known q) f

  new_climb : (k : ℕ) (v : FlatNode) (h : Has xs v) (z : NodeId) → climb (above E) k v.node ≡ Some z → IsOld z ⊎ IsLow (number v h).number z
  new_climb zero v h z e = let same : v.node ≡ z = cc in inr (v, h, same, omega arith)
  new_climb (suc k) v h z e = go (above E v.node) refl (λ u i f. new_climb k u i z f) e
    where
      onward : (u : FlatNode) (i : Has xs u) → (number u i).number < (number v h).number → IsOld z ⊎ IsLow (number u i).number z → IsOld z ⊎ IsLow (number v h).number z
      onward u i less (inl q) = inl q
      onward u i less (inr q) = inr (q.0, q.1, q.2, omega (arith, q.3, less))

      go : (o : Option NodeId) → above E v.node ≡ o → ((u : FlatNode) (i : Has xs u) → climb (above E) k u.node ≡ Some z → IsOld z ⊎ IsLow (number u i).number z) → option_and_then (climb (above E) k) o ≡ Some z
          → IsOld z ⊎ IsLow (number v h).number z
      go None q rest f = cc
      go (Some p) q rest f = elim (new_up v h p q) [
        | inl old ↦ inl (old_climb k p z old f)
        | inr u ↦ onward u.0 u.1 u.3 (rest u.0 u.1 (ap (climb (above E) k) u.2 ∙ f))
      ]

  no_ring : (v : FlatNode) (h : Has xs v) (k : ℕ) → climb (above E) (suc k) v.node ≡ Some v.node → ⊥
  no_ring v h k e = go (above E v.node) refl e
    where
      new : IsOld v.node → ⊥
      new old = None-IsSome (D.nodes v.node) (fresh v h) old

      again : (u : FlatNode) (i : Has xs u) → (number u i).number < (number v h).number → IsOld v.node ⊎ IsLow (number u i).number v.node → ⊥
      again u i less (inl old) = new old
      again u i less (inr q) =
          let a = number q.0 q.1 in
          let b = number v h in
          let same : a.number ≡ b.number = same_number G.rev a.number b.number (sym a.named ∙ q.2 ∙ b.named) in
          omega (arith, same, less, q.3)

      go : (o : Option NodeId) → above E v.node ≡ o → option_and_then (climb (above E) k) o ≡ Some v.node → ⊥
      go None q f = cc
      go (Some p) q f = elim (new_up v h p q) [
        | inl old ↦ new (old_climb k p v.node old f)
        | inr u ↦ again u.0 u.1 u.3 (new_climb k u.0 u.1 v.node (ap (climb (above E) k) u.2 ∙ f))
      ]

  pub made_verdict : IsVerdict D N Verdict.Sound
  made_verdict = (
    last_in_effect D G w.sound,
    (λ x h. absurd h.0),
    λ x h. (let v = put_new x h.0 in no_ring v.0 v.1 h.1.0 (subst (λ y. climb (above E) (suc h.1.0) y ≡ Some y) (sym v.2) h.1.1)),
  )
