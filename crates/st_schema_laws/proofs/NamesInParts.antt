-- An edit names new nodes and nodes of the part alone, where the part is closed.
use Rattle.std.proofs.Common.{◌≡◌, ◌+◌, ℕ, zero, suc, Bool, true, false, List, [], ◌∷◌, Option, Some, None, IsSome, IfSome, Ok, option_map, slice_get, refl, sym, ap, ◌∙◌, subst, arith, inl, inr, ◌⊎◌}
use Rattle.std.specs.List.{flat_map}
use Rattle.std.specs.Option.{option_or, option_map_or}
use Rattle.st_lemmas.proofs.Bools.{true-false}
use Rattle.st_lemmas.proofs.Options.{IsSome-Some, None-IsSome, one_some}
use Rattle.st_ids.specs.Listing.{Has}
use Rattle.st_ids.specs.Order.{same_node}
use Rattle.st_ids.specs.Root.{root}
use Rattle.st_ids.specs.declared.names.CellId.{CellId}
use Rattle.st_ids.specs.declared.names.FieldId.{FieldId}
use Rattle.st_ids.specs.declared.names.Key.{Key}
use Rattle.st_ids.specs.declared.names.NodeId.{NodeId}
use Rattle.st_ids.proofs.Orders.{same_node-itself}
use Rattle.st_ids.proofs.Shared.{at_has, filter-from}
use Rattle.st_tree.specs.Node.{Nodes, first, no_nodes, trees_view, view}
use Rattle.st_tree.specs.declared.edit.Edit.{Edit}
use Rattle.st_tree.specs.declared.flat.FlatNode.{FlatNode}
use Rattle.st_schema.specs.Schema.{SchemaView}
use Rattle.st_schema.specs.declared.names.KindName.{KindName}
use Rattle.st_schema.specs.declared.names.KindName.TheVariants.{Required, Optional, Sequence}
use Rattle.st_marks.specs.declared.changes.NewNode.{NewNode}
use Rattle.st_marks.specs.declared.intents.Group.{Group}
use Rattle.st_marks.specs.declared.intents.Intent.{Intent}
use Rattle.st_marks.specs.declared.intents.Owned.{Owned}
use Rattle.st_marks.specs.declared.intents.Put.{Put}
use Rattle.st_marks.specs.declared.intents.To.{To}
use Rattle.st_marks.specs.declared.places.Slot.{Slot}
use Rattle.st_marks.specs.declared.places.Spot.{Spot}
use Rattle.st_marks.specs.CarryOut.{spot_of, with_names}
use Rattle.st_marks.specs.Document.{Document, IsSoundInForm, is_cell, node_of, owned_cell}
use Rattle.st_marks.specs.Intent.{Fits, IsKnown, Owns, group_cells, is_new, new_node, new_row_of, put_of}
use Rattle.st_marks.specs.LiveTree.{live_slots}
use Rattle.st_marks.proofs.Full.{known_put}
use Rattle.st_marks.proofs.Lookups.{clears-has, group-new_row_of, made_there, put-has, put_clears}
use Rattle.st_marks.proofs.Members.{all-has, append_left, distinct-has, has-map, map-has, none-has}
use Rattle.st_log_laws.proofs.Names.{new_node_rev}
use Rattle.st_edits.specs.New.{group_of, group_under, groups_under, new_nodes, puts, to_at, top_cells}
use Rattle.st_edits.specs.Paths.{field_at, items_from, left_of}
use Rattle.st_edits.specs.Resolve.{cells_for, empty_intent, intent_to_insert, intent_to_move, intent_to_place, intent_to_remove, moved_to_row, named_nodes, resolve, with_group}
use Rattle.st_edits.specs.declared.names.NameCounters.{NameCounters}
use Rattle.st_edits.proofs.Fits.{shown}
use Rattle.st_edits.proofs.NewFits.{NodesFresh, group_is, under_at, with_has}
use Rattle.st_edits.proofs.Numbered.{tops_counted}
use Rattle.st_schema_laws.proofs.Beneath.{row_above}
use Rattle.st_schema_laws.proofs.Cleared.{is_clearing, is_need}
use Rattle.st_schema_laws.proofs.Filled.{is_setting}
use Rattle.st_schema_laws.proofs.Inserted.{is_insertion}
use Rattle.st_schema_laws.proofs.Moves.{is_move}
use Rattle.st_schema_laws.proofs.Named.{registers_new}
use Rattle.st_schema_laws.proofs.Removed.{is_removal, items_in}
use Rattle.st_part_laws.specs.Parts.{IsClosedBy, NamesWithin}
use Rattle.st_schema_laws.proofs.Live.{owner_in, walk_in}
use Rattle.st_schema_laws.proofs.EditsInParts.{taken_in}

-- an anchor is a cell of the row, of an owner that passes
abbrev IsAnchor : (NodeId → Bool) → Document → NodeId → Option CellId → Type 0
IsAnchor p D n after = IfSome after (λ c. (o : Owned) × Has (D.rows n) o × (o.cell ≡ c) × (p o.node ≡ true))

-- the old nodes that an intent names pass, and it puts nodes into new cells alone
pub record IsFromPart (p : NodeId → Bool) (D : Document) (G : NameCounters) (N : Intent) : Type 0 where
  pub rev : N.rev ≡ G.rev
  pub under : N.under ≡ (empty_intent D G).under
  pub no_schema : N.schema ≡ None
  pub groups : (g : Group) → Has N.groups g → (p g.node ≡ true) × IsAnchor p D g.node g.after
  pub puts : (m : NodeId) (to : To) → put_of N m ≡ Some to → p m ≡ true
  pub cells : (m : NodeId) (c : CellId) → put_of N m ≡ Some (To.Cell c) → Has (group_cells N) (owned_cell c m)
  pub clears : (f : FieldId) → Has N.clear f → p f.node ≡ true
  pub needs : (n : NodeId) → Has N.need n → p n ≡ true

module _ (p : NodeId → Bool) (D : Document) (sound : IsSoundInForm D) where
  -- ## From what lists say

  pub within_of : (G : NameCounters) (N : Intent) → Fits D N → ((n : NodeId) → n.0.rev ≡ G.rev → p n ≡ true) → IsFromPart p D G N → NamesWithin p D N
  within_of G N f own w = record {
    new = new;
    groups = λ g h. (w.groups g h).0;
    owners = λ o h. elim (all-has (λ (o : Owned). (is_new N o.node ≡ true) ⊎ IsSome (put_of N o.node)) (group_cells N) o f.itself.owners h) [
      | inl i ↦ new o.node i
      | inr i ↦ (let to = IsSome-Some (put_of N o.node) i in w.puts o.node to.0 to.1)
    ];
    anchors = anchor;
    puts = w.puts;
    targets = target;
    clears = w.clears;
    needs = w.needs;
  }
    where
      new : (n : NodeId) → is_new N n ≡ true → p n ≡ true
      new n i = own n (new_node_rev N f.itself n i ∙ w.rev)

      anchor : (g : Group) (n : NodeId) (o : Owned) → Has N.groups g → g.after ≡ Some o.cell → Has (D.rows n) o → p o.node ≡ true
      anchor g n o h e i =
          let q = subst (IsAnchor p D g.node) e (w.groups g h).1 in
          let low : D.row_of o.cell ≡ Some n = (sound.one_row o.cell n).1 (o.node, i) in
          let high : D.row_of q.0.cell ≡ Some g.node = (sound.one_row q.0.cell g.node).1 (q.0.node, q.1) in
          let row : g.node ≡ n = one_some g.node n (sym high ∙ ap D.row_of q.2 ∙ low) in
          let same : q.0 ≡ o = distinct-has (λ (o : Owned). o.cell) (D.rows n) q.0 o (sound.once n) (subst (λ r. Has (D.rows r) q.0) row q.1) i q.2 in
          ap (λ (o : Owned). p o.node) (sym same) ∙ q.3

      target : (m n : NodeId) (to : To) → put_of N m ≡ Some to → node_of (spot_of (with_names D N).row_of to) ≡ Some n → p n ≡ true
      target m n To.Nowhere e k = let bad : None ≡ Some n = k in cc
      target m n (To.Register r) e k =
          let at : r.node ≡ n = one_some r.node n k in
          ap p (sym at) ∙ w.clears r (clears-has N.clear r (put_clears N f.itself m r (put-has N m (To.Register r) e)))
      target m n (To.Cell c) e k =
          let made : IsSome (new_row_of N c) = made_there N (owned_cell c m) (w.cells m c e) in
          go (new_row_of N c) refl (subst (λ o. node_of (option_map_or (λ n. Spot.Row n c) (option_or o (new_row_of N c)) Spot.Nowhere) ≡ Some n) (f.fresh_cells c made) k)
        where
          go : (o : Option NodeId) → new_row_of N c ≡ o → node_of (option_map_or (λ n. Spot.Row n c) o Spot.Nowhere) ≡ Some n → p n ≡ true
          go None q k = let bad : None ≡ Some n = k in cc
          go (Some t) q k =
              let at : t ≡ n = one_some t n k in
              let g = group-new_row_of N c t q in
              ap p (sym (g.2 ∙ at)) ∙ (w.groups g.0 g.1).0

  module _ (closed : IsClosedBy p D) where
    -- ## The item left of an index

    left_anchor : (m : NodeId) (index : ℕ) → p m ≡ true → IsAnchor p D m (left_of D m index)
    left_anchor m zero e = tt
    left_anchor m (suc j) e = go (slice_get (live_slots D m) j) refl
      where
        go : (o : Option Slot) → slice_get (live_slots D m) j ≡ o → IsAnchor p D m (option_map (λ (s : Slot). s.cell) o)
        go None q = tt
        go (Some s) q =
            let there = shown D m s (at_has (live_slots D m) j s q) in
            (owned_cell s.cell s.node, there.in_row, refl, in_part s there.full (owner_in p D sound closed m e (owned_cell s.cell s.node) there.in_row))
          where
            in_part : (s : Slot) → is_cell s.cell (D.place s.node) ≡ true → (p s.node ≡ true) ⊎ (is_cell s.cell (D.place s.node) ≡ false) → p s.node ≡ true
            in_part s full (inl h) = h
            in_part s full (inr h) = absurd (true-false full h)

    -- ## New trees

    module _ (G : NameCounters) (N : Intent) (f : Fits D N) (own : (n : NodeId) → n.0.rev ≡ G.rev → p n ≡ true) (rev : N.rev ≡ G.rev) (m : NodeId) (here : p m ≡ true)
        (into : Option FieldId) (xs : List FlatNode) (new : N.new ≡ new_nodes xs) (put : N.put ≡ puts into xs) where
      listed_new : (x : FlatNode) → Has xs x → is_new N x.node ≡ true
      listed_new x h = go (new_node N x.node) refl
        where
          listed : Has N.new (record { node = x.node; ty = x.ty; leaf = x.leaf })
          listed = subst (λ l. Has l (record { node = x.node; ty = x.ty; leaf = x.leaf })) (sym new) (map-has (λ (x : FlatNode). record { node = x.node; ty = x.ty; leaf = x.leaf }) xs x h)

          go : (o : Option NewNode) → new_node N x.node ≡ o → is_new N x.node ≡ true
          go None e = absurd (true-false (same_node-itself x.node) (none-has (λ (m : NewNode). same_node m.node x.node) N.new (record { node = x.node; ty = x.ty; leaf = x.leaf }) e listed))
          go (Some k) e = rw e refl

      new_in : (n : NodeId) → is_new N n ≡ true → p n ≡ true
      new_in n i = own n (new_node_rev N f.itself n i ∙ rev)

      put_new : (n : NodeId) (to : To) → put_of N n ≡ Some to → is_new N n ≡ true
      put_new n to e =
          let x = has-map (λ (x : FlatNode). record { node = x.node; to = to_at into x.at }) xs (record { node = n; to = to }) (subst (λ l. Has l (record { node = n; to = to })) put (put-has N n to e)) in
          ap (is_new N) (sym (ap (λ (p : Put). p.node) x.2)) ∙ listed_new x.0 x.1

      in_new_cell : (n : NodeId) (c : CellId) → put_of N n ≡ Some (To.Cell c) → Has (group_cells N) (owned_cell c n)
      in_new_cell n c e = go (known_put D N f n (To.Cell c) e).1
        where
          go : Owns D N n c → Has (group_cells N) (owned_cell c n)
          go (inl h) = absurd (None-IsSome (D.nodes n) (f.fresh_nodes n (put_new n (To.Cell c) e)) (sound.cells_known h.0 (owned_cell c n) h.1).1)
          go (inr h) = h

      field_in : (r : FieldId) → Has N.clear r → (r.node ≡ m) ⊎ (D.nodes r.node ≡ None) → p r.node ≡ true
      field_in r h (inl e) = ap p e ∙ here
      field_in r h (inr none) = elim (all-has (λ (r : FieldId). IsKnown D N r.node) N.clear r f.clears_known h) [
        | inl i ↦ new_in r.node i
        | inr known ↦ absurd (None-IsSome (D.nodes r.node) none known)
      ]

      under_in : (g : Group) → Has (groups_under xs) g → (p g.node ≡ true) × IsAnchor p D g.node g.after
      under_in g h =
          let x = filter-from (group_under xs) xs g h in
          let is = under_at xs x.0 g x.2 in
          (ap p is.node ∙ new_in x.0.node (listed_new x.0 x.1), subst (IsAnchor p D g.node) (sym is.after) tt)

      trees_in : N.under ≡ (empty_intent D G).under → N.schema ≡ None → N.need ≡ [] → ((g : Group) → Has N.groups g → (p g.node ≡ true) × IsAnchor p D g.node g.after)
          → ((r : FieldId) → Has N.clear r → (r.node ≡ m) ⊎ (D.nodes r.node ≡ None)) → IsFromPart p D G N
      trees_in under no_schema need groups clears = record {
        rev = rev;
        under = under;
        no_schema = no_schema;
        groups = groups;
        puts = λ n to e. new_in n (put_new n to e);
        cells = in_new_cell;
        clears = λ r h. field_in r h (clears r h);
        needs = λ n h. absurd (subst (λ l. Has l n) need h);
      }

    insertion_in : (G : NameCounters) (m : NodeId) (index : ℕ) (trees : Nodes) → NodesFresh D G → Fits D (intent_to_insert D G m index (named_nodes G trees)) → ((n : NodeId) → n.0.rev ≡ G.rev → p n ≡ true)
        → p m ≡ true → IsFromPart p D G (intent_to_insert D G m index (named_nodes G trees))
    insertion_in G m index trees fresh f own here =
        let xs = named_nodes G trees in
        let N = intent_to_insert D G m index xs in
        trees_in G N f own refl m here None xs refl refl refl refl refl
        (λ g h. elim (with_has (group_of m (left_of D m index) (top_cells xs)) (groups_under xs) g h) [
          | inl e ↦ (let is = group_is m (left_of D m index) (top_cells xs) g e in (ap p is.node ∙ here, subst (IsAnchor p D g.node) (sym is.after) (subst (λ n. IsAnchor p D n (left_of D m index)) (sym is.node) (left_anchor m index here))))
          | inr k ↦ under_in G N f own refl m here None xs refl refl g k
        ])
        (λ r h. inr (registers_new D G xs (tops_counted G.rev G.nodes G.nodes G.cells trees (omega arith)) fresh r h))

    setting_in : (G : NameCounters) (m : NodeId) (key : Key) (trees : Nodes) → NodesFresh D G → Fits D (intent_to_place D G (field_at m key) (named_nodes G trees)) → ((n : NodeId) → n.0.rev ≡ G.rev → p n ≡ true)
        → p m ≡ true → IsFromPart p D G (intent_to_place D G (field_at m key) (named_nodes G trees))
    setting_in G m key trees fresh f own here =
        let xs = named_nodes G trees in
        let N = intent_to_place D G (field_at m key) xs in
        trees_in G N f own refl m here (Some (field_at m key)) xs refl refl refl refl refl
        (λ g h. under_in G N f own refl m here (Some (field_at m key)) xs refl refl g h)
        (λ r h. elim h [
          | inl e ↦ inl (ap (λ (f : FieldId). f.node) (sym e))
          | inr k ↦ inr (registers_new D G xs (tops_counted G.rev G.nodes G.nodes G.cells trees (omega arith)) fresh r k)
        ])

    -- ## Moves

    cell_owner : (G : NameCounters) (c : ℕ) (ns : List NodeId) (o : Owned) → Has (cells_for G.rev c ns) o → Has ns o.node
    cell_owner G c [] o h = absurd h
    cell_owner G c (n ∷ ns) o (inl e) = inl (ap (λ (p : Owned). p.node) e)
    cell_owner G c (n ∷ ns) o (inr h) = inr (cell_owner G (c + 1) ns o h)

    in_group : (n : NodeId) (a : Option CellId) (os : List Owned) (o : Owned) → Has os o → Has (flat_map (λ (g : Group). g.cells) (with_group (group_of n a os) [])) o
    in_group n a [] o h = absurd h
    in_group n a (q ∷ os) o h = append_left (q ∷ os) [] o h

    move_in : (G : NameCounters) (m : NodeId) (key : Key) (k : KindName) (index : ℕ) (ns : List NodeId) → p m ≡ true → ((n : NodeId) → Has ns n → p n ≡ true) → IsFromPart p D G (intent_to_move D G (field_at m key) k index ns)
    move_in G m key Required index ns here all = record {
      rev = refl;
      under = refl;
      no_schema = refl;
      groups = λ g h. absurd h;
      puts = λ n to e. (let bad : None ≡ Some to = e in cc);
      cells = λ n c e. (let bad : None ≡ Some (To.Cell c) = e in cc);
      clears = λ r h. absurd h;
      needs = λ n h. absurd h;
    }
    move_in G m key Optional index ns here all = record {
      rev = refl;
      under = refl;
      no_schema = refl;
      groups = λ g h. absurd h;
      puts = λ n to e. (let x = taken n to e in all n (subst (Has ns) (ap (λ (p : Put). p.node) x.2) x.1));
      cells = λ n c e. (let x = taken n (To.Cell c) e in let bad : To.Register (field_at m key) ≡ To.Cell c = ap (λ (p : Put). p.to) x.2 in cc);
      clears = λ r h. elim h [ inl e ↦ ap (λ (f : FieldId). p f.node) (sym e) ∙ here | inr none ↦ absurd none ];
      needs = λ n h. absurd h;
    }
      where
        taken : (n : NodeId) (to : To) → put_of (intent_to_move D G (field_at m key) Optional index ns) n ≡ Some to → (x : NodeId) × Has ns x × ◌≡◌ {A = Put} (record { node = x; to = To.Register (field_at m key) }) (record { node = n; to = to })
        taken n to e = has-map (λ (n : NodeId). record { node = n; to = To.Register (field_at m key) }) ns (record { node = n; to = to }) (put-has (intent_to_move D G (field_at m key) Optional index ns) n to e)
    move_in G m key Sequence index ns here all = record {
      rev = refl;
      under = refl;
      no_schema = refl;
      groups = λ g h. elim (with_has (group_of m (left_of D m index) cells) [] g h) [
        | inl e ↦ (let is = group_is m (left_of D m index) cells g e in (ap p is.node ∙ here, subst (IsAnchor p D g.node) (sym is.after) (subst (λ n. IsAnchor p D n (left_of D m index)) (sym is.node) (left_anchor m index here))))
        | inr none ↦ absurd none
      ];
      puts = λ n to e. (let o = taken n to e in all n (subst (Has ns) (ap (λ (p : Put). p.node) o.2) (cell_owner G G.cells ns o.0 o.1)));
      cells = λ n c e. (let o = taken n (To.Cell c) e in subst (Has (group_cells (moved_to_row D G m index ns))) (of_put o.0 n c o.2) (in_group m (left_of D m index) cells o.0 o.1));
      clears = λ r h. absurd h;
      needs = λ n h. absurd h;
    }
      where
        cells : List Owned
        cells = cells_for G.rev G.cells ns

        taken : (n : NodeId) (to : To) → put_of (moved_to_row D G m index ns) n ≡ Some to → (o : Owned) × Has (cells_for G.rev G.cells ns) o × ◌≡◌ {A = Put} (record { node = o.node; to = To.Cell o.cell }) (record { node = n; to = to })
        taken n to e = has-map (λ (o : Owned). record { node = o.node; to = To.Cell o.cell }) (cells_for G.rev G.cells ns) (record { node = n; to = to }) (put-has (moved_to_row D G m index ns) n to e)

        of_put : (o : Owned) (n : NodeId) (c : CellId) → ◌≡◌ {A = Put} (record { node = o.node; to = To.Cell o.cell }) (record { node = n; to = To.Cell c }) → o ≡ owned_cell c n
        of_put o n c e =
            let to : To.Cell o.cell ≡ To.Cell c = ap (λ (p : Put). p.to) e in
            let cell : o.cell ≡ c = cc in
            (λ i. record { cell = cell i; node = (e i).node })

    -- ## Any edit

    module _ (of_root : p root ≡ true) (s : SchemaView) (G : NameCounters) (fresh : NodesFresh D G) (own : (n : NodeId) → n.0.rev ≡ G.rev → p n ≡ true) where
      pub edit_in : (edit : Edit) (N : Intent) → Fits D N → resolve D s G edit ≡ Ok N → IsFromPart p D G N
      edit_in (Edit.Insert at key index items) N f e =
          let w = is_insertion D s G at key index (trees_view items) N e in
          subst (IsFromPart p D G) w.intent (insertion_in G w.node index (trees_view items) fresh (subst (Fits D) (sym w.intent) f) own (walk_in p D sound closed 0 root w.node at of_root w.way))
      edit_in (Edit.Remove at key index count) N f e =
          let w = is_removal D s G at key index count N e in
          let here = walk_in p D sound closed 0 root w.node at of_root w.way in
          subst (IsFromPart p D G) w.intent (record {
            rev = refl;
            under = refl;
            no_schema = refl;
            groups = λ g h. absurd h;
            puts = λ n to q. (let x = taken w.node n to q in closed n w.node (row_above D sound w.node n (items_in D w.node index count n (subst (Has (items_from D w.node index count)) (ap (λ (p : Put). p.node) x.2) x.1))) ∙ here);
            cells = λ n c q. (let x = taken w.node n (To.Cell c) q in let bad : To.Nowhere ≡ To.Cell c = ap (λ (p : Put). p.to) x.2 in cc);
            clears = λ r h. absurd h;
            needs = λ n h. absurd h;
          })
        where
          taken : (m n : NodeId) (to : To) → put_of (intent_to_remove D G (items_from D m index count)) n ≡ Some to → (x : NodeId) × Has (items_from D m index count) x × ◌≡◌ {A = Put} (record { node = x; to = To.Nowhere }) (record { node = n; to = to })
          taken m n to q = has-map (λ (n : NodeId). record { node = n; to = To.Nowhere }) (items_from D m index count) (record { node = n; to = to }) (put-has (intent_to_remove D G (items_from D m index count)) n to q)
      edit_in (Edit.Move at key index count to to_key to_index) N f e =
          let w = is_move D s G at key index count to to_key to_index N e in
          subst (IsFromPart p D G) w.intent (move_in G w.target to_key w.target_rule.kind to_index w.nodes (walk_in p D sound closed 0 root w.target to of_root w.target_way)
          (taken_in p D sound closed of_root w.node key w.source_rule.kind index count w.nodes w.taken_nodes (walk_in p D sound closed 0 root w.node at of_root w.way)))
      edit_in (Edit.Put at key item) N f e =
          let w = is_setting D s G at key (view item) N e in
          subst (IsFromPart p D G) w.intent (setting_in G w.node key (first (view item) no_nodes) fresh (subst (Fits D) (sym w.intent) f) own (walk_in p D sound closed 0 root w.node at of_root w.way))
      edit_in (Edit.Clear at key) N f e =
          let w = is_clearing D s G at key N e in
          subst (IsFromPart p D G) w.intent (record {
            rev = refl;
            under = refl;
            no_schema = refl;
            groups = λ g h. absurd h;
            puts = λ n to q. (let bad : None ≡ Some to = q in cc);
            cells = λ n c q. (let bad : None ≡ Some (To.Cell c) = q in cc);
            clears = λ r h. elim h [ inl q ↦ ap (λ (f : FieldId). p f.node) (sym q) ∙ walk_in p D sound closed 0 root w.node at of_root w.way | inr none ↦ absurd none ];
            needs = λ n h. absurd h;
          })
      edit_in (Edit.Need at) N f e =
          let w = is_need D G at N e in
          subst (IsFromPart p D G) w.2 (record {
            rev = refl;
            under = refl;
            no_schema = refl;
            groups = λ g h. absurd h;
            puts = λ n to q. (let bad : None ≡ Some to = q in cc);
            cells = λ n c q. (let bad : None ≡ Some (To.Cell c) = q in cc);
            clears = λ r h. absurd h;
            needs = λ n h. elim h [ inl q ↦ ap p (sym q) ∙ walk_in p D sound closed 0 root w.0 at of_root w.1 | inr none ↦ absurd none ];
          })
