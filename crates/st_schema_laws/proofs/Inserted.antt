-- What is shown after an insertion.
use Rattle.std.proofs.Common.{◌≡◌, ◌≢◌, ℕ, ◌+◌, ◌≤◌, nat_le, Bool, true, false, cond, List, [], ◌∷◌, ◌++◌, map, take, drop, filter, Option, Some, None, IsSome, is_some, Ok, refl, sym, ap, ◌∙◌, subst, arith, inl, inr}
use Rattle.std.specs.List.{list_all}
use Rattle.std.specs.Option.{option_map_or}
use Rattle.std.proofs.lemmas.Bool.Decides.{nat_tests}
use Rattle.serde_json.specs.Data.{Data}
use Rattle.st_ids.specs.Listing.{Has}
use Rattle.st_ids.specs.declared.names.CellId.{CellId}
use Rattle.st_ids.specs.declared.names.Key.{Key}
use Rattle.st_ids.specs.declared.names.NodeId.{NodeId}
use Rattle.st_ids.specs.declared.names.Place.{Place}
use Rattle.st_ids.proofs.Orders.{same_cell-itself}
use Rattle.st_tree.specs.Node.{Nodes}
use Rattle.st_tree.specs.Size.{item_count}
use Rattle.st_tree.specs.declared.edit.EditFault.TheVariants.{Range}
use Rattle.st_tree.specs.declared.flat.FlatNode.{FlatNode}
use Rattle.st_schema.specs.Conforms.{items_verdicts}
use Rattle.st_schema.specs.Schema.{SchemaView, is_sound}
use Rattle.st_schema.specs.TreeText.{trees_data}
use Rattle.st_schema.specs.declared.names.FieldRule.{FieldRule}
use Rattle.st_marks.specs.declared.intents.Group.{Group}
use Rattle.st_marks.specs.declared.intents.Intent.{Intent}
use Rattle.st_marks.specs.declared.intents.Owned.{Owned}
use Rattle.st_marks.specs.declared.intents.To.{To}
use Rattle.st_marks.specs.declared.places.Spot.{Spot}
use Rattle.st_marks.specs.declared.verdicts.Verdict.{Verdict}
use Rattle.st_marks.specs.Document.{Document, NodeType, IsSoundInForm, content, is_cell, owned_cell}
use Rattle.st_ids.specs.Root.{root}
use Rattle.st_marks.specs.Intent.{Fits, put_of}
use Rattle.st_marks.specs.CarryOut.{full, with_names, place_after}
use Rattle.st_marks.specs.Verdict.{IsVerdict}
use Rattle.st_marks.specs.LiveTree.{Shows, owners_shown}
use Rattle.st_marks.proofs.Members.{has-filter_map}
use Rattle.st_marks.proofs.NewRows.{made_cell, row_cells}
use Rattle.st_edits.specs.New.{group_of, group_under, groups_under, to_at, top_cells}
use Rattle.st_opening.specs.Start.{registers}
use Rattle.st_edits.specs.Paths.{left_of, row_length}
use Rattle.st_edits.specs.Resolve.{allowed_nodes, require, insert, intent_to_insert, named_nodes, rule_for, walk, with_group}
use Rattle.st_edits.specs.declared.names.NameCounters.{NameCounters}
use Rattle.st_edits.specs.declared.names.Takes.TheVariants as field
use Rattle.st_edits.proofs.Fits.{passed}
use Rattle.st_edits.proofs.MoveFits.{CellsFresh}
use Rattle.st_edits.proofs.NewFits.{insert_fits, NodesFresh, top_from, top_has, items_form, with_group-Some, with_has, are_allowed}
use Rattle.st_edits.proofs.Numbered.{tops_counted, tops_rows}
use Rattle.st_schema_laws.specs.Edited.{TellsRows, at_path, data_items, with_items}
use Rattle.st_schema_laws.proofs.Along.{AreShown, as_list, along}
use Rattle.st_schema_laws.proofs.Anchored.{row_with}
use Rattle.st_schema_laws.proofs.AtNode.{items_come}
use Rattle.st_schema_laws.proofs.Made.{IsFilled, alike, fresh, keeps, made_verdict, old_full, old_node, put_is}
use Rattle.st_schema_laws.proofs.Named.{group_is, own_all, registers_new, top_nodes}
use Rattle.st_schema_laws.proofs.NewTreesShown.{tops_shown}
use Rattle.st_schema_laws.proofs.Rows.{filter_all}
use Rattle.st_schema_laws.proofs.Ruled.{row_ruled}
use Rattle.st_ids.proofs.Shared.{filter-from}
use Rattle.st_edits.proofs.Shared.{with_others}
use Rattle.st_lemmas.proofs.Options.{None-IsSome}

-- ## New items in a row

module _ (D : Document) (G : NameCounters) (m : NodeId) (index : ℕ) (trees : Nodes) (sound : IsSoundInForm D) (nodes : NodesFresh D G) (known : IsSome (D.nodes m)) (form : Rattle.st_tree.specs.Form.all_have_form trees ≡ true)
    (fits : Fits D (intent_to_insert D G m index (named_nodes G trees))) where
  abbrev xs : List FlatNode
  xs = named_nodes G trees

  abbrev left : Option CellId
  left = left_of D m index

  abbrev gs : List Group
  gs = with_group (group_of m left (top_cells xs)) (groups_under xs)

  abbrev N : Intent
  N = intent_to_insert D G m index xs

  abbrev E : Document
  E = full D N

  counted : Rattle.st_edits.proofs.Numbered.Counted G.rev G.nodes xs G.nodes G.cells
  counted = tops_counted G.rev G.nodes G.nodes G.cells trees (omega arith)

  in_top : (o : Owned) → Has (top_cells xs) o → Has ((with_names D N).rows m) o
  in_top o h = go (top_cells xs) refl
    where
      go : (os : List Owned) → top_cells xs ≡ os → Has ((with_names D N).rows m) o
      go [] e = absurd (subst (λ os. Has os o) e h)
      go (p ∷ os) e =
          made_cell D N sound fits (record { node = m; after = left; cells = p ∷ os }) o (with_group-Some (group_of m left (top_cells xs)) (groups_under xs) (record { node = m; after = left; cells = p ∷ os }) (ap (group_of m left) e))
          (subst (λ os. Has os o) e h)

  top_row : (o : Owned) → Has (top_cells xs) o → (with_names D N).row_of o.cell ≡ Some m
  top_row o h = (row_cells D N sound fits m o (in_top o h)).0

  pub filled : IsFilled D G None m xs gs (registers xs)
  filled = record {
    sound = sound;
    fits = fits;
    counted = counted;
    rows = tops_rows xs G.rev G.nodes G.cells trees form (λ x h. h);
    nodes_fresh = nodes;
    known = known;
    into_m = tt;
    groups = λ g h. elim (with_has (group_of m left (top_cells xs)) (groups_under xs) g h) [
      | inl e ↦ inl (group_is m left (top_cells xs) g e).0
      | inr k ↦ (let x = filter-from (group_under xs) xs g k in inr (x.0, x.1, x.2))
    ];
    own_group = λ x g h e. with_others (group_of m left (top_cells xs)) (groups_under xs) g (has-filter_map (group_under xs) xs x g h e);
    clears_old = λ f h. inr (registers_new D G xs counted nodes f h);
    tops = λ v d h e _. top_row (owned_cell d v.node) (top_has xs v d h e);
  }

  group_m : (g : Group) → Has gs g → g.node ≡ m → (g.after ≡ left) × (g.cells ≡ top_cells xs)
  group_m g h e = elim (with_has (group_of m left (top_cells xs)) (groups_under xs) g h) [
    | inl q ↦ (let w = group_is m left (top_cells xs) g q in (w.1, w.2))
    | inr k ↦ (let x = filter-from (group_under xs) xs g k in absurd (new_not_m x.0 x.1 (sym (under_node x.0 g x.2) ∙ e)))
  ]
    where
      new_not_m : (x : FlatNode) → Has xs x → x.node ≡ m → ⊥
      new_not_m x i q = None-IsSome (D.nodes m) (ap D.nodes (sym q) ∙ fresh D G None m xs gs (registers xs) filled x i) known

      under_node : (x : FlatNode) (g : Group) → group_under xs x ≡ Some g → g.node ≡ x.node
      under_node x g q = go x.row q
        where
          go : (b : Bool) → cond b (group_of x.node None (Rattle.st_edits.specs.New.cells_under xs x.node)) None ≡ Some g → g.node ≡ x.node
          go true r = (group_is x.node None (Rattle.st_edits.specs.New.cells_under xs x.node) g r).0
          go false r = absurd (cc)

  top_full : (o : Owned) → Has (top_cells xs) o → is_cell o.cell (E.place o.node) ≡ true
  top_full o h =
      let y = top_from xs o h in
      let put : put_of N o.node ≡ Some (To.Cell o.cell) = ap (put_of N) (sym y.3) ∙ put_is D G None m xs gs (registers xs) filled y.0 y.1 ∙ ap (λ at. Some (to_at None at)) y.2 in
      ap (λ p. is_cell o.cell (place_after (with_names D N).row_of N p (D.place o.node))) put
      ∙ ap (λ r. is_cell o.cell (option_map_or (λ n. Spot.Row n o.cell) r Spot.Nowhere)) (top_row o h) ∙ same_cell-itself o.cell

  old_same : (o : Owned) → Has (D.rows m) o → is_cell o.cell (E.place o.node) ≡ is_cell o.cell (D.place o.node)
  old_same o h = old_full D G None m xs gs (registers xs) filled o.cell o.node (sound.cells_known m o h).1

  pub row_after : index ≤ row_length D m → owners_shown (content E m) ≡ take index (owners_shown (content D m)) ++ (map (λ (o : Owned). o.node) (top_cells xs) ++ drop index (owners_shown (content D m)))
  row_after le =
      row_with N fits.itself m left (top_cells xs)
      (λ o os e. with_group-Some (group_of m left (top_cells xs)) (groups_under xs) (record { node = m; after = left; cells = o ∷ os }) (ap (group_of m left) e)) group_m D E (λ x. true) top_full index refl le (sound.once m) old_same
      ∙ (λ t. all (take index (owners_shown (content D m))) t ++ (map (λ (o : Owned). o.node) (top_cells xs) ++ all (drop index (owners_shown (content D m))) t))
    where
      all : (ns : List NodeId) → filter (λ x. true) ns ≡ ns
      all ns = filter_all (λ x. true) ns (λ x h. refl)

-- ## An insertion

pub record IsInsertion (D : Document) (s : SchemaView) (G : NameCounters) (at : List Place) (key : Key) (index : ℕ) (trees : Nodes) (N : Intent) : Type 0 where
  pub node : NodeId
  pub way : walk D at ≡ Ok node
  pub type : NodeType
  pub known : D.nodes node ≡ Some type
  pub rowed : (is_array : List ℕ → Bool) → is_sound s ≡ true → TellsRows is_array s → is_array type.ty ≡ true
  pub rule : FieldRule
  pub ruled : rule_for field.Row D s node key ≡ Ok rule
  pub types : List (List ℕ)
  pub allowed : list_all (λ ok. ok) (items_verdicts s types trees) ≡ true
  pub in_range : index ≤ row_length D node
  pub intent : intent_to_insert D G node index (named_nodes G trees) ≡ N

pub is_insertion : (D : Document) (s : SchemaView) (G : NameCounters) (at : List Place) (key : Key) (index : ℕ) (trees : Nodes) (N : Intent) → insert D s G at key index trees ≡ Ok N → IsInsertion D s G at key index trees N
is_insertion D s G at key index trees N e =
    let n = passed (walk D at) _ N e in
    let rule = passed (rule_for field.Row D s n.0 key) _ N n.2 in
    let u = passed (require (nat_le index (row_length D n.0)) Range) _ N rule.2 in
    let xs = passed (allowed_nodes s G rule.0 trees) (λ xs. Ok (intent_to_insert D G n.0 index xs)) N u.2 in
    let is : intent_to_insert D G n.0 index xs.0 ≡ N = cc in
    let t = row_ruled D s n.0 key rule.0 rule.1 in
    let a = are_allowed s G rule.0 trees xs.0 xs.1 in
    let test : nat_le index (row_length D n.0) ≡ true = asked (nat_le index (row_length D n.0)) u.0 u.1 in
    record { node = n.0; way = n.1; type = t.0; known = t.1; rowed = t.2; rule = rule.0; ruled = rule.1; types = rule.0.types; allowed = a.0; in_range = grind (arith, nat_tests); intent = ap (intent_to_insert D G n.0 index) a.1 ∙ is }
  where
    asked : (b : Bool) (u : Unit {0}) → require b Range ≡ Ok u → b ≡ true
    asked true u h = refl
    asked false u h = cc

module _ (D : Document) (s : SchemaView) (G : NameCounters) (at : List Place) (key : Key) (index : ℕ) (trees : Nodes) (N : Intent) (sound : IsSoundInForm D) (nodes : NodesFresh D G) (cells : CellsFresh D G) (e : insert D s G at key index trees ≡ Ok N) where
  w : IsInsertion D s G at key index trees N
  w = is_insertion D s G at key index trees N e

  form : Rattle.st_tree.specs.Form.all_have_form trees ≡ true
  form = items_form s w.types trees w.allowed

  fits : Fits D (intent_to_insert D G w.node index (named_nodes G trees))
  fits = subst (Fits D) (sym w.intent) (insert_fits D s G at key index trees N sound nodes cells e)

  there : IsSome (D.nodes w.node)
  there = ap is_some w.known

  abbrev F : Document
  F = full D (intent_to_insert D G w.node index (named_nodes G trees))

  abbrev groups : List Group
  groups = with_group (group_of w.node (left_of D w.node index) (top_cells (named_nodes G trees))) (groups_under (named_nodes G trees))

  all : IsFilled D G None w.node (named_nodes G trees) groups (registers (named_nodes G trees))
  all = filled D G w.node index trees sound nodes there form fits

  pub insertion_verdict : IsVerdict D N Verdict.Sound
  insertion_verdict = subst (λ N. IsVerdict D N Verdict.Sound) w.intent (made_verdict D G None w.node (named_nodes G trees) groups (registers (named_nodes G trees)) all)

  module _ (is_array : List ℕ → Bool) (schema : is_sound s ≡ true) (tells : TellsRows is_array s) where
    old_alike : (x : NodeId) → IsSome (D.nodes x) → x ≢ w.node → Rattle.st_schema_laws.specs.Alike.AreAlikeAt D F x
    old_alike = alike D G None w.node (named_nodes G trees) groups (registers (named_nodes G trees)) all

    new_shown : AreShown is_array F (map (λ (o : Owned). o.node) (top_cells (named_nodes G trees))) (data_items (trees_data trees))
    new_shown =
        subst (λ ns. AreShown is_array F ns (data_items (trees_data trees))) (sym (top_nodes G.rev G.nodes G.cells trees))
        (as_list is_array F
        (tops_shown s is_array tells G.rev F (named_nodes G trees) (keeps D G None w.node (named_nodes G trees) groups (registers (named_nodes G trees)) all) w.types G.nodes G.cells trees w.allowed
        (own_all G.rev (named_nodes G trees) G.nodes (G.nodes + item_count trees))))

    pub insertion_seen : (d : Data) → Shows is_array D root d → Shows is_array (full D N) root (at_path at (with_items index (data_items (trees_data trees))) d)
    insertion_seen d shows =
        subst (λ N. Shows is_array (full D N) root (at_path at (with_items index (data_items (trees_data trees))) d)) w.intent
        ((along is_array D F sound w.node old_alike (with_items index (data_items (trees_data trees)))
        (items_come is_array D F sound w.node old_alike (old_node D G None w.node (named_nodes G trees) groups (registers (named_nodes G trees)) all w.node) w.type w.known index (map (λ (o : Owned). o.node) (top_cells (named_nodes G trees))) (data_items (trees_data trees))
        (w.rowed is_array schema tells) (row_after D G w.node index trees sound nodes there form fits w.in_range) new_shown) at 0 root w.way).1 d shows)
