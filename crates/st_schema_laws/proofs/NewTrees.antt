-- What new trees mean agrees with the schema, where it allows them.
use Rattle.std.proofs.Common.{◌≡◌, ℕ, nat_le, Bool, true, false, cond, List, [], ◌∷◌, Option, Some, None, IsSome, is_some, option_map, option_and_then, Ok, refl, sym, ap, ◌∙◌, subst, inl, inr}
use Rattle.std.specs.List.{find, list_all}
use Rattle.std.specs.Option.{option_map_or}
use Rattle.st_ids.specs.Listing.{Has}
use Rattle.st_ids.specs.Order.{same_node}
use Rattle.st_ids.specs.declared.names.CellId.{CellId}
use Rattle.st_ids.specs.declared.names.FieldId.{FieldId}
use Rattle.st_ids.specs.declared.names.Key.{Key}
use Rattle.st_ids.specs.declared.names.NodeId.{NodeId}
use Rattle.st_ids.specs.declared.names.Place.{Place}
use Rattle.st_ids.proofs.Orders.{same_node-true, same_node-itself}
use Rattle.st_tree.specs.declared.flat.FlatAt.{FlatAt}
use Rattle.st_tree.specs.declared.flat.FlatNode.{FlatNode}
use Rattle.st_tree.specs.Node.{Node, node, Nodes, no_nodes, first}
use Rattle.st_tree.specs.declared.edit.EditFault.TheVariants.{Range}
use Rattle.st_schema.specs.Schema.{SchemaView, field_of, is_among, is_sound}
use Rattle.st_schema.specs.Conforms.{items_verdicts}
use Rattle.st_schema.specs.declared.names.FieldRule.{FieldRule}
use Rattle.st_schema.specs.declared.names.KindName.{KindName}
use Rattle.st_marks.specs.declared.changes.NewNode.{NewNode}
use Rattle.st_marks.specs.declared.intents.Group.{Group}
use Rattle.st_marks.specs.declared.intents.Intent.{Intent}
use Rattle.st_marks.specs.declared.intents.Owned.{Owned}
use Rattle.st_marks.specs.declared.intents.Put.{Put}
use Rattle.st_marks.specs.declared.intents.To.{To}
use Rattle.st_marks.specs.Document.{Document, NodeType, IsSoundInForm, owned_cell}
use Rattle.st_marks.specs.Intent.{Fits, register_of, new_node, new_type, is_new, new_row_of, put_of, put_in, clears}
use Rattle.st_marks.specs.CarryOut.{with_names}
use Rattle.st_marks.proofs.Lookups.{put-has, has-put, has-put_in, clears-has, new_row_of-group}
use Rattle.st_marks.proofs.Members.{first-has, first-distinct, has-map, map-has, has-filter_map}
use Rattle.st_edits.specs.New.{new_nodes, puts, to_at, top_to, top_cell, row_cell, owned_by, top_cells, cells_under, group_of, group_under, groups_under}
use Rattle.st_opening.specs.Start.{registers, register_at}
use Rattle.st_edits.specs.Paths.{field_at, left_of, row_length}
use Rattle.st_ids.specs.Or.{and_then}
use Rattle.st_edits.specs.Resolve.{require, walk, rule_for, rule_at, has_type, named_nodes, allowed_nodes, intent_to_insert, intent_to_place, insert, put}
use Rattle.st_schema.specs.Kind.{is_required, is_row, is_single_kind}
use Rattle.st_edits.specs.declared.names.NameCounters.{NameCounters}
use Rattle.st_edits.specs.declared.names.Takes.TheVariants as field
use Rattle.st_edits.proofs.Fits.{passed, ruled}
use Rattle.st_edits.proofs.MoveFits.{CellsFresh}
use Rattle.st_edits.proofs.NewFits.{NodesFresh, insert_fits, put_fits, items_form, with_group-Some, are_allowed}
use Rattle.st_edits.proofs.Numbered.{IsArray, IsUnderArray, tops_rows}
use Rattle.st_edits.specs.Fields.{row_key, type_fits}
use Rattle.st_schema_laws.specs.Agreeing.{KeepsSchema, MayGo, MayBeLeft, TellsHomes}
use Rattle.st_schema_laws.proofs.Kept.{rule_later, named_later}
use Rattle.st_schema_laws.proofs.Rules.{required_not_row, row_of_array}
use Rattle.st_schema_laws.proofs.Listed.{HasField, IsPlaced, IsAllowedItem, tops_allowed}
use Rattle.st_schema_laws.proofs.Simple.{rule_there, rule_found, key_is}
use Rattle.st_edits.proofs.Shared.{with_others}
use Rattle.st_lemmas.proofs.Bools.{true-false}
use Rattle.st_ids.proofs.Shared.{filter-from}
use Rattle.st_lemmas.proofs.Options.{IsSome-Some}

-- ## An intent with new nodes of a list

abbrev new_of : FlatNode → NewNode
new_of x = record { node = x.node; ty = x.ty; leaf = x.leaf }

abbrev type_of : NewNode → NodeType
type_of n = record { ty = n.ty; leaf = n.leaf }

abbrev put_at : Option FieldId → FlatNode → Put
put_at into x = record { node = x.node; to = to_at into x.at }

module _ (home : NodeId → Option FieldId) where
  pub no_home : (n : NodeId) (f : FieldId) → home n ≡ None → home n ≡ Some f → ⊥
  no_home n f p q = let bad : None ≡ Some f = sym p ∙ q in cc

  pub one_home : (n : NodeId) (f g : FieldId) → home n ≡ Some f → home n ≡ Some g → g ≡ f
  one_home n f g p q = let same : Some f ≡ Some g = sym p ∙ q in cc

-- what is needed of an intent that makes and puts the nodes of a list
pub record MakesListed (s : SchemaView) (home : NodeId → Option FieldId) (D : Document) (N : Intent) (types : List (List ℕ)) (into : Option FieldId) (xs : List FlatNode) : Type 0 where
  pub fits : Fits D N
  pub new : N.new ≡ new_nodes xs
  pub put : N.put ≡ puts into xs
  pub items : (x : FlatNode) → Has xs x → IsAllowedItem s xs types x
  pub rows : (x : FlatNode) (r : NodeId) (c : CellId) → Has xs x → x.at ≡ FlatAt.Row r c → new_row_of N c ≡ Some r
  -- a top item, whose type is one of those of top items, may go where it is put
  pub tops : (x : FlatNode) (c : CellId) → Has xs x → x.at ≡ FlatAt.Top c → has_type (with_names D N) types x.node ≡ true
      → home x.node ≡ register_of (top_to into c) → MayGo s home D N x.node (top_to into c)
  -- what is cleared is filled
  pub cleared : (f : FieldId) → clears N f ≡ true → (x : FlatNode) × Has xs x × (to_at into x.at ≡ To.Register f)
  pub own : TellsHomes home N

module _ (s : SchemaView) (home : NodeId → Option FieldId) (D : Document) (N : Intent) (types : List (List ℕ)) (into : Option FieldId) (xs : List FlatNode) (w : MakesListed s home D N types into xs) where
  has_new : (x : FlatNode) → Has xs x → Has N.new (new_of x)
  has_new x h = subst (λ l. Has l (new_of x)) (sym w.new) (map-has new_of xs x h)

  new_is : (x : FlatNode) → Has xs x → new_type N x.node ≡ Some (record { ty = x.ty; leaf = x.leaf })
  new_is x h = ap (option_map type_of) (first-distinct (λ (m : NewNode). m.node) N.new (λ (m : NewNode). same_node m.node x.node) (new_of x) w.fits.itself.new_once (has_new x h) (same_node-itself x.node)
      (λ m t. same_node-true m.node x.node t))

  node_new : (x : FlatNode) → Has xs x → is_new N x.node ≡ true
  node_new x h = ap is_some (new_is x h)

  node_is : (x : FlatNode) → Has xs x → (with_names D N).nodes x.node ≡ Some (record { ty = x.ty; leaf = x.leaf })
  node_is x h = rw (w.fits.fresh_nodes x.node (node_new x h)) (new_is x h)

  new_from : (n : NodeId) (t : NodeType) → new_type N n ≡ Some t → (x : FlatNode) × Has xs x × (x.node ≡ n) × (record { ty = x.ty; leaf = x.leaf } ≡ t)
  new_from n t e = go (new_node N n) refl e
    where
      go : (o : Option NewNode) → find (λ (m : NewNode). same_node m.node n) N.new ≡ o → option_map type_of o ≡ Some t → (x : FlatNode) × Has xs x × (x.node ≡ n) × (record { ty = x.ty; leaf = x.leaf } ≡ t)
      go None f g = cc
      go (Some m) f g =
          let r = first-has (λ (m : NewNode). same_node m.node n) N.new m f in
          let x = has-map new_of xs m (subst (λ l. Has l m) w.new r.0) in
          let q : type_of m ≡ t = cc in
          (x.0, x.1, ap (λ (m : NewNode). m.node) x.2 ∙ same_node-true m.node n r.1, ap type_of x.2 ∙ q)

  put_is : (x : FlatNode) → Has xs x → put_of N x.node ≡ Some (to_at into x.at)
  put_is x h = has-put N w.fits.itself (put_at into x) (subst (λ l. Has l (put_at into x)) (sym w.put) (map-has (put_at into) xs x h))

  put_from : (m : NodeId) (to : To) → put_of N m ≡ Some to → (x : FlatNode) × Has xs x × (put_at into x ≡ record { node = m; to = to })
  put_from m to e = has-map (put_at into) xs (record { node = m; to = to }) (subst (λ l. Has l (record { node = m; to = to })) w.put (put-has N m to e))

  home_is : (x : FlatNode) → Has xs x → home x.node ≡ register_of (to_at into x.at)
  home_is x h = w.own x.node (node_new x h) ∙ ap (option_and_then register_of) (put_is x h)

  -- the rule of a listed owner's field
  rule_is : (kinds : KindName → Bool) (n : NodeId) (key : Key) (ty : List ℕ) (h : HasField s xs kinds n key ty) → rule_at (with_names D N) s n key ≡ Some h.rule
  rule_is kinds n key ty h =
      subst (λ n. rule_at (with_names D N) s n key ≡ Some h.rule) h.named (ap (option_and_then (λ (t : NodeType). field_of s t.ty key.0)) (node_is h.owner h.listed) ∙ h.ruled)

  type_is : (x : FlatNode) (ts : List (List ℕ)) → Has xs x → is_among x.ty ts ≡ true → has_type (with_names D N) ts x.node ≡ true
  type_is x ts h e = ap (λ o. option_map_or (λ (t : NodeType). is_among t.ty ts) o false) (node_is x h) ∙ e

  target_of : (x : FlatNode) → Has xs x → (at : FlatAt) → x.at ≡ at → IsPlaced s xs types x.ty at → home x.node ≡ register_of (to_at into at) → MayGo s home D N x.node (to_at into at)
  target_of x h FlatAt.Root q p f = tt
  target_of x h (FlatAt.Top c) q p f = w.tops x c h q (type_is x types h p) f
  target_of x h (FlatAt.Row r c) q p f = (
    r,
    rw (w.fits.fresh_cells c (ap is_some (w.rows x r c h q))) (w.rows x r c h q),
    record { rule = p.rule; ruled = rule_is is_row r row_key x.ty p; kind = p.kind; typed = type_is x p.rule.types h p.typed; at_home = λ required. absurd (true-false required (required_not_row p.rule.kind p.kind)); away = λ g e. absurd (no_home home x.node g f e) },
  )
  target_of x h (FlatAt.Register g) q p f =
      record { rule = p.rule; ruled = rule_is is_single_kind g.node g.key x.ty p; kind = p.kind; typed = type_is x p.rule.types h p.typed; at_home = λ required. f; away = λ g' e. inl (one_home home x.node g g' f e) }

  listed_goes : (x : FlatNode) → Has xs x → MayGo s home D N x.node (to_at into x.at)
  listed_goes x h = target_of x h x.at refl (w.items x h).placed (home_is x h)

  -- a register is filled by the node that is put into it
  fills : (x : FlatNode) (f : FieldId) → Has xs x → to_at into x.at ≡ To.Register f → put_in N f ≡ Some x.node
  fills x f h e = has-put_in N w.fits.itself x.node f
      (subst (λ to. Has N.put (record { node = x.node; to = to })) e (subst (λ l. Has l (put_at into x)) (sym w.put) (map-has (put_at into) xs x h)))

  clear_may : (f : FieldId) → clears N f ≡ true → MayBeLeft s D N f
  clear_may f e =
      let x = w.cleared f e in
      let may : MayGo s home D N x.0.node (To.Register f) = subst (MayGo s home D N x.0.node) x.2 (listed_goes x.0 x.1) in
      record { known = rule_there (with_names D N) s f.node f.key may.rule may.ruled; filled = λ required. ap is_some (fills x.0 f x.1 x.2) }

  new_filled : (n : NodeId) (key : Key) (rule : FieldRule) → is_new N n ≡ true → rule_at (with_names D N) s n key ≡ Some rule → is_required rule.kind ≡ true
      → (m : NodeId) × (put_in N (field_at n key) ≡ Some m) × (is_new N m ≡ true)
  new_filled n key rule new ruled required =
      let t = IsSome-Some (new_type N n) new in
      let x = new_from n t.0 t.1 in
      let own : field_of s x.0.ty key.0 ≡ Some rule = sym (ap (option_and_then (λ (t : NodeType). field_of s t.ty key.0)) (node_is x.0 x.1)) ∙ ap (λ n. rule_at (with_names D N) s n key) x.2 ∙ ruled in
      let y = (w.items x.0 x.1).filled key rule own required in
      (y.0.node, subst (λ n. put_in N (field_at n key) ≡ Some y.0.node) x.2 (fills y.0 (field_at x.0.node key) y.1 (ap (to_at into) y.2)), node_new y.0 y.1)

  home_there : (m : NodeId) (f : FieldId) → is_new N m ≡ true → home m ≡ Some f → IsSome ((with_names D N).nodes f.node)
  home_there m f new lives =
      let t = IsSome-Some (new_type N m) new in
      let x = new_from m t.0 t.1 in
      go x.0 x.1 (to_at into x.0.at) refl (sym (home_is x.0 x.1) ∙ ap home x.2 ∙ lives)
    where
      go : (x : FlatNode) → Has xs x → (to : To) → to_at into x.at ≡ to → register_of to ≡ Some f → IsSome ((with_names D N).nodes f.node)
      go x h To.Nowhere e q = absurd (cc)
      go x h (To.Cell c) e q = absurd (cc)
      go x h (To.Register g) e q =
          let may : MayGo s home D N x.node (To.Register g) = subst (MayGo s home D N x.node) e (listed_goes x h) in
          let same : g ≡ f = cc in
          subst (λ (f : FieldId). IsSome ((with_names D N).nodes f.node)) same (rule_there (with_names D N) s g.node g.key may.rule may.ruled)

  pub listed_agrees : KeepsSchema s home D N
  listed_agrees = record {
    types = λ n t e. (let x = new_from n t e in ap (λ (t : NodeType). type_fits s t.ty t.leaf) (sym x.3) ∙ (w.items x.0 x.1).typed);
    puts = λ m to e. (let x = put_from m to e in subst (λ (p : Put). MayGo s home D N p.node p.to) x.2 (listed_goes x.0 x.1));
    leaves = λ m f some old lives. (let to = IsSome-Some (put_of N m) some in
        let x = put_from m to.0 to.1 in
        absurd (true-false (ap (is_new N) (sym (ap (λ (p : Put). p.node) x.2)) ∙ node_new x.0 x.1) old));
    clears = clear_may;
    homes = home_there;
    filled = new_filled;
  }

-- ## Groups of new cells

group_made : (n : NodeId) (after : Option CellId) (os : List Owned) (o : Owned) → Has os o → (g : Group) × (group_of n after os ≡ Some g) × (g.node ≡ n) × Has g.cells o
group_made n after [] o h = absurd h
group_made n after (p ∷ ps) o h = (record { node = n; after = after; cells = p ∷ ps }, refl, refl, h)

-- the cell of a node that stands in a row is in the group of that row
under_group : (xs : List FlatNode) (x : FlatNode) (r : NodeId) (c : CellId) → Has xs x → x.at ≡ FlatAt.Row r c → IsArray xs r → (g : Group) × Has (groups_under xs) g × (g.node ≡ r) × Has g.cells (owned_cell c x.node)
under_group xs x r c h e y =
    let own : Has (cells_under xs y.0.node) (owned_cell c x.node) = has-filter_map (λ (x : FlatNode). owned_by x.node (row_cell y.0.node x.at)) xs x (owned_cell c x.node) h
    (ap (λ at. owned_by x.node (row_cell y.0.node at)) (e ∙ ap (λ q. FlatAt.Row q c) (sym y.2)) ∙ ap (λ b. owned_by x.node (cond b (Some c) None)) (same_node-itself y.0.node)) in
    let g = group_made y.0.node None (cells_under xs y.0.node) (owned_cell c x.node) own in
    (g.0, has-filter_map (group_under xs) xs y.0 g.0 y.1 (ap (λ b. cond b (group_of y.0.node None (cells_under xs y.0.node)) None) y.3 ∙ g.1), g.2 ∙ y.2, g.3)

top_group : (xs : List FlatNode) (n : NodeId) (left : Option CellId) (x : FlatNode) (c : CellId) → Has xs x → x.at ≡ FlatAt.Top c → (g : Group) × (group_of n left (top_cells xs) ≡ Some g) × (g.node ≡ n) × Has g.cells (owned_cell c x.node)
top_group xs n left x c h e = group_made n left (top_cells xs) (owned_cell c x.node)
    (has-filter_map (λ (x : FlatNode). owned_by x.node (top_cell x.at)) xs x (owned_cell c x.node) h (ap (λ at. owned_by x.node (top_cell at)) e))

-- a register in which a node stands is one that it goes to
goes_there : (into : Option FieldId) (g : FieldId) (at : FlatAt) → register_at at ≡ Some g → to_at into at ≡ To.Register g
goes_there into g FlatAt.Root e = absurd (cc)
goes_there into g (FlatAt.Top c) e = absurd (cc)
goes_there into g (FlatAt.Row r c) e = absurd (cc)
goes_there into g (FlatAt.Register h) e = let q : h ≡ g = cc in ap (λ h. To.Register h) q

register_from : (into : Option FieldId) (xs : List FlatNode) (g : FieldId) → Has (registers xs) g → (x : FlatNode) × Has xs x × (to_at into x.at ≡ To.Register g)
register_from into xs g h = let x = filter-from (λ (x : FlatNode). register_at x.at) xs g h in (x.0, x.1, goes_there into g x.0.at x.2)

-- ## What is allowed

named_allowed : (s : SchemaView) (G : NameCounters) (types : List (List ℕ)) (trees : Nodes) → is_sound s ≡ true → list_all (λ ok. ok) (items_verdicts s types trees) ≡ true → (x : FlatNode) → Has (named_nodes G trees) x → IsAllowedItem s (named_nodes G trees) types x
named_allowed s G types trees schema ok = tops_allowed s schema (named_nodes G trees) types G.rev G.nodes G.cells trees ok (λ x h. h)

named_under : (s : SchemaView) (G : NameCounters) (types : List (List ℕ)) (trees : Nodes) → list_all (λ ok. ok) (items_verdicts s types trees) ≡ true → (x : FlatNode) → Has (named_nodes G trees) x → IsUnderArray (named_nodes G trees) x.at
named_under s G types trees ok = tops_rows (named_nodes G trees) G.rev G.nodes G.cells trees (items_form s types trees ok) (λ x h. h)

-- ## New items of a row

inserted_agrees : (s : SchemaView) (home : NodeId → Option FieldId) (D : Document) (G : NameCounters) (n : NodeId) (index : ℕ) (rule : FieldRule) (trees : Nodes) → is_sound s ≡ true
    → rule_at D s n row_key ≡ Some rule → is_row rule.kind ≡ true → list_all (λ ok. ok) (items_verdicts s rule.types trees) ≡ true
    → Fits D (intent_to_insert D G n index (named_nodes G trees)) → TellsHomes home (intent_to_insert D G n index (named_nodes G trees)) → KeepsSchema s home D (intent_to_insert D G n index (named_nodes G trees))
inserted_agrees s home D G n index rule trees schema ruled row ok fits own = listed_agrees s home D (intent_to_insert D G n index (named_nodes G trees)) rule.types None (named_nodes G trees) listing
  where
    later : rule_at (with_names D (intent_to_insert D G n index (named_nodes G trees))) s n row_key ≡ Some rule
    later = rule_later s D (with_names D (intent_to_insert D G n index (named_nodes G trees))) (named_later D (intent_to_insert D G n index (named_nodes G trees))) n row_key rule ruled

    row_made : (x : FlatNode) (r : NodeId) (c : CellId) → Has (named_nodes G trees) x → x.at ≡ FlatAt.Row r c → new_row_of (intent_to_insert D G n index (named_nodes G trees)) c ≡ Some r
    row_made x r c h e =
        let g = under_group (named_nodes G trees) x r c h e (subst (IsUnderArray (named_nodes G trees)) e (named_under s G rule.types trees ok x h)) in
        new_row_of-group (intent_to_insert D G n index (named_nodes G trees)) fits.itself g.0 (owned_cell c x.node) (with_others (group_of n (left_of D n index) (top_cells (named_nodes G trees))) (groups_under (named_nodes G trees)) g.0 g.1) g.3 ∙ ap (λ n. Some n) g.2

    top_made : (x : FlatNode) (c : CellId) → Has (named_nodes G trees) x → x.at ≡ FlatAt.Top c → new_row_of (intent_to_insert D G n index (named_nodes G trees)) c ≡ Some n
    top_made x c h e =
        let g = top_group (named_nodes G trees) n (left_of D n index) x c h e in
        new_row_of-group (intent_to_insert D G n index (named_nodes G trees)) fits.itself g.0 (owned_cell c x.node) (with_group-Some (group_of n (left_of D n index) (top_cells (named_nodes G trees))) (groups_under (named_nodes G trees)) g.0 g.1) g.3 ∙ ap (λ n. Some n) g.2

    top_goes : (x : FlatNode) (c : CellId) → Has (named_nodes G trees) x → x.at ≡ FlatAt.Top c → has_type (with_names D (intent_to_insert D G n index (named_nodes G trees))) rule.types x.node ≡ true → home x.node ≡ None
        → MayGo s home D (intent_to_insert D G n index (named_nodes G trees)) x.node (To.Cell c)
    top_goes x c h e typed free = (
      n,
      rw (fits.fresh_cells c (ap is_some (top_made x c h e))) (top_made x c h e),
      record { rule = rule; ruled = later; kind = row; typed = typed; at_home = λ required. absurd (true-false required (required_not_row rule.kind row)); away = λ f q. absurd (no_home home x.node f free q) },
    )

    listing : MakesListed s home D (intent_to_insert D G n index (named_nodes G trees)) rule.types None (named_nodes G trees)
    listing = record {
      fits = fits;
      new = refl;
      put = refl;
      items = named_allowed s G rule.types trees schema ok;
      rows = row_made;
      tops = top_goes;
      cleared = λ f e. register_from None (named_nodes G trees) f (clears-has (registers (named_nodes G trees)) f e);
      own = own;
    }

pub insert_agrees : (s : SchemaView) (home : NodeId → Option FieldId) (D : Document) (G : NameCounters) (at : List Place) (key : Key) (index : ℕ) (trees : Nodes) (N : Intent) → IsSoundInForm D → is_sound s ≡ true
    → NodesFresh D G → CellsFresh D G → TellsHomes home N → insert D s G at key index trees ≡ Ok N → KeepsSchema s home D N
insert_agrees s home D G at key index trees N sound schema nodes cells own e =
    let n = passed (walk D at) _ N e in
    let rule = passed (rule_for field.Row D s n.0 key) _ N n.2 in
    let at_end = passed (require (nat_le index (row_length D n.0)) Range) (λ _. and_then (allowed_nodes s G rule.0 trees) (λ xs. Ok (intent_to_insert D G n.0 index xs))) N rule.2 in
    let xs = passed (allowed_nodes s G rule.0 trees) (λ xs. Ok (intent_to_insert D G n.0 index xs)) N at_end.2 in
    let is : intent_to_insert D G n.0 index xs.0 ≡ N = cc in
    let here = rule_found is_row D s n.0 key rule.0 rule.1 in
    let t = ruled D s n.0 key rule.0 here.0 in
    let empty = (row_of_array s schema t.1.0.ty key.0 rule.0 t.1.1 here.1).0 in
    let ok = are_allowed s G rule.0 trees xs.0 xs.1 in
    let same : intent_to_insert D G n.0 index (named_nodes G trees) ≡ N = ap (intent_to_insert D G n.0 index) ok.1 ∙ is in
    subst (KeepsSchema s home D) same
    (inserted_agrees s home D G n.0 index rule.0 trees schema (subst (λ k. rule_at D s n.0 k ≡ Some rule.0) (key_is key empty) here.0) here.1 ok.0
    (subst (Fits D) (sym same) (insert_fits D s G at key index trees N sound nodes cells e)) (subst (TellsHomes home) (sym same) own))

-- ## A new item in a field

-- the top item of one tree
top_there : (G : NameCounters) (t : Node) → (x : FlatNode) × Has (named_nodes G (first t no_nodes)) x × ((c : CellId) × (x.at ≡ FlatAt.Top c))
top_there G (node ty leaf fs) = (_, inl refl, (_, refl))

placed_agrees : (s : SchemaView) (home : NodeId → Option FieldId) (D : Document) (G : NameCounters) (f : FieldId) (rule : FieldRule) (t : Node) → is_sound s ≡ true
    → rule_at D s f.node f.key ≡ Some rule → is_single_kind rule.kind ≡ true → list_all (λ ok. ok) (items_verdicts s rule.types (first t no_nodes)) ≡ true
    → Fits D (intent_to_place D G f (named_nodes G (first t no_nodes))) → TellsHomes home (intent_to_place D G f (named_nodes G (first t no_nodes))) → KeepsSchema s home D (intent_to_place D G f (named_nodes G (first t no_nodes)))
placed_agrees s home D G f rule t schema ruled single ok fits own = listed_agrees s home D (intent_to_place D G f (named_nodes G (first t no_nodes))) rule.types (Some f) (named_nodes G (first t no_nodes)) listing
  where
    later : rule_at (with_names D (intent_to_place D G f (named_nodes G (first t no_nodes)))) s f.node f.key ≡ Some rule
    later = rule_later s D (with_names D (intent_to_place D G f (named_nodes G (first t no_nodes)))) (named_later D (intent_to_place D G f (named_nodes G (first t no_nodes)))) f.node f.key rule ruled

    row_made : (x : FlatNode) (r : NodeId) (c : CellId) → Has (named_nodes G (first t no_nodes)) x → x.at ≡ FlatAt.Row r c → new_row_of (intent_to_place D G f (named_nodes G (first t no_nodes))) c ≡ Some r
    row_made x r c h e =
        let g = under_group (named_nodes G (first t no_nodes)) x r c h e (subst (IsUnderArray (named_nodes G (first t no_nodes))) e (named_under s G rule.types (first t no_nodes) ok x h)) in
        new_row_of-group (intent_to_place D G f (named_nodes G (first t no_nodes))) fits.itself g.0 (owned_cell c x.node) g.1 g.3 ∙ ap (λ n. Some n) g.2

    cleared_from : (g : FieldId) → Has (f ∷ registers (named_nodes G (first t no_nodes))) g → (x : FlatNode) × Has (named_nodes G (first t no_nodes)) x × (to_at (Some f) x.at ≡ To.Register g)
    cleared_from g (inl q) = let x = top_there G t in (x.0, x.1, ap (to_at (Some f)) x.2.1 ∙ ap (λ g. To.Register g) q)
    cleared_from g (inr h) = register_from (Some f) (named_nodes G (first t no_nodes)) g h

    listing : MakesListed s home D (intent_to_place D G f (named_nodes G (first t no_nodes))) rule.types (Some f) (named_nodes G (first t no_nodes))
    listing = record {
      fits = fits;
      new = refl;
      put = refl;
      items = named_allowed s G rule.types (first t no_nodes) schema ok;
      rows = row_made;
      tops = λ x c h e typed lives. record { rule = rule; ruled = later; kind = single; typed = typed; at_home = λ required. lives; away = λ g q. inl (one_home home x.node f g lives q) };
      cleared = λ g e. cleared_from g (clears-has (f ∷ registers (named_nodes G (first t no_nodes))) g e);
      own = own;
    }

pub put_agrees : (s : SchemaView) (home : NodeId → Option FieldId) (D : Document) (G : NameCounters) (at : List Place) (key : Key) (t : Node) (N : Intent) → IsSoundInForm D → is_sound s ≡ true
    → NodesFresh D G → CellsFresh D G → TellsHomes home N → put D s G at key (first t no_nodes) ≡ Ok N → KeepsSchema s home D N
put_agrees s home D G at key t N sound schema nodes cells own e =
    let n = passed (walk D at) _ N e in
    let taken = passed (rule_for field.Single D s n.0 key) _ N n.2 in
    let xs = passed (allowed_nodes s G taken.0 (first t no_nodes)) (λ xs. Ok (intent_to_place D G (field_at n.0 key) xs)) N taken.2 in
    let is : intent_to_place D G (field_at n.0 key) xs.0 ≡ N = cc in
    let here = rule_found is_single_kind D s n.0 key taken.0 taken.1 in
    let ok = are_allowed s G taken.0 (first t no_nodes) xs.0 xs.1 in
    let same : intent_to_place D G (field_at n.0 key) (named_nodes G (first t no_nodes)) ≡ N = ap (intent_to_place D G (field_at n.0 key)) ok.1 ∙ is in
    subst (KeepsSchema s home D) same
    (placed_agrees s home D G (field_at n.0 key) taken.0 t schema here.0 here.1 ok.0
    (subst (Fits D) (sym same) (put_fits D s G at key t N sound schema nodes cells e)) (subst (TellsHomes home) (sym same) own))
