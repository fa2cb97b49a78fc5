-- What edits mean is typed.
use Rattle.std.proofs.Common.{◌≡◌, ℕ, not, nat_le, length, Bool, true, false, cond, List, [], ◌∷◌, map, Option, Some, None, IsSome, is_some, option_map, option_and_then, Ok, refl, sym, ap, ◌∙◌, subst, inl, inr}
use Rattle.std.specs.List.{find, list_all}
use Rattle.std.specs.Cmp.Lexicographic.{nat_list_eq_equiv}
use Rattle.std.specs.Map.{lookup}
use Rattle.std.specs.Option.{option_or}
use Rattle.st_ids.specs.Listing.{Has}
use Rattle.st_ids.specs.Order.{same_node}
use Rattle.st_ids.specs.declared.names.FieldId.{FieldId}
use Rattle.st_ids.specs.declared.names.Key.{Key}
use Rattle.st_ids.specs.declared.names.Leaf.{Leaf}
use Rattle.st_ids.specs.declared.names.NodeId.{NodeId}
use Rattle.st_ids.specs.declared.names.Place.{Place}
use Rattle.st_tree.specs.Node.{Node, Nodes, first, no_nodes, trees_view, view}
use Rattle.st_tree.specs.declared.edit.Edit.{Edit}
use Rattle.st_tree.specs.declared.edit.EditFault.TheVariants.{Kind}
use Rattle.st_tree.specs.declared.flat.FlatNode.{FlatNode}
use Rattle.st_schema.specs.Conforms.{leaf_type}
use Rattle.st_schema.specs.Schema.{SchemaView, field_in, field_of, form_of, is_among, is_distinct, is_key, is_sound, is_type_name, leaf_types, names_are_sound, same, type_names}
use Rattle.st_schema.specs.declared.names.FieldRule.{FieldRule}
use Rattle.st_schema.specs.declared.names.Form.{Form}
use Rattle.st_schema.specs.declared.names.KindName.{KindName}
use Rattle.st_schema.specs.declared.names.KindName.TheVariants.{Required, Optional, Sequence}
use Rattle.st_marks.specs.declared.changes.NewNode.{NewNode}
use Rattle.st_marks.specs.declared.intents.Group.{Group}
use Rattle.st_marks.specs.declared.intents.Intent.{Intent}
use Rattle.st_marks.specs.declared.intents.Owned.{Owned}
use Rattle.st_marks.specs.declared.intents.Put.{Put}
use Rattle.st_marks.specs.declared.intents.To.{To}
use Rattle.st_marks.specs.Document.{Document, NodeType, IsSoundInForm}
use Rattle.st_marks.specs.Intent.{Fits, new_type}
use Rattle.st_marks.specs.CarryOut.{with_names}
use Rattle.st_marks.proofs.Members.{first-has, has-any, has-map}
use Rattle.st_edits.specs.New.{cells_under, group_of, group_under, new_nodes, groups_under, to_at, top_cells}
use Rattle.st_opening.specs.Start.{registers}
use Rattle.st_edits.specs.Paths.{field_at, left_of, or_refuse}
use Rattle.st_edits.specs.Resolve.{cells_for, clear, insert, move, intent_to_move, moved_to_field, moved_to_row, named_nodes, need, empty_intent, of_kind, put, remove, intent_to_remove, resolve, rule_at, rule_for, takes_kind, with_group}
use Rattle.st_schema.specs.Kind.{is_row}
use Rattle.st_edits.specs.declared.names.NameCounters.{NameCounters}
use Rattle.st_edits.specs.declared.names.Takes.{Takes}
use Rattle.st_edits.specs.declared.names.Takes.TheVariants as field
use Rattle.st_edits.proofs.Fits.{passed, or_refuse-Ok, all_pass}
use Rattle.st_edits.proofs.MoveFits.{CellsFresh}
use Rattle.st_edits.proofs.NewFits.{made_intent, insert_fits, put_fits, NodesFresh, items_form, with_has}
use Rattle.st_schema_laws.specs.Edited.{TellsRows}
use Rattle.st_schema_laws.specs.Typed.{IsAsTyped, IsFieldType, IsLeafTyped, IsRowType, IsTypedIntent}
use Rattle.st_schema_laws.proofs.Cleared.{is_clearing, is_need}
use Rattle.st_schema_laws.proofs.Filled.{all, is_setting, single_unrowed}
use Rattle.st_schema_laws.proofs.Inserted.{filled, is_insertion}
use Rattle.st_schema_laws.proofs.Made.{IsFilled, fresh, new_is, own_cells, put_there}
use Rattle.st_schema_laws.proofs.Moves.{is_move}
use Rattle.st_schema_laws.proofs.Named.{group_is}
use Rattle.st_schema_laws.proofs.Removed.{is_removal}
use Rattle.st_schema_laws.proofs.Ruled.{ruled_kind}
use Rattle.st_schema_laws.proofs.TypedTrees.{HasOwner, IsOwnTyped, above_at, tops_own, tops_owner}
use Rattle.st_lemmas.proofs.Bools.{and-true, true-false}
use Rattle.st_ids.proofs.Shared.{filter-from}
use Rattle.st_schema.proofs.Forms.{text_same}

-- ## A node with a field isn't a leaf

leaf_among : (v : Leaf) → Has leaf_types (leaf_type v)
leaf_among Leaf.Null = inl refl
leaf_among (Leaf.Bool b) = inr (inl refl)
leaf_among (Leaf.Int i) = inr (inr (inl refl))
leaf_among (Leaf.Words text) = inr (inr (inr (inl refl)))

lookup_key : {X : Type 0} (ty : List ℕ) (es : List (List ℕ × X)) (x : X) → lookup (same ty) es ≡ Some x → Has (map (λ e. e.0) es) ty
lookup_key ty [] x e = cc
lookup_key {X} ty (d ∷ es) x e = go (same ty d.0) refl (λ f. lookup_key ty es x f) e
  where
    go : (b : Bool) → same ty d.0 ≡ b → (lookup (same ty) es ≡ Some x → Has (map (λ (e : List ℕ × X). e.0) es) ty) → cond b (Some d.1) (lookup (same ty) es) ≡ Some x → Has (map (λ (e : List ℕ × X). e.0) (d ∷ es)) ty
    go true q rest f = inl (sym (text_same ty d.0 q))
    go false q rest f = inr (rest f)

-- no definition has a leaf's type
no_leaf_form : (s : SchemaView) (v : Leaf) (form : Form) → is_sound s ≡ true → form_of s.types (leaf_type v) ≡ Some form → ⊥
no_leaf_form s v form sound e =
    let names = (and-true (names_are_sound (type_names s.types)) _ sound).0 in
    let each = (and-true (is_distinct (type_names s.types)) (list_all is_type_name (type_names s.types)) (and-true (nat_le (length (type_names s.types)) 256) _ names).1).1 in
    let name = all_pass is_type_name (type_names s.types) (leaf_type v) each (lookup_key (leaf_type v) s.types form e) in
    let out = (and-true (is_key (leaf_type v)) (not (is_among (leaf_type v) leaf_types)) name).1 in
    true-false out (ap not (has-any (λ u. same u (leaf_type v)) leaf_types (leaf_type v) (leaf_among v) (nat_list_eq_equiv.refl (leaf_type v))))

unleafed : (takes : Takes) (D : Document) (s : SchemaView) (n : NodeId) (key : Key) (rule : FieldRule) → is_sound s ≡ true → rule_for takes D s n key ≡ Ok rule → (t : NodeType) → D.nodes n ≡ Some t → IsLeafTyped t → t.leaf ≡ None
unleafed takes D s n key rule sound e t known typed =
    let r = passed (or_refuse (rule_at D s n key) Kind) (of_kind (takes_kind takes)) rule e in
    go t.leaf refl (ap (option_and_then (λ (t : NodeType). field_of s t.ty key.0)) (sym known) ∙ or_refuse-Ok (rule_at D s n key) Kind r.0 r.1)
  where
    no_form : (v : Leaf) (o : Option Form) (got : FieldRule) → form_of s.types (leaf_type v) ≡ o → option_and_then (λ (form : Form). field_in form key.0) o ≡ Some got → ⊥
    no_form v None got f g = cc
    no_form v (Some form) got f g = no_leaf_form s v form sound f

    go : {got : FieldRule} (o : Option Leaf) → t.leaf ≡ o → field_of s t.ty key.0 ≡ Some got → t.leaf ≡ None
    go None q f = q
    go {got} (Some v) q f = absurd (no_form v (form_of s.types (leaf_type v)) got refl (ap (λ ty. field_of s ty key.0) (sym (typed v q)) ∙ f))

-- ## An intent that makes nothing

module _ (is_array : List ℕ → Bool) (D : Document) (N : Intent) (nothing_new : N.new ≡ []) (groups : (g : Group) → Has N.groups g → (t : NodeType) → D.nodes g.node ≡ Some t → IsRowType is_array t)
    (fields : (p : Put) (f : FieldId) → Has N.put p → p.to ≡ To.Register f → (t : NodeType) → D.nodes f.node ≡ Some t → IsFieldType is_array t) where
  type_none : (n : NodeId) → new_type N n ≡ None
  type_none n = ap (λ ms. option_map (λ (k : NewNode). record { ty = k.ty; leaf = k.leaf }) (find (λ (k : NewNode). same_node k.node n) ms)) nothing_new

  before : (n : NodeId) (t : NodeType) → (with_names D N).nodes n ≡ Some t → D.nodes n ≡ Some t
  before n t e = go (D.nodes n) refl e
    where
      go : (o : Option NodeType) → D.nodes n ≡ o → option_or o (new_type N n) ≡ Some t → D.nodes n ≡ Some t
      go None q f = let bad : None ≡ Some t = sym (type_none n) ∙ f in cc
      go (Some u) q f = q ∙ f

  plain_typed : IsTypedIntent is_array D N
  plain_typed = record {
    leaves = λ n t e. absurd (let bad : None ≡ Some t = sym (type_none n) ∙ e in cc);
    groups = λ g t h e. groups g h t (before g.node t e);
    puts = λ p f t h q e. fields p f h q t (before f.node t e);
  }

-- ## An intent that makes new trees

module _ (is_array : List ℕ → Bool) (D : Document) (G : NameCounters) (into : Option FieldId) (m : NodeId) (xs : List FlatNode) (gs : List Group) (fs : List FieldId) (w : IsFilled D G into m xs gs fs) (own : (y : FlatNode) → Has xs y → IsOwnTyped is_array y)
    (owner : (y : FlatNode) (r : NodeId) → Has xs y → above_at false y.at ≡ Some r → HasOwner is_array false xs r) (group_m : (g : Group) → Has gs g → g.node ≡ m → (t : NodeType) → D.nodes m ≡ Some t → IsRowType is_array t)
    (field_m : (f : FieldId) → into ≡ Some f → (t : NodeType) → D.nodes m ≡ Some t → IsFieldType is_array t) where
  abbrev N : Intent
  N = made_intent D G into xs gs fs

  abbrev new_of : FlatNode → NewNode
  new_of x = record { node = x.node; ty = x.ty; leaf = x.leaf }

  abbrev put_one : FlatNode → Put
  put_one x = record { node = x.node; to = to_at into x.at }

  type_of_new : (n : NodeId) (t : NodeType) → new_type N n ≡ Some t → (x : FlatNode) × Has xs x × (record { ty = x.ty; leaf = x.leaf } ≡ t)
  type_of_new n t e = go (find (λ (k : NewNode). same_node k.node n) (new_nodes xs)) refl e
    where
      go : (o : Option NewNode) → find (λ (k : NewNode). same_node k.node n) (new_nodes xs) ≡ o → option_map (λ (k : NewNode). record { ty = k.ty; leaf = k.leaf }) o ≡ Some t
          → (x : FlatNode) × Has xs x × (record { ty = x.ty; leaf = x.leaf } ≡ t)
      go None q f = absurd (cc)
      go (Some k) q f =
          let h = first-has (λ (k : NewNode). same_node k.node n) (new_nodes xs) k q in
          let x = has-map new_of xs k h.0 in
          let same : record { ty = k.ty; leaf = k.leaf } ≡ t = cc in
          (x.0, x.1, ap (λ (k : NewNode). record { ty = k.ty; leaf = k.leaf }) x.2 ∙ same)

  -- the type of a new node
  new_typed : (x : FlatNode) (t : NodeType) → Has xs x → (with_names D N).nodes x.node ≡ Some t → record { ty = x.ty; leaf = x.leaf } ≡ t
  new_typed x t h e = let both : Some (record { ty = x.ty; leaf = x.leaf }) ≡ Some t = sym (new_is D G into m xs gs fs w x h) ∙ e in cc

  m_typed : (t : NodeType) → (with_names D N).nodes m ≡ Some t → D.nodes m ≡ Some t
  m_typed t e = go (D.nodes m) refl w.known e
    where
      go : (o : Option NodeType) → D.nodes m ≡ o → IsSome o → option_or o (new_type N m) ≡ Some t → D.nodes m ≡ Some t
      go None q k f = absurd (cc)
      go (Some u) q k f = q ∙ f

  is_rowed : (x : FlatNode) (g : Group) → group_under xs x ≡ Some g → x.row ≡ true
  is_rowed x g e = go x.row e
    where
      go : (b : Bool) → cond b (group_of x.node None (cells_under xs x.node)) None ≡ Some g → b ≡ true
      go true f = refl
      go false f = absurd (cc)

  trees_typed : IsTypedIntent is_array D N
  trees_typed = record {
    leaves = λ n t e v q. (let x = type_of_new n t e in ap (λ (t : NodeType). t.ty) (sym x.2) ∙ (own x.0 x.1).leaf v (ap (λ (t : NodeType). t.leaf) x.2 ∙ q));
    groups = λ g t h e. elim (w.groups g h) [
      | inl q ↦ group_m g h q t (m_typed t (ap (with_names D N).nodes (sym q) ∙ e))
      | inr x ↦ (let c = own_cells D G into m xs gs fs w x.0 g x.2 in
          let same = new_typed x.0 t x.1 (ap (with_names D N).nodes (sym c.0) ∙ e) in
          subst (IsRowType is_array) same ((own x.0 x.1).row (is_rowed x.0 g x.2)))
    ];
    puts = λ p f t h q e. (let x = has-map put_one xs p h in
        elim (put_there D G into m xs gs fs w x.0 f x.1 (ap (λ (p : Put). p.to) x.2 ∙ q)) [
          | inl i ↦ field_m f i t (m_typed t (ap (with_names D N).nodes (sym (into_node f i)) ∙ e))
          | inr a ↦ (let z = owner x.0 f.node x.1 (ap (above_at false) a) in
              let same = new_typed z.0 t z.1 (ap (with_names D N).nodes z.2 ∙ e) in
              subst (IsFieldType is_array) same (z.3, z.4))
        ]);
  }
    where
      into_node : (f : FieldId) → into ≡ Some f → f.node ≡ m
      into_node f e = subst (λ o. Rattle.std.proofs.Common.IfSome o (λ g. g.node ≡ m)) e w.into_m

-- ## Each edit

module _ (is_array : List ℕ → Bool) (D : Document) (s : SchemaView) (G : NameCounters) (sound : IsSoundInForm D) (schema : is_sound s ≡ true) (tells : TellsRows is_array s) (typed : IsAsTyped is_array D) where
  -- the type of a node with a field of a kind that an edit takes
  row_type : (takes : Takes) (n : NodeId) (key : Key) (rule : FieldRule) → rule_for takes D s n key ≡ Ok rule → is_row rule.kind ≡ true → (t : NodeType) → D.nodes n ≡ Some t → IsRowType is_array t
  row_type takes n key rule e rowed t known =
      let w = ruled_kind takes D s n key rule e in
      let both : Some w.0 ≡ Some t = sym w.1 ∙ known in
      let same : w.0 ≡ t = cc in
      (unleafed takes D s n key rule schema e t known (typed.leaves n t known), ap (λ (t : NodeType). is_array t.ty) (sym same) ∙ w.2 is_array schema tells ∙ rowed)

  field_type : (takes : Takes) (n : NodeId) (key : Key) (rule : FieldRule) → rule_for takes D s n key ≡ Ok rule → is_row rule.kind ≡ false → (t : NodeType) → D.nodes n ≡ Some t → IsFieldType is_array t
  field_type takes n key rule e unrowed t known =
      let w = ruled_kind takes D s n key rule e in
      let both : Some w.0 ≡ Some t = sym w.1 ∙ known in
      let same : w.0 ≡ t = cc in
      (unleafed takes D s n key rule schema e t known (typed.leaves n t known), ap (λ (t : NodeType). is_array t.ty) (sym same) ∙ w.2 is_array schema tells ∙ unrowed)

  remove_typed : (at : List Place) (key : Key) (index count : ℕ) (N : Intent) → remove D s G at key index count ≡ Ok N → IsTypedIntent is_array D N
  remove_typed at key index count N e =
      let w = is_removal D s G at key index count N e in
      subst (IsTypedIntent is_array D) w.intent
      (plain_typed is_array D (intent_to_remove D G _) refl (λ g h. absurd h) (λ p f h q. (let x = has-map (λ (n : NodeId). record { node = n; to = To.Nowhere }) _ p h in absurd (let bad : To.Nowhere ≡ To.Register f = ap (λ (p : Put). p.to) x.2 ∙ q in cc))))

  clear_typed : (at : List Place) (key : Key) (N : Intent) → clear D s G at key ≡ Ok N → IsTypedIntent is_array D N
  clear_typed at key N e =
      let w = is_clearing D s G at key N e in
      subst (IsTypedIntent is_array D) w.intent (plain_typed is_array D (record (empty_intent D G) { clear = field_at w.node key ∷ [] }) refl (λ g h. absurd h) (λ p f h. absurd h))

  need_typed : (at : List Place) (N : Intent) → need D G at ≡ Ok N → IsTypedIntent is_array D N
  need_typed at N e =
      let w = is_need D G at N e in
      subst (IsTypedIntent is_array D) w.2 (plain_typed is_array D (record (empty_intent D G) { need = w.0 ∷ [] }) refl (λ g h. absurd h) (λ p f h. absurd h))

  insert_typed : (at : List Place) (key : Key) (index : ℕ) (trees : Nodes) (N : Intent) → NodesFresh D G → CellsFresh D G → insert D s G at key index trees ≡ Ok N → IsTypedIntent is_array D N
  insert_typed at key index trees N nodes cells e =
      let w = is_insertion D s G at key index trees N e in
      let xs = named_nodes G trees in
      let fits = subst (Fits D) (sym w.intent) (insert_fits D s G at key index trees N sound nodes cells e) in
      let all = filled D G w.node index trees sound nodes (ap is_some w.known) (items_form s w.types trees w.allowed) fits in
      subst (IsTypedIntent is_array D) w.intent
      (trees_typed is_array D G None w.node xs (with_group (group_of w.node (left_of D w.node index) (top_cells xs)) (groups_under xs)) (registers xs) all
      (tops_own s is_array tells w.types G.rev G.nodes G.cells trees w.allowed) (tops_owner s is_array tells false w.types G.rev G.nodes G.cells trees w.allowed)
      (λ g h q t known. row_type field.Row w.node key w.rule w.ruled (ruled_kind field.Row D s w.node key w.rule w.ruled).3 t known) (λ f q t known. absurd (cc)))

  put_typed : (at : List Place) (key : Key) (tree : Node) (N : Intent) → NodesFresh D G → CellsFresh D G → put D s G at key (first tree no_nodes) ≡ Ok N → IsTypedIntent is_array D N
  put_typed at key tree N nodes cells e =
      let w = is_setting D s G at key tree N e in
      let xs = named_nodes G (first tree no_nodes) in
      let fits = subst (Fits D) (sym w.intent) (put_fits D s G at key tree N sound schema nodes cells e) in
      let all_here = all D G w.node key tree sound nodes (ap is_some w.known) (items_form s w.types (first tree no_nodes) w.allowed) fits in
      let cleared = field_at w.node key ∷ registers xs in
      subst (IsTypedIntent is_array D) w.intent
      (trees_typed is_array D G (Some (field_at w.node key)) w.node xs (groups_under xs) cleared all_here (tops_own s is_array tells w.types G.rev G.nodes G.cells (first tree no_nodes) w.allowed)
      (tops_owner s is_array tells false w.types G.rev G.nodes G.cells (first tree no_nodes) w.allowed)
      (λ g h q t known. (let x = filter-from (group_under xs) xs g h in
      let c = own_cells D G (Some (field_at w.node key)) w.node xs (groups_under xs) cleared all_here x.0 g x.2 in
      let bad : None ≡ Some t = sym (fresh D G (Some (field_at w.node key)) w.node xs (groups_under xs) cleared all_here x.0 x.1) ∙ ap D.nodes (sym c.0 ∙ q) ∙ known in absurd (cc)))
      (λ f q t known. field_type field.Single w.node key w.rule w.ruled (single_unrowed w.rule.kind (ruled_kind field.Single D s w.node key w.rule w.ruled).3) t known))

  move_typed : (at : List Place) (key : Key) (index count : ℕ) (to : List Place) (to_key : Key) (to_index : ℕ) (N : Intent) → move D s G at key index count to to_key to_index ≡ Ok N → IsTypedIntent is_array D N
  move_typed at key index count to to_key to_index N e =
      let w = is_move D s G at key index count to to_key to_index N e in
      subst (IsTypedIntent is_array D) w.intent (go w.target w.target_rule w.target_ruled w.nodes w.target_rule.kind refl)
    where
      go : (m : NodeId) (rule : FieldRule) → rule_for field.Open D s m to_key ≡ Ok rule → (ns : List NodeId) (k : KindName) → rule.kind ≡ k → IsTypedIntent is_array D (intent_to_move D G (field_at m to_key) k to_index ns)
      go m rule e ns Required q = plain_typed is_array D (empty_intent D G) refl (λ g h. absurd h) (λ p f h. absurd h)
      go m rule e ns Optional q =
          plain_typed is_array D (moved_to_field D G (field_at m to_key) ns) refl (λ g h. absurd h)
          (λ p f h r t known. (let x = has-map (λ (n : NodeId). record { node = n; to = To.Register (field_at m to_key) }) ns p h in
          let same : To.Register (field_at m to_key) ≡ To.Register f = ap (λ (p : Put). p.to) x.2 ∙ r in
          let here : field_at m to_key ≡ f = cc in
          field_type field.Open m to_key rule e (ap is_row q) t (ap D.nodes (ap (λ (f : FieldId). f.node) here) ∙ known)))
      go m rule e ns Sequence q =
          plain_typed is_array D (moved_to_row D G m to_index ns) refl
          (λ g h t known. elim (with_has (group_of m (left_of D m to_index) (cells_for G.rev G.cells ns)) [] g h) [
            | inl i ↦ row_type field.Open m to_key rule e (ap is_row q) t (ap D.nodes (sym (group_is m (left_of D m to_index) (cells_for G.rev G.cells ns) g i).0) ∙ known)
            | inr i ↦ absurd i
          ])
          (λ p f h r. (let x = has-map (λ (o : Owned). record { node = o.node; to = To.Cell o.cell }) (cells_for G.rev G.cells ns) p h in
          absurd (let bad : To.Cell x.0.cell ≡ To.Register f = ap (λ (p : Put). p.to) x.2 ∙ r in cc)))

  pub any_typed : (edit : Edit) (N : Intent) → NodesFresh D G → CellsFresh D G → resolve D s G edit ≡ Ok N → IsTypedIntent is_array D N
  any_typed (Edit.Insert at key index items) N nodes cells e = insert_typed at key index (trees_view items) N nodes cells e
  any_typed (Edit.Remove at key index count) N nodes cells e = remove_typed at key index count N e
  any_typed (Edit.Move at key index count to to_key to_index) N nodes cells e = move_typed at key index count to to_key to_index N e
  any_typed (Edit.Put at key item) N nodes cells e = put_typed at key (view item) N nodes cells e
  any_typed (Edit.Clear at key) N nodes cells e = clear_typed at key N e
  any_typed (Edit.Need at) N nodes cells e = need_typed at N e
