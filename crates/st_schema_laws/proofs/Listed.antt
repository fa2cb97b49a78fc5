-- What the schema allows of trees, told of the list of their nodes: each has its type and stands in a field that takes it, and the
-- required fields of each are filled.
use Rattle.std.proofs.Common.{◌≡◌, ℕ, ◌+◌, Bool, true, false, not, cond, ◌||◌, List, [], ◌∷◌, Option, Some, None, is_some, refl, sym, ap, ◌∙◌, subst, inl, inr, ◌⊎◌, option_map, option_and_then}
use Rattle.std.specs.List.{list_all}
use Rattle.std.specs.Ordering.{nat_cmp, is_lt}
use Rattle.std.specs.Cmp.Lexicographic.{slice_cmp}
use Rattle.st_ids.specs.Listing.{Has}
use Rattle.st_ids.specs.declared.names.Key.{Key}
use Rattle.st_ids.specs.declared.names.Leaf.{Leaf}
use Rattle.st_ids.specs.declared.names.NodeId.{NodeId}
use Rattle.st_ids.specs.declared.names.Rev.{Rev}
use Rattle.st_tree.specs.declared.flat.FlatAt.{FlatAt}
use Rattle.st_tree.specs.declared.flat.FlatNode.{FlatNode}
use Rattle.st_tree.specs.Node.{Node, node, Fields, no_fields, field, Nodes, no_nodes, first}
use Rattle.st_tree.specs.Size.{node_count, item_count}
use Rattle.st_tree.specs.Form.{is_row_alone, keys_rise}
use Rattle.st_tree.specs.Preorder.{node_named, cell_named, cells_taken, cell_count, item_cells, is_array, at_of, tree_listed, fields_listed, items_listed, tops_listed}
use Rattle.st_schema.specs.Schema.{SchemaView, same, is_among, is_key, form_of, declared_field, field_in, field_of, is_sound}
use Rattle.st_schema.specs.Conforms.{leaf_type, has_key, have_rules, fields_fit, is_as_typed, node_fits, types_under, verdicts, fields_verdicts, items_verdicts}
use Rattle.st_schema.specs.declared.names.FieldDef.{FieldDef}
use Rattle.st_schema.specs.declared.names.FieldRule.{FieldRule}
use Rattle.st_schema.specs.declared.names.Form.{Form}
use Rattle.st_schema.specs.declared.names.Form.TheVariants.{Array, Map, Object}
use Rattle.st_schema.specs.declared.names.KindName.{KindName}
use Rattle.st_schema.specs.declared.names.KindName.TheVariants.{Optional, Sequence}
use Rattle.st_marks.proofs.Members.{first-has, has-append, append_left, append_right}
use Rattle.st_edits.specs.Paths.{field_at}
use Rattle.st_schema.specs.Kind.{is_required, is_row, is_single_kind}
use Rattle.st_edits.specs.Fields.{type_fits, row_key}
use Rattle.st_schema_laws.proofs.Rules.{declared_single, leaf_undefined}
use Rattle.st_lemmas.proofs.Lists.{length-zero}
use Rattle.st_schema.proofs.AllowedForm.{all-parts}
use Rattle.st_lemmas.proofs.Bools.{and-true, true-false}
use Rattle.st_schema.proofs.Forms.{text_same}
use Rattle.st_edits.proofs.Fits.{all_pass}

-- a listed node of this name has a field of one of these kinds under the key, which takes nodes of the type
pub record HasField (s : SchemaView) (zs : List FlatNode) (kinds : KindName → Bool) (n : NodeId) (key : Key) (ty : List ℕ) : Type 0 where
  pub owner : FlatNode
  pub listed : Has zs owner
  pub named : owner.node ≡ n
  pub rule : FieldRule
  pub ruled : field_of s owner.ty key.0 ≡ Some rule
  pub kind : kinds rule.kind ≡ true
  pub typed : is_among ty rule.types ≡ true

-- a node of the type may stand in the place, where `types` are those of top items
abbrev pub IsPlaced : SchemaView → List FlatNode → List (List ℕ) → List ℕ → FlatAt → Type 0
IsPlaced s zs types ty FlatAt.Root = is_among ty types ≡ true
IsPlaced s zs types ty (FlatAt.Top c) = is_among ty types ≡ true
IsPlaced s zs types ty (FlatAt.Row r c) = HasField s zs is_row r row_key ty
IsPlaced s zs types ty (FlatAt.Register f) = HasField s zs is_single_kind f.node f.key ty

pub record IsAllowedItem (s : SchemaView) (zs : List FlatNode) (types : List (List ℕ)) (x : FlatNode) : Type 0 where
  pub typed : type_fits s x.ty x.leaf ≡ true
  pub placed : IsPlaced s zs types x.ty x.at
  pub filled : (key : Key) (rule : FieldRule) → field_of s x.ty key.0 ≡ Some rule → is_required rule.kind ≡ true → (y : FlatNode) × Has zs y × (y.at ≡ FlatAt.Register (field_at x.node key))

-- the fields have one under the key, which is a row or isn't
abbrev HasKey : Fields → List ℕ → Bool → Type 0
HasKey no_fields key row = ⊥
HasKey (field k r items rest) key row = ((k ≡ key) × (r ≡ row)) ⊎ HasKey rest key row

rises_single : (before key : List ℕ) (row : Bool) (fs : Fields) → keys_rise before fs ≡ true → HasKey fs key row → row ≡ false
rises_single before key row no_fields e h = absurd h
rises_single before key row (field k true items rest) e h = absurd (cc)
rises_single before key row (field k false items rest) e (inl q) = sym q.1
rises_single before key row (field k false items rest) e (inr h) = rises_single k key row rest (and-true _ _ (and-true _ _ e).1).1 h

have_rule : (form : Form) (key : List ℕ) (row : Bool) (fs : Fields) → have_rules form fs ≡ true → HasKey fs key row → (rule : FieldRule) × (field_in form key ≡ Some rule)
have_rule form key row no_fields e h = absurd h
have_rule form key row (field k r items rest) e (inl q) = go (field_in form k) refl (and-true _ _ e).0
  where
    go : (o : Option FieldRule) → field_in form k ≡ o → is_some o ≡ true → (rule : FieldRule) × (field_in form key ≡ Some rule)
    go None f g = absurd (cc)
    go (Some rule) f g = (rule, ap (field_in form) (sym q.0) ∙ f)
have_rule form key row (field k r items rest) e (inr h) = have_rule form key row rest (and-true _ _ e).1 h

alone : (key : List ℕ) (row : Bool) (fs : Fields) → is_row_alone fs ≡ true → HasKey fs key row → (key ≡ []) × (row ≡ true)
alone key row no_fields e h = absurd h
alone key row (field k r items no_fields) e (inl q) = let b = and-true _ _ e in (sym q.0 ∙ length-zero k b.1, sym q.1 ∙ b.0)
alone key row (field k r items no_fields) e (inr h) = absurd h
alone key row (field k r items (field k' r' items' rest)) e h = absurd (cc)

-- a node under the key, where it is there
field_there : (rev : Rev) (owner n c : ℕ) (before key : List ℕ) (fs : Fields) → keys_rise before fs ≡ true → has_key fs key ≡ true
    → (y : FlatNode) × Has (fields_listed rev owner n c fs) y × (y.at ≡ FlatAt.Register (record { node = node_named rev owner; key = record { 0 = key } }))
field_there rev owner n c before key no_fields e h = absurd (cc)
field_there rev owner n c before key (field k true items rest) e h = absurd (cc)
field_there rev owner n c before key (field k false no_nodes rest) e h = absurd (cc)
field_there rev owner n c before key (field k false (first t (first u ts)) rest) e h = absurd (cc)
field_there rev owner n c before key (field k false (first (node ty leaf fields) no_nodes) rest) e h =
    go (same k key) refl h
    (λ f. field_there rev owner (n + item_count (first (node ty leaf fields) no_nodes)) (c + item_cells false (first (node ty leaf fields) no_nodes)) k key rest (and-true (is_lt (slice_cmp nat_cmp before k)) (keys_rise k rest) e).1 f)
  where
    go : (b : Bool) → same k key ≡ b → (b || has_key rest key) ≡ true
        → (has_key rest key ≡ true → (y : FlatNode) × Has (fields_listed rev owner (n + item_count (first (node ty leaf fields) no_nodes)) (c + item_cells false (first (node ty leaf fields) no_nodes)) rest) y × (y.at ≡ FlatAt.Register (record { node = node_named rev owner; key = record { 0 = key } })))
        → (y : FlatNode) × Has (fields_listed rev owner n c (field k false (first (node ty leaf fields) no_nodes) rest)) y × (y.at ≡ FlatAt.Register (record { node = node_named rev owner; key = record { 0 = key } }))
    go true q f rest_there = (_, inl refl, ap (λ k. FlatAt.Register (record { node = node_named rev owner; key = record { 0 = k } })) (text_same k key q))
    go false q f rest_there = let r = rest_there f in (r.0, append_right (items_listed rev owner k false n c (first (node ty leaf fields) no_nodes)) _ r.0 r.1, r.2)

module _ (s : SchemaView) (sound : is_sound s ≡ true) (zs : List FlatNode) (types : List (List ℕ)) (rev : Rev) where
  fits_type : (ty : List ℕ) (leaf : Option Leaf) (fs : Fields) → is_as_typed (form_of s.types ty) ty leaf fs ≡ true → type_fits s ty leaf ≡ true
  fits_type ty (Some v) fs e = (and-true _ _ e).0
  fits_type ty None fs e = go (form_of s.types ty) e
    where
      go : (o : Option Form) → is_as_typed o ty None fs ≡ true → is_some o ≡ true
      go None f = cc
      go (Some form) f = refl

  -- a required field is there
  required_filled : (form : Form) (owner n c : ℕ) (fs : Fields) (key : Key) (rule : FieldRule) → fields_fit form fs ≡ true → field_in form key.0 ≡ Some rule → is_required rule.kind ≡ true
      → (y : FlatNode) × Has (fields_listed rev owner n c fs) y × (y.at ≡ FlatAt.Register (field_at (node_named rev owner) key))
  required_filled (Array ts) owner n c fs key rule fit e required = go key.0 e
    where
      go : (k : List ℕ) → field_in (Array ts) k ≡ Some rule → (y : FlatNode) × Has (fields_listed rev owner n c fs) y × (y.at ≡ FlatAt.Register (field_at (node_named rev owner) key))
      go [] f = let r : record { kind = Sequence; types = ts } ≡ rule = cc in absurd (true-false required (ap (λ (r : FieldRule). is_required r.kind) (sym r)))
      go (b ∷ k) f = absurd (cc)
  required_filled (Map ts) owner n c fs key rule fit e required = go (is_key key.0) e
    where
      go : (b : Bool) → cond b (Some (record { kind = Optional; types = ts })) None ≡ Some rule → (y : FlatNode) × Has (fields_listed rev owner n c fs) y × (y.at ≡ FlatAt.Register (field_at (node_named rev owner) key))
      go true f = let r : record { kind = Optional; types = ts } ≡ rule = cc in absurd (true-false required (ap (λ (r : FieldRule). is_required r.kind) (sym r)))
      go false f = absurd (cc)
  required_filled (Object defs) owner n c fs key rule fit e required = go (declared_field defs key.0) refl e
    where
      present : (d : FieldDef) → Has defs d → is_required d.kind ≡ true → (not (is_required d.kind) || has_key fs d.key.0) ≡ true → has_key fs d.key.0 ≡ true
      present d h r f = rw r at f

      go : (o : Option FieldDef) → declared_field defs key.0 ≡ o → option_map (λ (f : FieldDef). record { kind = f.kind; types = f.types }) o ≡ Some rule
          → (y : FlatNode) × Has (fields_listed rev owner n c fs) y × (y.at ≡ FlatAt.Register (field_at (node_named rev owner) key))
      go None f g = absurd (cc)
      go (Some d) f g =
          let w = first-has (λ (f : FieldDef). same f.key.0 key.0) defs d f in
          let r : record { kind = d.kind; types = d.types } ≡ rule = cc in
          let need : is_required d.kind ≡ true = ap (λ (r : FieldRule). is_required r.kind) r ∙ required in
          let rest = and-true (keys_rise [] fs) _ fit in
          let all = (and-true (have_rules (Object defs) fs) _ rest.1).1 in
          let y = field_there rev owner n c [] d.key.0 fs rest.0 (present d w.0 need (all_pass (λ (d : FieldDef). not (is_required d.kind) || has_key fs d.key.0) defs d all w.0)) in
          (y.0, y.1, y.2 ∙ ap (λ k. FlatAt.Register (record { node = node_named rev owner; key = record { 0 = k } })) (text_same d.key.0 key.0 w.1))

  -- a field of a node takes what the schema says
  field_takes : (x : FlatNode) (owner c : ℕ) (form : Form) (fs : Fields) (key : List ℕ) (row : Bool) (ty : List ℕ) → Has zs x → x.node ≡ node_named rev owner → form_of s.types x.ty ≡ Some form → fields_fit form fs ≡ true
      → HasKey fs key row → is_among ty (types_under (Some form) key) ≡ true → IsPlaced s zs types ty (at_of rev owner key row c)
  field_takes x owner c (Array ts) fs key row ty listed named form fit h e =
      let a = alone key row fs fit h in
      let among : is_among ty ts ≡ true = subst (λ k. is_among ty (types_under (Some (Array ts)) k) ≡ true) a.0 e in
      subst (λ r. IsPlaced s zs types ty (at_of rev owner key r c)) (sym a.1)
      (record { owner = x; listed = listed; named = named; rule = record { kind = Sequence; types = ts }; ruled = ap (option_and_then (λ (form : Form). field_in form [])) form; kind = refl; typed = among })
  field_takes x owner c (Map ts) fs key row ty listed named form fit h e =
      let b = and-true (keys_rise [] fs) _ fit in
      let r = have_rule (Map ts) key row fs b.1 h in
      let single : is_single_kind r.0.kind ≡ true = go (is_key key) r.0 r.1 in
      subst (λ w. IsPlaced s zs types ty (at_of rev owner key w c)) (sym (rises_single [] key row fs b.0 h))
      (record { owner = x; listed = listed; named = named; rule = r.0; ruled = ap (option_and_then (λ (form : Form). field_in form key)) form ∙ r.1; kind = single; typed = rw r.1 at e })
    where
      go : (b : Bool) (rule : FieldRule) → cond b (Some (record { kind = Optional; types = ts })) None ≡ Some rule → is_single_kind rule.kind ≡ true
      go true rule f = let r : record { kind = Optional; types = ts } ≡ rule = cc in ap (λ (r : FieldRule). is_single_kind r.kind) (sym r)
      go false rule f = absurd (cc)
  field_takes x owner c (Object defs) fs key row ty listed named form fit h e =
      let b = and-true (keys_rise [] fs) _ fit in
      let r = have_rule (Object defs) key row fs (and-true (have_rules (Object defs) fs) _ b.1).0 h in
      let single : is_single_kind r.0.kind ≡ true = go (declared_field defs key) refl r.0 r.1 in
      subst (λ w. IsPlaced s zs types ty (at_of rev owner key w c)) (sym (rises_single [] key row fs b.0 h))
      (record { owner = x; listed = listed; named = named; rule = r.0; ruled = ap (option_and_then (λ (form : Form). field_in form key)) form ∙ r.1; kind = single; typed = rw r.1 at e })
    where
      go : (o : Option FieldDef) → declared_field defs key ≡ o → (rule : FieldRule) → option_map (λ (f : FieldDef). record { kind = f.kind; types = f.types }) o ≡ Some rule → is_single_kind rule.kind ≡ true
      go None f rule g = absurd (cc)
      go (Some d) f rule g =
          let r : record { kind = d.kind; types = d.types } ≡ rule = cc in
          ap (λ (r : FieldRule). is_single_kind r.kind) (sym r) ∙ (declared_single s sound x.ty key defs d form f).1

  abbrev AreInside : List FlatNode → Type 0
  AreInside xs = (x : FlatNode) → Has xs x → Has zs x

  abbrev AreAllowed : List FlatNode → Type 0
  AreAllowed xs = (x : FlatNode) → Has xs x → IsAllowedItem s zs types x

  mutual
    tree_allowed : (at : FlatAt) (n c : ℕ) (own : List (List ℕ)) (t : Node) → list_all (λ ok. ok) (verdicts s own t) ≡ true → ((ty : List ℕ) → is_among ty own ≡ true → IsPlaced s zs types ty at)
        → AreInside (tree_listed rev at n c t) → AreAllowed (tree_listed rev at n c t)
    tree_allowed at n c own (node ty (Some v) fs) e here inside x (inl q) =
        let fits = and-true (is_among ty own) _ (and-true _ _ e).0 in
        subst (IsAllowedItem s zs types) q (record {
          typed = fits_type ty (Some v) fs fits.1;
          placed = here ty fits.0;
          filled = λ key rule ruled required. absurd (undefined key rule ruled (leaf_undefined s sound ty v (and-true _ _ fits.1).0));
        })
      where
        undefined : (key : Key) (rule : FieldRule) → field_of s ty key.0 ≡ Some rule → form_of s.types ty ≡ None → ⊥
        undefined key rule f g = let bad : None ≡ Some rule = sym (ap (option_and_then (λ (form : Form). field_in form key.0)) g) ∙ f in cc
    tree_allowed at n c own (node ty (Some v) no_fields) e here inside x (inr h) = absurd h
    tree_allowed at n c own (node ty (Some v) (field key row items rest)) e here inside x (inr h) =
        let fits = and-true (is_among ty own) _ (and-true _ _ e).0 in
        absurd (true-false (and-true (same ty (leaf_type v)) false fits.1).1 refl)
    tree_allowed at n c own (node ty None fs) e here inside x h =
        go (form_of s.types ty) refl (and-true (is_among ty own) _ (and-true _ _ e).0).1 h
        (λ form ok takes within k. fields_allowed n (n + 1) c form fs ok takes within x k)
      where
        parts : (node_fits s own ty None fs ≡ true) × (list_all (λ ok. ok) (fields_verdicts s (form_of s.types ty) fs) ≡ true)
        parts = and-true _ _ e

        item : FlatNode
        item = record { node = node_named rev n; ty = ty; leaf = None; row = is_array fs; at = at }

        go : (o : Option Form) → form_of s.types ty ≡ o → is_as_typed o ty None fs ≡ true → (item ≡ x) ⊎ Has (fields_listed rev n (n + 1) c fs) x
            → ((form : Form) → list_all (λ ok. ok) (fields_verdicts s (Some form) fs) ≡ true
            → ((key : List ℕ) (row : Bool) (d : ℕ) (ty : List ℕ) → HasKey fs key row → is_among ty (types_under (Some form) key) ≡ true → IsPlaced s zs types ty (at_of rev n key row d))
            → AreInside (fields_listed rev n (n + 1) c fs) → Has (fields_listed rev n (n + 1) c fs) x → IsAllowedItem s zs types x)
            → IsAllowedItem s zs types x
        go None q fit k below = absurd (cc)
        go (Some form) q fit (inl same_item) below = subst (IsAllowedItem s zs types) same_item (record {
          typed = ap is_some q;
          placed = here ty (and-true (is_among ty own) _ parts.0).0;
          filled = λ key rule ruled required. (let y = required_filled form n (n + 1) c fs key rule fit (sym (ap (option_and_then (λ (form : Form). field_in form key.0)) q) ∙ ruled) required in
              (y.0, inside y.0 (inr y.1), y.2));
        })
        go (Some form) q fit (inr k) below =
            below form (subst (λ o. list_all (λ ok. ok) (fields_verdicts s o fs) ≡ true) q parts.1)
            (λ key row d u i among. field_takes item n d form fs key row u (inside item (inl refl)) refl q fit i among)
            (λ z l. inside z (inr l)) k

    fields_allowed : (owner n c : ℕ) (form : Form) (fs : Fields) → list_all (λ ok. ok) (fields_verdicts s (Some form) fs) ≡ true
        → ((key : List ℕ) (row : Bool) (d : ℕ) (ty : List ℕ) → HasKey fs key row → is_among ty (types_under (Some form) key) ≡ true → IsPlaced s zs types ty (at_of rev owner key row d))
        → AreInside (fields_listed rev owner n c fs) → AreAllowed (fields_listed rev owner n c fs)
    fields_allowed owner n c form no_fields e takes inside x h = absurd h
    fields_allowed owner n c form (field key row items rest) e takes inside x h =
        let both = all-parts (items_verdicts s (types_under (Some form) key) items) (fields_verdicts s (Some form) rest) e in
        let here = items_listed rev owner key row n c items in
        let later = fields_listed rev owner (n + item_count items) (c + item_cells row items) rest in
        elim (has-append here later x h) [
          | inl k ↦ items_allowed owner key row n c (types_under (Some form) key) items both.0 (λ d ty among. takes key row d ty (inl (refl, refl)) among) (λ z l. inside z (append_left here later z l)) x k
          | inr k ↦ fields_allowed owner (n + item_count items) (c + item_cells row items) form rest both.1 (λ k r d ty i among. takes k r d ty (inr i) among) (λ z l. inside z (append_right here later z l)) x k
        ]

    items_allowed : (owner : ℕ) (key : List ℕ) (row : Bool) (n c : ℕ) (own : List (List ℕ)) (ts : Nodes) → list_all (λ ok. ok) (items_verdicts s own ts) ≡ true
        → ((d : ℕ) (ty : List ℕ) → is_among ty own ≡ true → IsPlaced s zs types ty (at_of rev owner key row d))
        → AreInside (items_listed rev owner key row n c ts) → AreAllowed (items_listed rev owner key row n c ts)
    items_allowed owner key row n c own no_nodes e takes inside x h = absurd h
    items_allowed owner key row n c own (first t ts) e takes inside x h =
        let both = all-parts (verdicts s own t) (items_verdicts s own ts) e in
        let here = tree_listed rev (at_of rev owner key row c) n (c + cells_taken row) t in
        let later = items_listed rev owner key row (n + node_count t) (c + (cells_taken row + cell_count t)) ts in
        elim (has-append here later x h) [
          | inl k ↦ tree_allowed (at_of rev owner key row c) n (c + cells_taken row) own t both.0 (takes c) (λ z l. inside z (append_left here later z l)) x k
          | inr k ↦ items_allowed owner key row (n + node_count t) (c + (cells_taken row + cell_count t)) own ts both.1 takes (λ z l. inside z (append_right here later z l)) x k
        ]

  pub tops_allowed : (n c : ℕ) (ts : Nodes) → list_all (λ ok. ok) (items_verdicts s types ts) ≡ true → AreInside (tops_listed rev n c ts) → AreAllowed (tops_listed rev n c ts)
  tops_allowed n c no_nodes e inside x h = absurd h
  tops_allowed n c (first t ts) e inside x h =
      let both = all-parts (verdicts s types t) (items_verdicts s types ts) e in
      let here = tree_listed rev (FlatAt.Top (cell_named rev c)) n (c + 1) t in
      let later = tops_listed rev (n + node_count t) (c + (1 + cell_count t)) ts in
      elim (has-append here later x h) [
        | inl k ↦ tree_allowed (FlatAt.Top (cell_named rev c)) n (c + 1) types t both.0 (λ ty among. among) (λ z l. inside z (append_left here later z l)) x k
        | inr k ↦ tops_allowed (n + node_count t) (c + (1 + cell_count t)) ts both.1 (λ z l. inside z (append_right here later z l)) x k
      ]

  pub root_allowed : (t : Node) → list_all (λ ok. ok) (verdicts s types t) ≡ true → AreInside (tree_listed rev FlatAt.Root 0 0 t) → AreAllowed (tree_listed rev FlatAt.Root 0 0 t)
  root_allowed t e inside x h = tree_allowed FlatAt.Root 0 0 types t e (λ ty among. among) inside x h
