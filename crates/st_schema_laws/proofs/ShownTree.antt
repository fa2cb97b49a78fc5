-- What a conforming document shows is a tree that the schema allows.
use Rattle.std.proofs.Common.{◌≡◌, ◌≢◌, ℕ, Bool, true, false, not, cond, ◌&&◌, ◌||◌, List, [], ◌∷◌, Option, Some, None, IsSome, is_some, refl, sym, ap, ◌∙◌, subst, inl, inr, ◌⊎◌, option_map, option_and_then}
use Rattle.std.specs.List.{list_all}
use Rattle.std.specs.Option.{option_map_or}
use Rattle.std.specs.Ordering.{nat_cmp, is_lt, eq_by_cmp}
use Rattle.std.specs.Cmp.Lexicographic.{slice_cmp}
use Rattle.std.specs.declared.cmp.Ordering.{Ordering}
use Rattle.std.specs.FinMap.Entries.{is_sorted, below_all}
use Rattle.serde_json.specs.Data.{Data, array, object, Items, item, Members, member}
use Rattle.st_ids.specs.Listing.{Has, IsListing, item_of, key_pairs}
use Rattle.st_ids.specs.declared.names.CellId.{CellId}
use Rattle.st_ids.specs.declared.names.Key.{Key}
use Rattle.st_ids.specs.declared.names.FieldId.{FieldId}
use Rattle.st_ids.specs.declared.names.NodeId.{NodeId}
use Rattle.st_tree.specs.Node.{Node, node, Fields, no_fields, field, Nodes, no_nodes, first}
use Rattle.st_tree.specs.Form.{is_single, keys_rise}
use Rattle.st_schema.specs.Schema.{SchemaView, same, is_among, form_of, declared_field, field_in, field_of, is_sound}
use Rattle.st_schema.specs.Conforms.{leaf_type, has_key, have_rules, fields_fit, is_as_typed, types_in, types_under, verdicts, fields_verdicts, items_verdicts, conforms}
use Rattle.st_schema.specs.TreeText.{tree_data, body_data, members_data, trees_data}
use Rattle.st_schema.specs.declared.names.FieldDef.{FieldDef}
use Rattle.st_schema.specs.declared.names.FieldRule.{FieldRule}
use Rattle.st_schema.specs.declared.names.Form.{Form}
use Rattle.st_schema.specs.declared.names.Form.TheVariants.{Array, Map, Object}
use Rattle.st_schema.specs.declared.names.KindName.TheVariants.{Sequence}
use Rattle.st_marks.specs.declared.intents.Owned.{Owned}
use Rattle.st_marks.specs.declared.places.Slot.{Slot}
use Rattle.st_marks.specs.declared.places.Spot.{Spot}
use Rattle.st_marks.specs.Document.{Document, NodeType, IsSoundInForm, slot, content, is_cell}
use Rattle.st_ids.specs.Root.{root}
use Rattle.st_marks.specs.LiveTree.{Shows, shows_leaf, shows_row, shows_registers, ShowsItems, no_more_items, next_item, ShowsMembers, no_more_members, next_member, one_member, owners_shown, key_at, register}
use Rattle.st_marks.proofs.Members.{has-map}
use Rattle.st_edits.specs.Resolve.{rule_at, has_type}
use Rattle.st_schema.specs.Kind.{is_required, is_row, is_single_kind}
use Rattle.st_ids.proofs.Orders.{same_cell-true, bytes-itself}
use Rattle.st_edits.specs.Fields.{row_key}
use Rattle.st_schema_laws.specs.Conforming.{Admits, MayStand, IsConforming}
use Rattle.st_edits.specs.ArrayTypes.{is_array_form, is_array_type}
use Rattle.st_schema_laws.proofs.Rules.{rising_defs}
use Rattle.st_schema.proofs.MoreTrees.{all-append}
use Rattle.st_marks.proofs.Shared.{owner_full}
use Rattle.st_lemmas.proofs.Bools.{and-both, and-true}

abbrev bytes_cmp : List ℕ → List ℕ → Ordering
bytes_cmp = slice_cmp nat_cmp

abbrev itself : List ℕ → List ℕ
itself k = k

-- ## Keys of a listing

-- what is found of a list of keys is in it
key_listed : (ks : List (List ℕ)) (q k : List ℕ) → item_of bytes_cmp itself ks q ≡ Some k → Has ks k
key_listed [] q k e = cc
key_listed (l ∷ ks) q k e = go (eq_by_cmp bytes_cmp q l) (λ f. key_listed ks q k f) e
  where
    go : (b : Bool) → (item_of bytes_cmp itself ks q ≡ Some k → Has ks k) → cond b (Some l) (item_of bytes_cmp itself ks q) ≡ Some k → (l ≡ k) ⊎ Has ks k
    go true rest f = inl (cc)
    go false rest f = inr (rest f)

-- ## Fields that are as a list of keys says, each of one item

abbrev HasKeys : List (List ℕ) → Fields → Type 0
HasKeys [] no_fields = Unit {0}
HasKeys [] (field key row items rest) = ⊥
HasKeys (k ∷ ks) no_fields = ⊥
HasKeys (k ∷ ks) (field key true items rest) = ⊥
HasKeys (k ∷ ks) (field key false items rest) = (key ≡ k) × (is_single items ≡ true) × HasKeys ks rest

members_body : (ks : List (List ℕ)) (fs : Fields) → HasKeys ks fs → body_data fs ≡ object (members_data fs)
members_body [] no_fields h = refl
members_body [] (field key row items rest) h = absurd h
members_body (k ∷ ks) no_fields h = absurd h
members_body (k ∷ ks) (field key true items rest) h = absurd h
members_body (k ∷ ks) (field key false items rest) h = refl

fields_rise : (before : List ℕ) (ks : List (List ℕ)) (fs : Fields) → HasKeys ks fs → below_all bytes_cmp before (key_pairs itself ks) ≡ true → is_sorted bytes_cmp (key_pairs itself ks) ≡ true → keys_rise before fs ≡ true
fields_rise before [] no_fields h below sorted = refl
fields_rise before [] (field key row items rest) h below sorted = absurd h
fields_rise before (k ∷ ks) no_fields h below sorted = absurd h
fields_rise before (k ∷ ks) (field key true items rest) h below sorted = absurd h
fields_rise before (k ∷ ks) (field key false items rest) h below sorted =
    let b = and-true _ _ below in
    let s = and-true _ _ sorted in
    and-both (is_single items) _ h.1 (and-both (is_lt (bytes_cmp before key)) _ (ap (λ k. is_lt (bytes_cmp before k)) h.0 ∙ b.0)
    (fields_rise key ks rest h.2 (subst (λ l. below_all bytes_cmp l (key_pairs itself ks) ≡ true) (sym h.0) s.0) s.1))

-- keys that aren't empty are above the empty key
above_empty : (ks : List (List ℕ)) → ((k : List ℕ) → Has ks k → k ≢ []) → below_all bytes_cmp [] (key_pairs itself ks) ≡ true
above_empty [] some = refl
above_empty ([] ∷ ks) some = absurd (some [] (inl refl) refl)
above_empty ((b ∷ k) ∷ ks) some = above_empty ks (λ l h. some l (inr h))

rules_had : (form : Form) (ks : List (List ℕ)) (fs : Fields) → HasKeys ks fs → ((k : List ℕ) → Has ks k → is_some (field_in form k) ≡ true) → have_rules form fs ≡ true
rules_had form [] no_fields h each = refl
rules_had form [] (field key row items rest) h each = absurd h
rules_had form (k ∷ ks) no_fields h each = absurd h
rules_had form (k ∷ ks) (field key true items rest) h each = absurd h
rules_had form (k ∷ ks) (field key false items rest) h each =
    and-both (is_some (field_in form key)) _ (ap (λ k. is_some (field_in form k)) h.0 ∙ each k (inl refl)) (rules_had form ks rest h.2 (λ l i. each l (inr i)))

key_had : (ks : List (List ℕ)) (fs : Fields) (k : List ℕ) → HasKeys ks fs → Has ks k → has_key fs k ≡ true
key_had [] no_fields k h i = absurd i
key_had [] (field key row items rest) k h i = absurd h
key_had (l ∷ ks) no_fields k h i = absurd h
key_had (l ∷ ks) (field key true items rest) k h i = absurd h
key_had (l ∷ ks) (field key false items rest) k h (inl e) = ap (λ b. b || has_key rest k) (ap (λ l. same l k) (h.0 ∙ e) ∙ bytes-itself k)
key_had (l ∷ ks) (field key false items rest) k h (inr i) = elim (same key k) as (λ b. (b || has_key rest k) ≡ true) [ true ↦ refl | false ↦ key_had ks rest k h.2 i ]

all_from : {A : Type 0} (p : A → Bool) (xs : List A) → ((x : A) → Has xs x → p x ≡ true) → list_all p xs ≡ true
all_from p [] h = refl
all_from p (x ∷ xs) h = and-both (p x) _ (h x (inl refl)) (all_from p xs (λ y i. h y (inr i)))

-- ## What a row shows

-- ## The tree

-- a tree that shows as this, and is allowed in a place of these types
abbrev IsBuilt : SchemaView → List (List ℕ) → Data → Type 0
IsBuilt s types d = (t : Node) × (tree_data t ≡ d) × (conforms s types t ≡ true)

abbrev AreBuilt : SchemaView → List (List ℕ) → Items → Type 0
AreBuilt s types ds = (ts : Nodes) × (trees_data ts ≡ ds) × (list_all (λ ok. ok) (items_verdicts s types ts) ≡ true)

pub record FieldsBuilt (s : SchemaView) (form : Form) (ks : List (List ℕ)) (ms : Members) : Type 0 where
  pub fields : Fields
  pub data_is : members_data fields ≡ ms
  pub allowed : list_all (λ ok. ok) (fields_verdicts s (Some form) fields) ≡ true
  pub keys : HasKeys ks fields

module _ (s : SchemaView) (schema : is_sound s ≡ true) (home : NodeId → Option FieldId) (D : Document) (sound : IsSoundInForm D) (here : IsConforming s home D) (is_array : List ℕ → Bool) (tells : (ty : List ℕ) → is_array ty ≡ is_array_type s ty) where
  -- a node with its fields is allowed
  node_allowed : (types : List (List ℕ)) (ty : List ℕ) (form : Form) (fs : Fields) → form_of s.types ty ≡ Some form → is_among ty types ≡ true → fields_fit form fs ≡ true
      → list_all (λ ok. ok) (fields_verdicts s (Some form) fs) ≡ true → conforms s types (node ty None fs) ≡ true
  node_allowed types ty form fs q among fit ok =
      subst (λ o. ((is_among ty types && is_as_typed o ty None fs) && list_all (λ ok. ok) (fields_verdicts s o fs)) ≡ true) (sym q) (and-both (is_among ty types && fields_fit form fs) _ (and-both (is_among ty types) _ among fit) ok)

  type_among : (n : NodeId) (t : NodeType) (types : List (List ℕ)) → D.nodes n ≡ Some t → has_type D types n ≡ true → is_among t.ty types ≡ true
  type_among n t types q e = sym (ap (λ o. option_map_or (λ (t : NodeType). is_among t.ty types) o false) q) ∙ e

  rule_in : (n : NodeId) (t : NodeType) (form : Form) (key : Key) (rule : FieldRule) → D.nodes n ≡ Some t → form_of s.types t.ty ≡ Some form → rule_at D s n key ≡ Some rule → field_in form key.0 ≡ Some rule
  rule_in n t form key rule q f e =
      sym (ap (option_and_then (λ (form : Form). field_in form key.0)) f) ∙ (sym (ap (option_and_then (λ (t : NodeType). field_of s t.ty key.0)) q) ∙ e)

  rule_from : (n : NodeId) (t : NodeType) (form : Form) (key : Key) (rule : FieldRule) → D.nodes n ≡ Some t → form_of s.types t.ty ≡ Some form → field_in form key.0 ≡ Some rule → rule_at D s n key ≡ Some rule
  rule_from n t form key rule q f e = ap (option_and_then (λ (t : NodeType). field_of s t.ty key.0)) q ∙ (ap (option_and_then (λ (form : Form). field_in form key.0)) f ∙ e)

  -- an item of a row is of the row's types
  item_typed : (n : NodeId) (t : NodeType) (types : List (List ℕ)) → D.nodes n ≡ Some t → form_of s.types t.ty ≡ Some (Array types) → (m : NodeId) → Has (owners_shown (content D n)) m → has_type D types m ≡ true
  item_typed n t types q f m h =
      let o = owner_full (content D n) m h in
      let p = has-map (slot D) (D.rows n) o.0 o.1 in
      let node : p.0.node ≡ m = ap (λ (s : Slot). s.node) p.2 ∙ o.3 in
      let full : is_cell p.0.cell (D.place p.0.node) ≡ true = ap (λ (s : Slot). s.full) p.2 ∙ o.2 in
      subst (λ m. has_type D types m ≡ true) node (go p.0 p.1 (D.place p.0.node) refl full)
    where
      in_row : (o : Owned) (r : NodeId) (d : CellId) → Has (D.rows n) o → D.place o.node ≡ Spot.Row r d → o.cell ≡ d → r ≡ n
      in_row o r d h e same =
          let a : D.row_of o.cell ≡ Some n = (sound.one_row o.cell n).1 (o.node, h) in
          let b : D.row_of d ≡ Some r = (sound.one_row d r).1 (o.node, sound.own_cell o.node r d e) in
          let c : Some r ≡ Some n = sym b ∙ ap D.row_of (sym same) ∙ a in
          cc

      go : (o : Owned) → Has (D.rows n) o → (spot : Spot) → D.place o.node ≡ spot → is_cell o.cell spot ≡ true → has_type D types o.node ≡ true
      go o h Spot.Nowhere e full = absurd (cc)
      go o h (Spot.Register g) e full = absurd (cc)
      go o h (Spot.Row r d) e full =
          let may : Admits s home D is_row r row_key o.node = subst (MayStand s home D o.node) e (here.places o.node) in
          let rule = rule_in n t (Array types) row_key may.rule q f (subst (λ r. rule_at D s r row_key ≡ Some may.rule) (in_row o r d h e (same_cell-true o.cell d full)) may.ruled) in
          let is : types ≡ may.rule.types = (let w : record { kind = Sequence; types = types } ≡ may.rule = cc in ap (λ (r : FieldRule). r.types) w) in
          subst (λ ts. has_type D ts o.node ≡ true) (sym is) may.typed

  -- the occupant of a register is of the field's types
  occupant : (n m : NodeId) (k : List ℕ) → D.held (register n k) ≡ Some m → Admits s home D is_single_kind n (record { 0 = k }) m
  occupant n m k e = subst (MayStand s home D m) ((sound.one_held m (register n k)).0 e) (here.places m)

  occupant_typed : (n m : NodeId) (t : NodeType) (form : Form) (k : List ℕ) → D.nodes n ≡ Some t → form_of s.types t.ty ≡ Some form → D.held (register n k) ≡ Some m → has_type D (types_under (Some form) k) m ≡ true
  occupant_typed n m t form k q f e =
      let may = occupant n m k e in
      subst (λ o. has_type D (types_in o) m ≡ true) (sym (rule_in n t form (record { 0 = k }) may.rule q f may.ruled)) may.typed

  -- a key of a register that holds a node is listed
  held_listed : (n : NodeId) (ks : List (List ℕ)) (k : List ℕ) → IsListing bytes_cmp itself ks (key_at D n) → IsSome (D.held (register n k)) → Has ks k
  held_listed n ks k l h = key_listed ks k k (l.at_each k ∙ ap (λ b. cond b (Some k) None) h)

  -- the fields of a node with registers are as its form says
  fields_as_formed : (n : NodeId) (t : NodeType) (form : Form) (ks : List (List ℕ)) (fs : Fields) → D.nodes n ≡ Some t → form_of s.types t.ty ≡ Some form → is_array_form (Some form) ≡ false
      → IsListing bytes_cmp itself ks (key_at D n) → ((k : List ℕ) → Has ks k → (m : NodeId) × (D.held (register n k) ≡ Some m)) → HasKeys ks fs → fields_fit form fs ≡ true
  fields_as_formed n t form ks fs q f apart l each h = go form f apart
    where
      rise : keys_rise [] fs ≡ true
      rise = fields_rise [] ks fs h (above_empty ks (λ k i. (let m = each k i in sound.register_key m.0 (register n k) m.1))) l.rising

      ruled : (form : Form) → form_of s.types t.ty ≡ Some form → have_rules form fs ≡ true
      ruled form f = rules_had form ks fs h (λ k i. (let m = each k i in
          let may = occupant n m.0 k m.1 in
          ap is_some (rule_in n t form (record { 0 = k }) may.rule q f may.ruled)))

      go : (form : Form) → form_of s.types t.ty ≡ Some form → is_array_form (Some form) ≡ false → fields_fit form fs ≡ true
      go (Array types) f apart = absurd (cc)
      go (Map types) f apart = and-both (keys_rise [] fs) _ rise (ruled (Map types) f)
      go (Object defs) f apart = and-both (keys_rise [] fs) _ rise (and-both (have_rules (Object defs) fs) _ (ruled (Object defs) f) (all_from (λ (d : FieldDef). not (is_required d.kind) || has_key fs d.key.0) defs there))
        where
          there : (d : FieldDef) → Has defs d → (not (is_required d.kind) || has_key fs d.key.0) ≡ true
          there d i = need (is_required d.kind) refl
            where
              need : (b : Bool) → is_required d.kind ≡ b → (not b || has_key fs d.key.0) ≡ true
              need false r = refl
              need true r =
                  let own : declared_field defs d.key.0 ≡ Some d = rising_defs s schema t.ty defs d f i in
                  let rule : field_in (Object defs) d.key.0 ≡ Some (record { kind = d.kind; types = d.types }) = ap (option_map (λ (f : FieldDef). record { kind = f.kind; types = f.types })) own in
                  key_had ks fs d.key.0 h (held_listed n ks d.key.0 l (here.filled n d.key (record { kind = d.kind; types = d.types }) (rule_from n t (Object defs) d.key _ q f rule) r))

  mutual
    tree_shown : {n : NodeId} {d : Data} → Shows is_array D n d → (types : List (List ℕ)) → has_type D types n ≡ true → IsBuilt s types d
    tree_shown (shows_leaf n ty v q) types e =
        let among : is_among ty types ≡ true = type_among n (record { ty = ty; leaf = Some v }) types q e in
        let typed : same ty (leaf_type v) ≡ true = here.types n (record { ty = ty; leaf = Some v }) q in
        (node ty (Some v) no_fields, refl, and-both (is_among ty types && (same ty (leaf_type v) && true)) true (and-both (is_among ty types) _ among (and-both (same ty (leaf_type v)) true typed refl)) refl)
    tree_shown (shows_row n ty items q a r) types e = go (form_of s.types ty) refl (sym (tells ty) ∙ a) (λ ts f. items_shown r ts (item_typed n (record { ty = ty; leaf = None }) ts q f))
      where
        go : (o : Option Form) → form_of s.types ty ≡ o → is_array_form o ≡ true → ((ts : List (List ℕ)) → form_of s.types ty ≡ Some (Array ts) → AreBuilt s ts items) → IsBuilt s types (one_member ty (array items))
        go None f b build = absurd (cc)
        go (Some (Map ts)) f b build = absurd (cc)
        go (Some (Object defs)) f b build = absurd (cc)
        go (Some (Array ts)) f b build =
            let below = build ts f in (
              node ty None (field [] true below.0 no_fields),
              ap (λ ds. one_member ty (array ds)) below.1,
              node_allowed types ty (Array ts) (field [] true below.0 no_fields) f (type_among n (record { ty = ty; leaf = None }) types q e) refl (all-append (items_verdicts s ts below.0) [] below.2 refl),
            )
    tree_shown (shows_registers n ty keys ms q a l r) types e = go (form_of s.types ty) refl (sym (tells ty) ∙ a) (here.types n (record { ty = ty; leaf = None }) q) (λ form f. members_shown r form (λ k m held. occupant_typed n m (record { ty = ty; leaf = None }) form k q f held)) (each_held r)
      where
        go : (o : Option Form) → form_of s.types ty ≡ o → is_array_form o ≡ false → is_some o ≡ true → ((form : Form) → form_of s.types ty ≡ Some form → FieldsBuilt s form keys ms)
            → ((k : List ℕ) → Has keys k → (m : NodeId) × (D.held (register n k) ≡ Some m)) → IsBuilt s types (one_member ty (object ms))
        go None f b known build held = absurd (cc)
        go (Some form) f b known build held =
            let below = build form f in (
              node ty None below.fields,
              ap (λ d. one_member ty d) (members_body keys below.fields below.keys ∙ ap object below.data_is),
              node_allowed types ty form below.fields f (type_among n (record { ty = ty; leaf = None }) types q e)
                  (fields_as_formed n (record { ty = ty; leaf = None }) form keys below.fields q f b l held below.keys) below.allowed,
            )

    items_shown : {ns : List NodeId} {ds : Items} → ShowsItems is_array D ns ds → (types : List (List ℕ)) → ((m : NodeId) → Has ns m → has_type D types m ≡ true) → AreBuilt s types ds
    items_shown no_more_items types each = (no_nodes, refl, refl)
    items_shown (next_item n d ns ds a r) types each =
        let t = tree_shown a types (each n (inl refl)) in
        let ts = items_shown r types (λ m h. each m (inr h)) in
        (first t.0 ts.0, (λ i. item (t.1 i) (ts.1 i)), all-append (verdicts s types t.0) (items_verdicts s types ts.0) t.2 ts.2)

    members_shown : {n : NodeId} {ks : List (List ℕ)} {ms : Members} → ShowsMembers is_array D n ks ms → (form : Form) → ((k : List ℕ) (m : NodeId) → D.held (register n k) ≡ Some m → has_type D (types_under (Some form) k) m ≡ true) → FieldsBuilt s form ks ms
    members_shown (no_more_members n) form each = record { fields = no_fields; data_is = refl; allowed = refl; keys = tt }
    members_shown (next_member n m k d ks ms p a r) form each =
        let t = tree_shown a (types_under (Some form) k) (each k m p) in
        let rest = members_shown r form each in
        record {
          fields = field k false (first t.0 no_nodes) rest.fields;
          data_is = λ i. member k (t.1 i) (rest.data_is i);
          allowed = all-append (items_verdicts s (types_under (Some form) k) (first t.0 no_nodes)) (fields_verdicts s (Some form) rest.fields) (all-append (verdicts s (types_under (Some form) k) t.0) [] t.2 refl) rest.allowed;
          keys = (refl, refl, rest.keys);
        }

    each_held : {n : NodeId} {ks : List (List ℕ)} {ms : Members} → ShowsMembers is_array D n ks ms → (k : List ℕ) → Has ks k → (m : NodeId) × (D.held (register n k) ≡ Some m)
    each_held (no_more_members n) k h = absurd h
    each_held (next_member n m l d ks ms p a r) k (inl e) = (m, ap (λ k. D.held (register n k)) (sym e) ∙ p)
    each_held (next_member n m l d ks ms p a r) k (inr h) = each_held r k h

  pub shown_conforms : (d : Data) → Shows is_array D root d → (t : Node) × (tree_data t ≡ d) × (conforms s s.root t ≡ true)
  shown_conforms d shows = tree_shown shows s.root here.root_type
