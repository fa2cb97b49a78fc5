-- The tests tell whether a commit keeps to the schema.
use Rattle.std.proofs.Common.{◌≡◌, Bool, true, false, not, ◌||◌, List, [], ◌∷◌, ℕ, Option, Some, None, refl, sym, ap, ◌∙◌, subst, option_map, option_and_then, cond, inl, inr}
use Rattle.std.specs.List.{list_all}
use Rattle.st_ids.specs.Listing.{Has}
use Rattle.st_ids.specs.Order.{same_node}
use Rattle.st_ids.specs.declared.names.Key.{Key}
use Rattle.st_ids.specs.declared.names.NodeId.{NodeId}
use Rattle.st_ids.proofs.Orders.{same_node-true, same_node-itself}
use Rattle.st_schema.specs.Kind.{is_required, is_row, is_single_kind}
use Rattle.st_schema.specs.Schema.{SchemaView, same, is_key, is_sound, form_of, declared_field, field_in}
use Rattle.st_schema.specs.declared.names.FieldDef.{FieldDef}
use Rattle.st_schema.specs.declared.names.FieldRule.{FieldRule}
use Rattle.st_schema.specs.declared.names.Form.{Form}
use Rattle.st_schema.specs.declared.names.Form.TheVariants.{Array, Map, Object}
use Rattle.st_schema.specs.declared.names.KindName.{KindName}
use Rattle.st_schema.specs.declared.names.KindName.TheVariants.{Optional, Sequence}
use Rattle.st_schema.proofs.Forms.{text_same}
use Rattle.st_marks.specs.declared.changes.NewNode.{NewNode}
use Rattle.st_marks.specs.declared.intents.Intent.{Intent}
use Rattle.st_marks.specs.declared.intents.Put.{Put}
use Rattle.st_marks.specs.declared.intents.To.{To}
use Rattle.st_marks.specs.CarryOut.{with_names}
use Rattle.st_marks.specs.Document.{Document, NodeType}
use Rattle.st_marks.specs.Intent.{is_new, new_node, put_in, put_of}
use Rattle.st_marks.proofs.Lookups.{put-has}
use Rattle.st_marks.proofs.Members.{any-has, first-has, has-any}
use Rattle.st_edits.specs.Paths.{field_at}
use Rattle.st_edits.specs.Resolve.{has_type, rule_at}
use Rattle.st_edits.proofs.Fits.{all_pass}
use Rattle.st_intent.proofs.Scans.{is_new-listed}
use Rattle.st_intent.proofs.Tells.{Tells}
use Rattle.st_lemmas.proofs.Bools.{and-true, and-both, true-false}
use Rattle.st_lemmas.proofs.Options.{option_map-Some, option_and_then-Some}
use Rattle.st_edits.specs.Fields.{row_key, type_fits}
use Rattle.st_edits.specs.Keeping.{GoesWell, HasField}
use Rattle.st_kept_fields.proofs.Rising.{rising_defs}
use Rattle.st_kept_fields.specs.Fields.{HaveTypes, AreFilled, GoWell}
use Rattle.st_kept_fields.specs.inside.Tests.{is_typed, are_typed, is_of_new, is_filled, form_is_filled, node_is_filled, all_filled, takes, has_field, row_takes, goes_well, put_goes_well, all_go_well}

-- a test that each item passes
each_passes : {A : Type 0} (p : A → Bool) (xs : List A) → ((x : A) → Has xs x → p x ≡ true) → list_all p xs ≡ true
each_passes p [] h = refl
each_passes p (x ∷ xs) h = and-both (p x) (list_all p xs) (h x (inl refl)) (each_passes p xs (λ y k. h y (inr k)))

-- a new node is listed
listed : (N : Intent) (n : NodeId) → is_new N n ≡ true → (m : NewNode) × Has N.new m × (m.node ≡ n)
listed N n e =
    let m = any-has (λ (m : NewNode). same_node m.node n) N.new (sym (is_new-listed N n) ∙ e) in
    (m.0, m.1, same_node-true m.0.node n m.2)

-- ## Types

types_told : (s : SchemaView) (N : Intent) → Tells (are_typed s N) (HaveTypes s N)
types_told s N = (to, from)
  where
    to : are_typed s N ≡ true → HaveTypes s N
    to e n t f =
        let m = option_map-Some (λ (m : NewNode). record { ty = m.ty; leaf = m.leaf }) (new_node N n) t f in
        let w = first-has (λ (m : NewNode). same_node m.node n) N.new m.0 m.1 in
        let first : new_node N m.0.node ≡ Some m.0 = ap (new_node N) (same_node-true m.0.node n w.1) ∙ m.1 in
        let typed : type_fits s m.0.ty m.0.leaf ≡ true = ap (is_typed s) (sym first) ∙ all_pass (λ (m : NewNode). is_typed s (new_node N m.node)) N.new m.0 e w.0 in
        ap (λ (t : NodeType). type_fits s t.ty t.leaf) (sym m.2) ∙ typed

    from : HaveTypes s N → are_typed s N ≡ true
    from h = each_passes (λ (m : NewNode). is_typed s (new_node N m.node)) N.new (λ m k. go m.node (new_node N m.node) refl)
      where
        go : (n : NodeId) (o : Option NewNode) → new_node N n ≡ o → is_typed s o ≡ true
        go n None e = refl
        go n (Some m) e = h n (record { ty = m.ty; leaf = m.leaf }) (ap (option_map (λ (m : NewNode). record { ty = m.ty; leaf = m.leaf })) e)

pub types_tell : (b : Bool) (s : SchemaView) (N : Intent) → b ≡ are_typed s N → Tells b (HaveTypes s N)
types_tell b s N e = subst (λ b. Tells b (HaveTypes s N)) (sym e) (types_told s N)

-- ## Required fields

of_new : (N : Intent) (o : Option NodeId) → is_of_new N o ≡ true → (m : NodeId) × (o ≡ Some m) × (is_new N m ≡ true)
of_new N None e = cc
of_new N (Some m) e = (m, refl, e)

filled_of : (N : Intent) (n : NodeId) (d : FieldDef) → is_required d.kind ≡ true → is_filled N n d ≡ true → (m : NodeId) × (put_in N (field_at n d.key) ≡ Some m) × (is_new N m ≡ true)
filled_of N n d required e = of_new N (put_in N (field_at n d.key)) (ap (λ b. not b || is_of_new N (put_in N (field_at n d.key))) (sym required) ∙ e)

of_filled : (N : Intent) (n : NodeId) (d : FieldDef) → (is_required d.kind ≡ true → (m : NodeId) × (put_in N (field_at n d.key) ≡ Some m) × (is_new N m ≡ true)) → is_filled N n d ≡ true
of_filled N n d h = go (is_required d.kind) refl
  where
    go : (b : Bool) → is_required d.kind ≡ b → (not b || is_of_new N (put_in N (field_at n d.key))) ≡ true
    go false e = refl
    go true e = let m = h e in ap (is_of_new N) m.1 ∙ m.2

module _ (s : SchemaView) (sound : is_sound s ≡ true) (D : Document) (N : Intent) where
  -- the rule of a node's field is that of its type's form
  ruled_by : (n : NodeId) (key : Key) (rule : FieldRule) → rule_at (with_names D N) s n key ≡ Some rule
      → (form : Form) × (option_and_then (form_of s.types) (option_map (λ (t : NodeType). t.ty) ((with_names D N).nodes n)) ≡ Some form) × (field_in form key.0 ≡ Some rule)
  ruled_by n key rule e = go ((with_names D N).nodes n) e
    where
      go : (o : Option NodeType) → option_and_then (λ (t : NodeType). option_and_then (λ form. field_in form key.0) (form_of s.types t.ty)) o ≡ Some rule
          → (form : Form) × (option_and_then (form_of s.types) (option_map (λ (t : NodeType). t.ty) o) ≡ Some form) × (field_in form key.0 ≡ Some rule)
      go None e = cc
      go (Some t) e = option_and_then-Some (λ form. field_in form key.0) (form_of s.types t.ty) rule e

  filled_by : (n : NodeId) (key : Key) (rule : FieldRule) (form : Form) → field_in form key.0 ≡ Some rule → is_required rule.kind ≡ true → form_is_filled N n (Some form) ≡ true
      → (m : NodeId) × (put_in N (field_at n key) ≡ Some m) × (is_new N m ≡ true)
  filled_by n key rule (Array types) e required f = absurd (array key.0 e)
    where
      array : (k : List ℕ) → field_in (Array types) k ≡ Some rule → ⊥
      array [] e = let r : record { kind = Sequence; types = types } ≡ rule = cc in true-false required (ap (λ (r : FieldRule). is_required r.kind) (sym r))
      array (b ∷ k) e = cc
  filled_by n key rule (Map types) e required f = absurd (mapped (is_key key.0) e)
    where
      mapped : (b : Bool) → cond b (Some (record { kind = Optional; types = types })) None ≡ Some rule → ⊥
      mapped true e = let r : record { kind = Optional; types = types } ≡ rule = cc in true-false required (ap (λ (r : FieldRule). is_required r.kind) (sym r))
      mapped false e = cc
  filled_by n key rule (Object defs) e required f =
      let d = option_map-Some (λ (f : FieldDef). record { kind = f.kind; types = f.types }) (declared_field defs key.0) rule e in
      let w = first-has (λ (f : FieldDef). same f.key.0 key.0) defs d.0 d.1 in
      let named : d.0.key ≡ key = ap (λ k. record { 0 = k }) (text_same d.0.key.0 key.0 w.1) in
      let m = filled_of N n d.0 (ap (λ (r : FieldRule). is_required r.kind) d.2 ∙ required) (all_pass (is_filled N n) defs d.0 f w.0) in
      (m.0, ap (λ k. put_in N (field_at n k)) (sym named) ∙ m.1, m.2)

  filled_told : Tells (all_filled s D N) (AreFilled s D N)
  filled_told = (to, from)
    where
      to : all_filled s D N ≡ true → AreFilled s D N
      to e n key rule new ruled required =
          let m = listed N n new in
          let w = ruled_by n key rule ruled in
          let filled : node_is_filled s D N n ≡ true = ap (node_is_filled s D N) (sym m.2) ∙ all_pass (λ (m : NewNode). node_is_filled s D N m.node) N.new m.0 e m.1 in
          filled_by n key rule w.0 w.2 required (ap (form_is_filled N n) (sym w.1) ∙ filled)

      from : AreFilled s D N → all_filled s D N ≡ true
      from h = each_passes (λ (m : NewNode). node_is_filled s D N m.node) N.new (λ m k. at_node m.node (is_listed m k) ((with_names D N).nodes m.node) refl)
        where
          is_listed : (m : NewNode) → Has N.new m → is_new N m.node ≡ true
          is_listed m k = is_new-listed N m.node ∙ has-any (λ (x : NewNode). same_node x.node m.node) N.new m k (same_node-itself m.node)

          formed : (n : NodeId) → is_new N n ≡ true → (t : NodeType) → (with_names D N).nodes n ≡ Some t → (o : Option Form) → form_of s.types t.ty ≡ o → form_is_filled N n o ≡ true
          formed n new t here None e = refl
          formed n new t here (Some (Array types)) e = refl
          formed n new t here (Some (Map types)) e = refl
          formed n new t here (Some (Object defs)) e = each_passes (is_filled N n) defs (λ d k. of_filled N n d (λ required.
              h n d.key (record { kind = d.kind; types = d.types }) new (ruled d k) required))
            where
              ruled : (d : FieldDef) → Has defs d → rule_at (with_names D N) s n d.key ≡ Some (record { kind = d.kind; types = d.types })
              ruled d k =
                  ap (option_and_then (λ (t : NodeType). option_and_then (λ form. field_in form d.key.0) (form_of s.types t.ty))) here
                  ∙ ap (option_and_then (λ form. field_in form d.key.0)) e
                  ∙ ap (option_map (λ (f : FieldDef). record { kind = f.kind; types = f.types })) (rising_defs s sound t.ty defs d e k)

          at_node : (n : NodeId) → is_new N n ≡ true → (o : Option NodeType) → (with_names D N).nodes n ≡ o → form_is_filled N n (option_and_then (form_of s.types) (option_map (λ (t : NodeType). t.ty) o)) ≡ true
          at_node n new None here = refl
          at_node n new (Some t) here = formed n new t here (form_of s.types t.ty) refl

  pub filled_tell : (b : Bool) → b ≡ all_filled s D N → Tells b (AreFilled s D N)
  filled_tell b e = subst (λ b. Tells b (AreFilled s D N)) (sym e) filled_told

-- ## Fields

module _ (s : SchemaView) (D : Document) where
  field_told : (kinds : KindName → Bool) (n : NodeId) (key : Key) (m : NodeId) → Tells (has_field s D kinds n key m) (HasField s D kinds n key m)
  field_told kinds n key m = (λ e. to (rule_at D s n key) refl e, from)
    where
      to : (o : Option FieldRule) → rule_at D s n key ≡ o → takes D kinds m o ≡ true → HasField s D kinds n key m
      to None e f = cc
      to (Some rule) e f = let w = and-true (kinds rule.kind) (has_type D rule.types m) f in record { rule = rule; ruled = e; kind = w.0; typed = w.1 }

      from : HasField s D kinds n key m → has_field s D kinds n key m ≡ true
      from w = ap (takes D kinds m) w.ruled ∙ and-both (kinds w.rule.kind) (has_type D w.rule.types m) w.kind w.typed

  well_told : (m : NodeId) (to : To) → Tells (goes_well s D m to) (GoesWell s D m to)
  well_told m To.Nowhere = (λ e. tt, λ h. refl)
  well_told m (To.Cell c) = (λ e. to (D.row_of c) refl e, λ h. ap (row_takes s D m) h.1 ∙ (field_told is_row h.0 row_key m).1 h.2)
    where
      to : (o : Option NodeId) → D.row_of c ≡ o → row_takes s D m o ≡ true → (n : NodeId) × (D.row_of c ≡ Some n) × HasField s D is_row n row_key m
      to None e f = cc
      to (Some n) e f = (n, e, (field_told is_row n row_key m).0 f)
  well_told m (To.Register f) = field_told is_single_kind f.node f.key m

puts_told : (s : SchemaView) (D : Document) (N : Intent) → Tells (all_go_well s D N) (GoWell s D N)
puts_told s D N = (to, from)
  where
    to : all_go_well s D N ≡ true → GoWell s D N
    to e m place f =
        let passed = all_pass (λ (p : Put). put_goes_well s (with_names D N) p.node (put_of N p.node)) N.put (record { node = m; to = place }) e (put-has N m place f) in
        (well_told s (with_names D N) m place).0 (ap (put_goes_well s (with_names D N) m) (sym f) ∙ passed)

    from : GoWell s D N → all_go_well s D N ≡ true
    from h = each_passes (λ (p : Put). put_goes_well s (with_names D N) p.node (put_of N p.node)) N.put (λ p k. go p.node (put_of N p.node) refl)
      where
        go : (m : NodeId) (o : Option To) → put_of N m ≡ o → put_goes_well s (with_names D N) m o ≡ true
        go m None e = refl
        go m (Some place) e = (well_told s (with_names D N) m place).1 (h m place e)

pub puts_tell : (b : Bool) (s : SchemaView) (D : Document) (N : Intent) → b ≡ all_go_well s D N → Tells b (GoWell s D N)
puts_tell b s D N e = subst (λ b. Tells b (GoWell s D N)) (sym e) (puts_told s D N)
