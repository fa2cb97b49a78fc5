-- What follows from a schema's own rules: where its rows are, and that it defines no leaf type.
use Rattle.std.proofs.Common.{◌≡◌, ◌≢◌, ℕ, Bool, true, false, not, cond, List, [], ◌∷◌, map, length, nat_le, Option, Some, None, refl, sym, ap, ◌∙◌, inl, inr, option_map, option_and_then}
use Rattle.std.specs.List.{list_all}
use Rattle.std.specs.Map.{lookup}
use Rattle.std.specs.Ordering.{nat_cmp, is_lt}
use Rattle.std.specs.Cmp.Lexicographic.{slice_cmp, nat_list_cmp_total, bytes_decides}
use Rattle.std.specs.declared.cmp.Ordering.TheVariants.{Less, Equal}
use Rattle.std.proofs.lemmas.Cmp.{tied_itself}
use Rattle.st_ids.specs.Listing.{AreDistinct, Has}
use Rattle.st_ids.specs.declared.names.Leaf.{Leaf}
use Rattle.st_schema.specs.Schema.{SchemaView, same, is_among, is_key, form_of, declared_field, field_in, field_of, field_is_sound, form_is_sound, defs_rise, type_names, forms_are_sound, names_are_sound, is_type_name, leaf_types, is_distinct, is_sound}
use Rattle.st_schema.specs.Conforms.{leaf_type}
use Rattle.st_schema.specs.declared.names.FieldDef.{FieldDef}
use Rattle.st_schema.specs.declared.names.FieldRule.{FieldRule}
use Rattle.st_schema.specs.declared.names.Form.{Form}
use Rattle.st_schema.specs.declared.names.Form.TheVariants.{Array, Map, Object}
use Rattle.st_schema.specs.declared.names.KindName.{KindName}
use Rattle.st_schema.specs.declared.names.KindName.TheVariants.{Required, Optional, Sequence}
use Rattle.st_marks.proofs.Members.{has-all, first-has, first-distinct, map-has}
use Rattle.st_schema.specs.Kind.{is_optional, is_required, is_row, is_single_kind}
use Rattle.st_lemmas.proofs.Orders.{is_lt-Less}
use Rattle.st_edits.proofs.Fits.{all_pass}
use Rattle.st_schema.proofs.Forms.{text_same}
use Rattle.st_lemmas.proofs.Bools.{and-true, true-false}

-- what is looked up is an entry whose name passes
looked_up : {K X : Type 0} (test : K → Bool) (es : List (K × X)) (x : X) → lookup test es ≡ Some x → (e : K × X) × Has es e × (test e.0 ≡ true) × (e.1 ≡ x)
looked_up test [] x f = cc
looked_up {K} {X} test (d ∷ es) x f = go (test d.0) refl (λ g. looked_up test es x g) f
  where
    go : (b : Bool) → test d.0 ≡ b → (lookup test es ≡ Some x → (e : K × X) × Has es e × (test e.0 ≡ true) × (e.1 ≡ x)) → cond b (Some d.1) (lookup test es) ≡ Some x
        → (e : K × X) × Has (d ∷ es) e × (test e.0 ≡ true) × (e.1 ≡ x)
    go true t rest g = let q : d.1 ≡ x = cc in (d, inl refl, t, q)
    go false t rest g = let r = rest g in (r.0, inr r.1, r.2, r.3)

pub required_not_row : (k : KindName) → is_row k ≡ true → is_required k ≡ false
required_not_row Required e = cc
required_not_row Optional e = cc
required_not_row Sequence e = refl

pub required_not_optional : (k : KindName) → is_optional k ≡ true → is_required k ≡ false
required_not_optional Required e = cc
required_not_optional Optional e = refl
required_not_optional Sequence e = cc

pub row_not_single : (k : KindName) → is_row k ≡ true → is_single_kind k ≡ true → ⊥
row_not_single Required e f = cc
row_not_single Optional e f = cc
row_not_single Sequence e f = cc

above_all : (before : List ℕ) (defs : List FieldDef) → defs_rise before defs ≡ true → (d : FieldDef) → Has defs d → slice_cmp nat_cmp before d.key.0 ≡ Less
above_all before [] e d h = absurd h
above_all before (f ∷ fs) e d (inl q) = ap (λ (g : FieldDef). slice_cmp nat_cmp before g.key.0) (sym q) ∙ is_lt-Less _ (and-true _ _ e).0
above_all before (f ∷ fs) e d (inr h) = let b = and-true _ _ e in nat_list_cmp_total.trans before f.key.0 d.key.0 (is_lt-Less _ b.0) (above_all f.key.0 fs b.1 d h)

-- keys that rise are distinct
defs_distinct : (before : List ℕ) (defs : List FieldDef) → defs_rise before defs ≡ true → AreDistinct (λ (f : FieldDef). f.key.0) defs
defs_distinct before [] e = tt
defs_distinct before (f ∷ fs) e =
    let rest : defs_rise f.key.0 fs ≡ true = (and-true (is_lt (slice_cmp nat_cmp before f.key.0)) (defs_rise f.key.0 fs) e).1 in (
      has-all (λ (g : FieldDef). g.key.0 ≢ f.key.0) fs (λ g h same.
          let less : slice_cmp nat_cmp f.key.0 g.key.0 ≡ Less = above_all f.key.0 fs rest g h in
          let bad : Equal ≡ Less = sym (tied_itself nat_list_cmp_total f.key.0) ∙ ap (slice_cmp nat_cmp f.key.0) (sym same) ∙ less in
          absurd (cc bad)),
      defs_distinct f.key.0 fs rest,
    )

module _ (s : SchemaView) (sound : is_sound s ≡ true) where
  form_sound : (ty : List ℕ) (form : Form) → form_of s.types ty ≡ Some form → form_is_sound (type_names s.types) form ≡ true
  form_sound ty form e =
      let w = looked_up (same ty) s.types form e in
      let forms = (and-true (forms_are_sound s.types) _ (and-true (names_are_sound (type_names s.types)) _ sound).1).0 in
      ap (form_is_sound (type_names s.types)) (sym w.3) ∙ all_pass (form_is_sound (type_names s.types)) (map (λ d. d.1) s.types) w.0.1 forms (map-has (λ (d : List ℕ × Form). d.1) s.types w.0 w.1)

  -- a declared field is of a single kind
  pub declared_single : (ty key : List ℕ) (defs : List FieldDef) (d : FieldDef) → form_of s.types ty ≡ Some (Object defs) → declared_field defs key ≡ Some d → (is_key d.key.0 ≡ true) × (is_single_kind d.kind ≡ true)
  declared_single ty key defs d e f =
      let w = first-has (λ (f : FieldDef). same f.key.0 key) defs d f in
      let all = (and-true (nat_le (length defs) 64) _ (form_sound ty (Object defs) e)).1 in
      let own = and-true (is_key d.key.0) _ (all_pass (field_is_sound (type_names s.types)) defs d (and-true _ (defs_rise [] defs) all).0 w.0) in
      (own.0, (and-true (is_single_kind d.kind) _ own.1).0)

  -- a row is an array's, under the empty key
  pub row_of_array : (ty key : List ℕ) (rule : FieldRule) → field_of s ty key ≡ Some rule → is_row rule.kind ≡ true → (key ≡ []) × (form_of s.types ty ≡ Some (Array rule.types))
  row_of_array ty key rule e row = go (form_of s.types ty) refl e
    where
      found : (form : Form) → form_of s.types ty ≡ Some form → (k : List ℕ) → field_in form k ≡ Some rule → (k ≡ []) × (form_of s.types ty ≡ Some (Array rule.types))
      found (Array types) q [] f = let r : record { kind = Sequence; types = types } ≡ rule = cc in (refl, q ∙ ap (λ (r : FieldRule). Some (Array r.types)) r)
      found (Array types) q (b ∷ k) f = cc
      found (Map types) q k f = map_is (is_key k) f
        where
          map_is : (b : Bool) → cond b (Some (record { kind = Optional; types = types })) None ≡ Some rule → (k ≡ []) × (form_of s.types ty ≡ Some (Array rule.types))
          map_is true g = let r : record { kind = Optional; types = types } ≡ rule = cc in absurd (true-false row (ap (λ (r : FieldRule). is_row r.kind) (sym r)))
          map_is false g = cc
      found (Object defs) q k f = object_is (declared_field defs k) refl f
        where
          object_is : (o : Option FieldDef) → declared_field defs k ≡ o → option_map (λ (f : FieldDef). record { kind = f.kind; types = f.types }) o ≡ Some rule → (k ≡ []) × (form_of s.types ty ≡ Some (Array rule.types))
          object_is None h g = cc
          object_is (Some d) h g =
              let r : record { kind = d.kind; types = d.types } ≡ rule = cc in
              absurd (row_not_single d.kind (ap (λ (r : FieldRule). is_row r.kind) r ∙ row) (declared_single ty k defs d q h).1)

      go : (o : Option Form) → form_of s.types ty ≡ o → option_and_then (λ (form : Form). field_in form key) o ≡ Some rule → (key ≡ []) × (form_of s.types ty ≡ Some (Array rule.types))
      go None q f = cc
      go (Some form) q f = found form q key f

  -- the type of a leaf isn't defined
  pub leaf_undefined : (ty : List ℕ) (v : Leaf) → same ty (leaf_type v) ≡ true → form_of s.types ty ≡ None
  leaf_undefined ty v e = go (form_of s.types ty) refl
    where
      among : (v : Leaf) → is_among (leaf_type v) leaf_types ≡ true
      among Leaf.Null = refl
      among (Leaf.Bool b) = refl
      among (Leaf.Int n) = refl
      among (Leaf.Words w) = refl

      go : (o : Option Form) → form_of s.types ty ≡ o → form_of s.types ty ≡ None
      go None q = q
      go (Some form) q =
          let w = looked_up (same ty) s.types form q in
          let names = (and-true (nat_le (length (type_names s.types)) 256) _ (and-true (names_are_sound (type_names s.types)) _ sound).0).1 in
          let named = all_pass is_type_name (type_names s.types) w.0.0 (and-true (is_distinct (type_names s.types)) _ names).1 (map-has (λ (d : List ℕ × Form). d.0) s.types w.0 w.1) in
          let apart : not (is_among w.0.0 leaf_types) ≡ true = (and-true (is_key w.0.0) _ named).1 in
          let here : w.0.0 ≡ leaf_type v = sym (text_same ty w.0.0 w.2) ∙ text_same ty (leaf_type v) e in
          let in_leaves : is_among w.0.0 leaf_types ≡ true = ap (λ t. is_among t leaf_types) here ∙ among v in
          absurd (true-false apart (ap not in_leaves))

  -- keys of declared fields rise, so each is found by its key
  pub rising_defs : (ty : List ℕ) (defs : List FieldDef) (d : FieldDef) → form_of s.types ty ≡ Some (Object defs) → Has defs d → declared_field defs d.key.0 ≡ Some d
  rising_defs ty defs d e h =
      let all = (and-true (nat_le (length defs) 64) _ (form_sound ty (Object defs) e)).1 in
      let rise = (and-true (list_all (field_is_sound (type_names s.types)) defs) _ all).1 in
      first-distinct (λ (f : FieldDef). f.key.0) defs (λ (f : FieldDef). same f.key.0 d.key.0) d (defs_distinct [] defs rise) h ((bytes_decides d.key.0 d.key.0).1 refl) (λ f t. text_same f.key.0 d.key.0 t)
