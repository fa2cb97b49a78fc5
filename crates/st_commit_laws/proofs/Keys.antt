-- What a sound schema says of keys and types: a field has a key of at most 64 bytes, and a type that is defined is no leaf's.
use Rattle.std.proofs.Common.{◌≡◌, ◌≤◌, ℕ, Bool, true, false, cond, not, nat_le, ◌&&◌, List, [], ◌∷◌, map, length, Option, Some, None, IfSome, option_map, option_and_then, Ok, refl, sym, subst, arith, inl, inr}
use Rattle.std.specs.List.{list_all}
use Rattle.std.specs.Map.{lookup}
use Rattle.std.proofs.lemmas.Bool.Decides.{nat_tests}
use Rattle.st_lemmas.proofs.Bools.{and-true}
use Rattle.st_ids.specs.Listing.{Has}
use Rattle.st_ids.specs.declared.names.Key.{Key}
use Rattle.st_ids.specs.declared.names.Leaf.{Leaf}
use Rattle.st_ids.specs.declared.names.NodeId.{NodeId}
use Rattle.st_tree.specs.Node.{Fields}
use Rattle.st_tree.specs.declared.edit.EditFault.TheVariants.{Kind}
use Rattle.st_schema.specs.Conforms.{has_none, is_as_typed, leaf_type}
use Rattle.st_schema.specs.Schema.{SchemaView, declared_field, defs_rise, field_in, field_is_sound, field_of, form_is_sound, form_of, forms_are_sound, is_among, is_distinct, is_key, is_sound, is_type_name, leaf_types, names_are_sound, same, type_names}
use Rattle.st_schema.specs.declared.names.FieldDef.{FieldDef}
use Rattle.st_schema.specs.declared.names.FieldRule.{FieldRule}
use Rattle.st_schema.specs.declared.names.Form.{Form}
use Rattle.st_schema.specs.declared.names.Form.TheVariants.{Array, Map, Object}
use Rattle.st_schema.specs.declared.names.KindName.TheVariants.{Optional}
use Rattle.st_schema.proofs.Forms.{text_same}
use Rattle.st_marks.specs.Document.{Document}
use Rattle.st_marks.proofs.Members.{first-has}
use Rattle.st_edits.specs.Paths.{or_refuse}
use Rattle.st_edits.specs.Resolve.{of_kind, rule_at, rule_for, takes_kind}
use Rattle.st_edits.specs.declared.names.Takes.{Takes}
use Rattle.st_edits.proofs.Fits.{all_pass, looked_up, or_refuse-Ok, passed, ruled}
use Rattle.st_change_laws.specs.Within.{LeafFits, LeafIsShort}

-- ## Keys

key_short : (key : List ℕ) → is_key key ≡ true → length key ≤ 64
key_short key e = let most = (and-true (nat_le 1 (length key)) (nat_le (length key) 64) e).1 in grind (arith, nat_tests)

rule_key_short : (names : List (List ℕ)) (form : Form) (key : List ℕ) (rule : FieldRule) → form_is_sound names form ≡ true → field_in form key ≡ Some rule → length key ≤ 64
rule_key_short names (Array types) [] rule sound e = omega arith
rule_key_short names (Array types) (b ∷ key) rule sound e = absurd (cc)
rule_key_short names (Map types) key rule sound e = go (is_key key) refl e
  where
    go : (b : Bool) → is_key key ≡ b → cond b (Some (record { kind = Optional; types = types })) None ≡ Some rule → length key ≤ 64
    go true q f = key_short key q
    go false q f = absurd (cc)
rule_key_short names (Object fields) key rule sound e = go (declared_field fields key) refl e
  where
    go : (o : Option FieldDef) → declared_field fields key ≡ o → option_map (λ (f : FieldDef). record { kind = f.kind; types = f.types }) o ≡ Some rule → length key ≤ 64
    go None h g = absurd (cc)
    go (Some d) h g =
        let w = first-has (λ (f : FieldDef). same f.key.0 key) fields d h in
        let all = (and-true (nat_le (length fields) 64) (list_all (field_is_sound names) fields && defs_rise [] fields) sound).1 in
        let own = all_pass (field_is_sound names) fields d (and-true (list_all (field_is_sound names) fields) (defs_rise [] fields) all).0 w.0 in
        let short = key_short d.key.0 (and-true (is_key d.key.0) _ own).0 in
        subst (λ (k : List ℕ). length k ≤ 64) (text_same d.key.0 key w.1) short

module _ (s : SchemaView) (sound : is_sound s ≡ true) where
  pub sound_form : (ty : List ℕ) (form : Form) → form_of s.types ty ≡ Some form → form_is_sound (type_names s.types) form ≡ true
  sound_form ty form e =
      let forms = (and-true (forms_are_sound s.types) _ (and-true (names_are_sound (type_names s.types)) _ sound).1).0 in
      all_pass (form_is_sound (type_names s.types)) (map (λ d. d.1) s.types) form forms (looked_up (same ty) s.types form e)

  field_key_short : (ty key : List ℕ) (rule : FieldRule) → field_of s ty key ≡ Some rule → length key ≤ 64
  field_key_short ty key rule e = go (form_of s.types ty) refl e
    where
      go : (o : Option Form) → form_of s.types ty ≡ o → option_and_then (λ (form : Form). field_in form key) o ≡ Some rule → length key ≤ 64
      go None h f = absurd (cc)
      go (Some form) h f = rule_key_short (type_names s.types) form key rule (sound_form ty form h) f

  -- the key of a field of which the schema has a rule
  pub ruled_key_short : (takes : Takes) (D : Document) (n : NodeId) (key : Key) (rule : FieldRule) → rule_for takes D s n key ≡ Ok rule → length key.0 ≤ 64
  ruled_key_short takes D n key rule e =
      let r = passed (or_refuse (rule_at D s n key) Kind) (of_kind (takes_kind takes)) rule e in
      let w = ruled D s n key r.0 (or_refuse-Ok (rule_at D s n key) Kind r.0 r.1) in
      field_key_short w.1.0.ty key.0 r.0 w.1.1

  pub form_key_short : (ty key : List ℕ) (form : Form) (rule : FieldRule) → form_of s.types ty ≡ Some form → field_in form key ≡ Some rule → length key ≤ 64
  form_key_short ty key form rule e f = rule_key_short (type_names s.types) form key rule (sound_form ty form e) f

  -- ## Types

  lookup_key : {X : Type 0} (ty : List ℕ) (es : List (List ℕ × X)) (x : X) → lookup (same ty) es ≡ Some x → Has (map (λ e. e.0) es) ty
  lookup_key ty [] x e = absurd (cc)
  lookup_key {X} ty (d ∷ es) x e = go (same ty d.0) refl (λ f. lookup_key ty es x f) e
    where
      go : (b : Bool) → same ty d.0 ≡ b → (lookup (same ty) es ≡ Some x → Has (map (λ (e : List ℕ × X). e.0) es) ty) → cond b (Some d.1) (lookup (same ty) es) ≡ Some x → Has (map (λ (e : List ℕ × X). e.0) (d ∷ es)) ty
      go true q rest f = inl (sym (text_same ty d.0 q))
      go false q rest f = inr (rest f)

  defined_no_leaf : (ty : List ℕ) (form : Form) → form_of s.types ty ≡ Some form → is_among ty leaf_types ≡ false
  defined_no_leaf ty form e =
      let names = (and-true (names_are_sound (type_names s.types)) _ sound).0 in
      let each = (and-true (is_distinct (type_names s.types)) (list_all is_type_name (type_names s.types)) (and-true (nat_le (length (type_names s.types)) 256) _ names).1).1 in
      let name = all_pass is_type_name (type_names s.types) ty each (lookup_key ty s.types form e) in
      let out = (and-true (is_key ty) (not (is_among ty leaf_types)) name).1 in
      go (is_among ty leaf_types) out
    where
      go : (b : Bool) → not b ≡ true → b ≡ false
      go true q = absurd (cc)
      go false q = refl

  -- a node that the schema allows has a value that fits its type, if the value is short
  pub typed_leaf : (ty : List ℕ) (leaf : Option Leaf) (fs : Fields) → is_as_typed (form_of s.types ty) ty leaf fs ≡ true → IfSome leaf LeafIsShort → LeafFits ty leaf
  typed_leaf ty (Some v) fs e short = (text_same ty (leaf_type v) (and-true (same ty (leaf_type v)) (has_none fs) e).0, short)
  typed_leaf ty None fs e short = go (form_of s.types ty) refl e
    where
      go : (o : Option Form) → form_of s.types ty ≡ o → is_as_typed o ty None fs ≡ true → is_among ty leaf_types ≡ false
      go None q f = absurd (cc)
      go (Some form) q f = defined_no_leaf ty form q
