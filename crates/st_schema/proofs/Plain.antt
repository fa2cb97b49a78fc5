-- The form of a schema has no floating-point number, and nests little.
use Rattle.std.proofs.Common.{◌≡◌, ℕ, ◌≤◌, true, false, List, [], ◌∷◌, map, refl, arith, nat_le, length}
use Rattle.std.specs.List.{list_all}
use Rattle.serde_json.specs.Data.{string, depth, items_depth, members_depth}
use Rattle.serde_json.specs.Read.{max_depth}
use Rattle.serde_json.specs.Written.{has_float, items_have_float, members_have_float}
use Rattle.serde_json.specs.View.{items_of}
use Rattle.st_schema.specs.Schema.{SchemaView, is_distinct, type_names, names_are_sound, forms_are_sound, list_is_sound, form_is_sound, field_is_sound, defs_rise, is_sound}
use Rattle.st_schema.specs.inside.Schema.{form_rises}
use Rattle.st_schema.specs.Written.{fields_data, form_data, definition_data, schema_data}
use Rattle.st_schema.specs.declared.names.FieldDef.{FieldDef}
use Rattle.st_schema.specs.declared.names.Form.{Form}
use Rattle.st_schema.specs.declared.names.Form.TheVariants.{Array, Map, Object}
use Rattle.st_lemmas.proofs.Bools.{and-true}

-- ---- no floating-point number

names_plain : (ts : List (List ℕ)) → items_have_float (items_of (map string ts)) ≡ false
names_plain [] = refl
names_plain (t ∷ ts) = names_plain ts

fields_plain : (fs : List FieldDef) → members_have_float (fields_data fs) ≡ false
fields_plain [] = refl
fields_plain (f ∷ fs) = rw (names_plain f.types) (fields_plain fs)

form_plain : (name : List ℕ) (form : Form) → has_float (form_data name form) ≡ false
form_plain name (Array types) = rw (names_plain types) refl
form_plain name (Map types) = rw (names_plain types) refl
form_plain name (Object fields) = rw (fields_plain fields) refl

definitions_plain : (ds : List (List ℕ × Form)) → items_have_float (items_of (map definition_data ds)) ≡ false
definitions_plain [] = refl
definitions_plain (d ∷ ds) = rw (form_plain d.0 d.1) (definitions_plain ds)

pub schema_plain : (s : SchemaView) → has_float (schema_data s) ≡ false
schema_plain s = rw (names_plain s.root, definitions_plain s.types) refl

-- ---- depth

names_shallow : (ts : List (List ℕ)) → items_depth (items_of (map string ts)) ≤ 0
names_shallow [] = omega arith
names_shallow (t ∷ ts) = omega (arith, names_shallow ts)

fields_shallow : (fs : List FieldDef) → members_depth (fields_data fs) ≤ 2
fields_shallow [] = omega arith
fields_shallow (f ∷ fs) = omega (arith, names_shallow f.types, fields_shallow fs)

form_shallow : (name : List ℕ) (form : Form) → depth (form_data name form) ≤ 4
form_shallow name (Array types) = omega (arith, names_shallow types)
form_shallow name (Map types) = omega (arith, names_shallow types)
form_shallow name (Object fields) = omega (arith, fields_shallow fields)

definitions_shallow : (ds : List (List ℕ × Form)) → items_depth (items_of (map definition_data ds)) ≤ 4
definitions_shallow [] = omega arith
definitions_shallow (d ∷ ds) = omega (arith, form_shallow d.0 d.1, definitions_shallow ds)

pub schema_low : (s : SchemaView) → depth (schema_data s) ≤ 6
schema_low s = omega (arith, names_shallow s.root, definitions_shallow s.types)

pub schema_shallow : (s : SchemaView) → depth (schema_data s) ≤ max_depth
schema_shallow s = omega (arith, schema_low s)

-- ---- the fields of a sound schema are in order

form_in_order : (names : List (List ℕ)) (form : Form) → form_is_sound names form ≡ true → form_rises form ≡ true
form_in_order names (Array types) h = refl
form_in_order names (Map types) h = refl
form_in_order names (Object fields) h = (and-true (list_all (field_is_sound names) fields) (defs_rise [] fields) (and-true _ _ h).1).1

forms_in_order : (names : List (List ℕ)) (ds : List (List ℕ × Form)) → list_all (form_is_sound names) (map (λ d. d.1) ds) ≡ true → list_all (λ (d : List ℕ × Form). form_rises d.1) ds ≡ true
forms_in_order names [] h = refl
forms_in_order names (d ∷ ds) h =
    let parts = and-true (form_is_sound names d.1) (list_all (form_is_sound names) (map (λ d. d.1) ds)) h in
    rw (form_in_order names d.1 parts.0) (forms_in_order names ds parts.1)

pub sound_rises : (s : SchemaView) → is_sound s ≡ true → list_all (λ (d : List ℕ × Form). form_rises d.1) s.types ≡ true
sound_rises s h = forms_in_order (type_names s.types) s.types (and-true (forms_are_sound s.types) (list_is_sound (type_names s.types) s.root) (and-true (names_are_sound (type_names s.types)) _ h).1).0

pub sound_distinct : (s : SchemaView) → is_sound s ≡ true → is_distinct (type_names s.types) ≡ true
sound_distinct s h = (and-true (is_distinct (type_names s.types)) _ (and-true (nat_le (length (type_names s.types)) 256) _ (and-true (names_are_sound (type_names s.types)) _ h).0).1).0
