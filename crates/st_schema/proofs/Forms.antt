-- What is read of a value is what the value is the form of, and the form of a sound schema is read as that schema.
use Rattle.std.proofs.Common.{◌≡◌, ◌≢◌, ◌∙◌, ℕ, Bool, true, false, ◌&&◌, List, [], ◌∷◌, map, Option, None, Some, option_map, option_and_then, IsTrue, ◌⊎◌, inl, inr, refl, sym, ap}
use Rattle.std.specs.Prelude.{if◌then◌else◌, codes, Result, Ok, Err}
use Rattle.st_ids.specs.Or.{IfRefused}
use Rattle.st_ids.specs.declared.fault.Or.{Or}
use Rattle.st_ids.specs.declared.fault.Or.TheVariants.{Fault, NoMemory}
use Rattle.std.specs.List.{list_all}
use Rattle.std.specs.Cmp.Lexicographic.{same_text}
use Rattle.serde_json.specs.Data.{Data, string, array, object, Items, no_items, item, Members, no_members, member}
use Rattle.serde_json.specs.Find.{as_str, as_array, as_object}
use Rattle.serde_json.specs.View.{items_of}
use Rattle.st_schema.specs.Schema.{SchemaView, same, is_key, list_is_sound, field_is_sound, defs_rise, form_is_sound, forms_are_sound, names_are_sound, type_names, is_sound}
use Rattle.st_schema.specs.Kind.{is_single_kind}
use Rattle.st_schema.specs.Reading.{pair_in, pair_of, texts_in, texts_of, kind_named, kind_of, two_in, two_items, field_of_data, fields_of_members, fields_of_data, array_of, map_of, object_of, first_of, definition_of, definitions_in, definitions_of, schema_of}
use Rattle.st_schema.specs.Written.{names_data, kind_text, field_data, fields_data, form_data, definition_data, schema_data}
use Rattle.st_schema.specs.declared.names.KindName.{KindName}
use Rattle.st_schema.specs.declared.names.KindName.TheVariants.{Required, Optional, Sequence}
use Rattle.st_schema.specs.declared.names.FieldDef.{FieldDef}
use Rattle.st_schema.specs.declared.names.Form.{Form}
use Rattle.st_schema.specs.declared.names.Form.TheVariants.{Array, Map, Object}
use Rattle.st_json.proofs.Shared.{is_object, is_array, is_string}
use Rattle.st_lemmas.proofs.Options.{one_some, option_map-Some, option_and_then-Some}
use Rattle.st_lemmas.proofs.Bools.{and-true}

-- ---- tests and options

if_some : {A : Type 0} (c : Bool) (a b : A) → (if c then Some a else None) ≡ Some b → (c ≡ true) × (a ≡ b)
if_some true a b h = (refl, cc)
if_some false a b h = absurd (cc)

pub text_same : (xs ys : List ℕ) → same xs ys ≡ true → xs ≡ ys
text_same xs ys h = same_text xs ys (sym h)

-- ---- a value that reads as something is its form

texts_in_back : (ds : Items) (ts : List (List ℕ)) → texts_in ds ≡ Some ts → ds ≡ items_of (map string ts)
texts_in_back no_items ts h = let e : [] ≡ ts = cc in ap (λ us. items_of (map string us)) e
texts_in_back (item d ds) ts h =
    let t = option_and_then-Some (λ t. option_map (λ ts. t ∷ ts) (texts_in ds)) (as_str d) ts h in
    let us = option_map-Some (λ us. t.0 ∷ us) (texts_in ds) ts t.2 in
    (λ i. item (is_string d t.0 t.1 i) (texts_in_back ds us.0 us.1 i)) ∙ ap (λ vs. items_of (map string vs)) us.2

texts_back : (d : Data) (ts : List (List ℕ)) → texts_of d ≡ Some ts → d ≡ names_data ts
texts_back d ts h = let ds = option_and_then-Some texts_in (as_array d) ts h in is_array d ds.0 ds.1 ∙ ap array (texts_in_back ds.0 ts ds.2)

pair_in_back : (a b : List ℕ) (ms : Members) (x y : Data) → pair_in a b ms ≡ Some (x, y) → ms ≡ member a x (member b y no_members)
pair_in_back a b no_members x y h = absurd (cc)
pair_in_back a b (member k u no_members) x y h = absurd (cc)
pair_in_back a b (member k u (member l v no_members)) x y h =
    let p = if_some (same k a && same l b) (u, v) (x, y) h in
    let q = and-true (same k a) (same l b) p.0 in
    λ i. member (text_same k a q.0 i) ((p.1 i).0) (member (text_same l b q.1 i) ((p.1 i).1) no_members)
pair_in_back a b (member k u (member l v (member m w ms))) x y h = absurd (cc)

pair_back : (a b : List ℕ) (d x y : Data) → pair_of a b d ≡ Some (x, y) → d ≡ object (member a x (member b y no_members))
pair_back a b d x y h = let ms = option_and_then-Some (pair_in a b) (as_object d) (x, y) h in is_object d ms.0 ms.1 ∙ ap object (pair_in_back a b ms.0 x y ms.2)

two_in_back : (ds : Items) (x y : Data) → two_in ds ≡ Some (x, y) → ds ≡ item x (item y no_items)
two_in_back no_items x y h = absurd (cc)
two_in_back (item u no_items) x y h = absurd (cc)
two_in_back (item u (item v no_items)) x y h = let e = one_some {A = Data × Data} (u, v) (x, y) h in λ i. item ((e i).0) (item ((e i).1) no_items)
two_in_back (item u (item v (item w ds))) x y h = absurd (cc)

two_back : (d x y : Data) → two_items d ≡ Some (x, y) → d ≡ array (item x (item y no_items))
two_back d x y h = let ds = option_and_then-Some two_in (as_array d) (x, y) h in is_array d ds.0 ds.1 ∙ ap array (two_in_back ds.0 x y ds.2)

kind_cases : (p q : Bool) (k : KindName) → (if p then Some Required else (if q then Some Optional else None)) ≡ Some k → ((p ≡ true) × (Required ≡ k)) ⊎ ((q ≡ true) × (Optional ≡ k))
kind_cases true q k h = inl (refl, cc)
kind_cases false true k h = inr (refl, cc)
kind_cases false false k h = absurd (cc)

kind_named_back : (t : List ℕ) (k : KindName) → kind_named t ≡ Some k → t ≡ kind_text k
kind_named_back t k h = elim (kind_cases (same t (codes "req")) (same t (codes "opt")) k h)
    [ inl e ↦ text_same t (codes "req") e.0 ∙ ap kind_text e.1 | inr e ↦ text_same t (codes "opt") e.0 ∙ ap kind_text e.1 ]

kind_back : (d : Data) (k : KindName) → kind_of d ≡ Some k → d ≡ string (kind_text k)
kind_back d k h = let t = option_and_then-Some kind_named (as_str d) k h in is_string d t.0 t.1 ∙ ap string (kind_named_back t.0 k t.2)

field_back : (key : List ℕ) (d : Data) (f : FieldDef) → field_of_data key d ≡ Some f → (key ≡ f.key.0) × (d ≡ field_data f)
field_back key d f h =
    let made : KindName → List (List ℕ) → FieldDef = λ kind types. record { key = record { 0 = key }; kind = kind; types = types } in
    let p = option_and_then-Some (λ (p : Data × Data). option_and_then (λ kind. option_map (made kind) (texts_of p.1)) (kind_of p.0)) (two_items d) f h in
    let k = option_and_then-Some (λ kind. option_map (made kind) (texts_of p.0.1)) (kind_of p.0.0) f p.2 in
    let ts = option_map-Some (made k.0) (texts_of p.0.1) f k.2 in (
      ap (λ (g : FieldDef). g.key.0) ts.2,
      two_back d p.0.0 p.0.1 p.1 ∙ (λ i. array (item (kind_back p.0.0 k.0 k.1 i) (item (texts_back p.0.1 ts.0 ts.1 i) no_items))) ∙ ap field_data ts.2,
    )

fields_in_back : (ms : Members) (fs : List FieldDef) → fields_of_members ms ≡ Some fs → ms ≡ fields_data fs
fields_in_back no_members fs h = let e : [] ≡ fs = cc in ap fields_data e
fields_in_back (member key d ms) fs h =
    let f = option_and_then-Some (λ f. option_map (λ fs. f ∷ fs) (fields_of_members ms)) (field_of_data key d) fs h in
    let us = option_map-Some (λ us. f.0 ∷ us) (fields_of_members ms) fs f.2 in
    let e = field_back key d f.0 f.1 in
    (λ i. member (e.0 i) (e.1 i) (fields_in_back ms us.0 us.1 i)) ∙ ap fields_data us.2

fields_back : (d : Data) (fs : List FieldDef) → fields_of_data d ≡ Some fs → d ≡ object (fields_data fs)
fields_back d fs h = let ms = option_and_then-Some fields_of_members (as_object d) fs h in is_object d ms.0 ms.1 ∙ ap object (fields_in_back ms.0 fs ms.2)

array_form : (d : Data) (p : Data × Data) (x : List ℕ × Form) → pair_of (codes "array") (codes "name") d ≡ Some p → array_of p ≡ Some x → d ≡ definition_data x
array_form d p x h k =
    let ts = option_and_then-Some (λ (types : List (List ℕ)). option_map (λ (name : List ℕ). (name, Array types)) (as_str p.1)) (texts_of p.0) x k in
    let made : List ℕ → List ℕ × Form = λ name. (name, Array ts.0) in
    let t = option_map-Some made (as_str p.1) x ts.2 in
    pair_back (codes "array") (codes "name") d p.0 p.1 h
    ∙ (λ i. object (member (codes "array") (texts_back p.0 ts.0 ts.1 i) (member (codes "name") (is_string p.1 t.0 t.1 i) no_members)))
    ∙ ap definition_data t.2

map_form : (d : Data) (p : Data × Data) (x : List ℕ × Form) → pair_of (codes "map") (codes "name") d ≡ Some p → map_of p ≡ Some x → d ≡ definition_data x
map_form d p x h k =
    let ts = option_and_then-Some (λ (types : List (List ℕ)). option_map (λ (name : List ℕ). (name, Map types)) (as_str p.1)) (texts_of p.0) x k in
    let made : List ℕ → List ℕ × Form = λ name. (name, Map ts.0) in
    let t = option_map-Some made (as_str p.1) x ts.2 in
    pair_back (codes "map") (codes "name") d p.0 p.1 h
    ∙ (λ i. object (member (codes "map") (texts_back p.0 ts.0 ts.1 i) (member (codes "name") (is_string p.1 t.0 t.1 i) no_members)))
    ∙ ap definition_data t.2

object_form : (d : Data) (p : Data × Data) (x : List ℕ × Form) → pair_of (codes "name") (codes "object") d ≡ Some p → object_of p ≡ Some x → d ≡ definition_data x
object_form d p x h k =
    let t = option_and_then-Some (λ (name : List ℕ). option_map (λ (fields : List FieldDef). (name, Object fields)) (fields_of_data p.1)) (as_str p.0) x k in
    let made : List FieldDef → List ℕ × Form = λ fields. (t.0, Object fields) in
    let fs = option_map-Some made (fields_of_data p.1) x t.2 in
    pair_back (codes "name") (codes "object") d p.0 p.1 h
    ∙ (λ i. object (member (codes "name") (is_string p.0 t.0 t.1 i) (member (codes "object") (fields_back p.1 fs.0 fs.1 i) no_members)))
    ∙ ap definition_data fs.2

first_cases : {A B : Type 0} (o : Option A) (f : A → Option B) (rest : Option B) (b : B) → first_of o f rest ≡ Some b → ((a : A) × (o ≡ Some a) × (f a ≡ Some b)) ⊎ (rest ≡ Some b)
first_cases None f rest b h = inr h
first_cases (Some a) f rest b h = inl (a, refl, h)

definition_back : (d : Data) (x : List ℕ × Form) → definition_of d ≡ Some x → d ≡ definition_data x
definition_back d x h =
    let of_object = first_of (pair_of (codes "name") (codes "object") d) object_of None in
    let of_map = first_of (pair_of (codes "map") (codes "name") d) map_of of_object in
    elim (first_cases (pair_of (codes "array") (codes "name") d) array_of of_map x h) [
      | inl a ↦ array_form d a.0 x a.1 a.2
      | inr m ↦ elim (first_cases (pair_of (codes "map") (codes "name") d) map_of of_object x m) [
        | inl a ↦ map_form d a.0 x a.1 a.2
        | inr o ↦ elim (first_cases (pair_of (codes "name") (codes "object") d) object_of None x o) [
          | inl a ↦ object_form d a.0 x a.1 a.2
          | inr n ↦ absurd (cc)
        ]
      ]
    ]

definitions_in_back : (ds : Items) (xs : List (List ℕ × Form)) → definitions_in ds ≡ Some xs → ds ≡ items_of (map definition_data xs)
definitions_in_back no_items xs h = let e : [] ≡ xs = cc in ap (λ us. items_of (map definition_data us)) e
definitions_in_back (item d ds) xs h =
    let x = option_and_then-Some (λ (x : List ℕ × Form). option_map (λ xs. x ∷ xs) (definitions_in ds)) (definition_of d) xs h in
    let us = option_map-Some (λ us. x.0 ∷ us) (definitions_in ds) xs x.2 in
    (λ i. item (definition_back d x.0 x.1 i) (definitions_in_back ds us.0 us.1 i)) ∙ ap (λ vs. items_of (map definition_data vs)) us.2

definitions_back : (d : Data) (xs : List (List ℕ × Form)) → definitions_of d ≡ Some xs → d ≡ array (items_of (map definition_data xs))
definitions_back d xs h = let ds = option_and_then-Some definitions_in (as_array d) xs h in is_array d ds.0 ds.1 ∙ ap array (definitions_in_back ds.0 xs ds.2)

-- a value that reads as a schema is its form
pub schema_back : (d : Data) (s : SchemaView) → schema_of d ≡ Some s → d ≡ schema_data s
schema_back d s h =
    let made : List (List ℕ) → List (List ℕ × Form) → SchemaView = λ root types. record { root = root; types = types } in
    let p = option_and_then-Some (λ (p : Data × Data). option_and_then (λ root. option_map (made root) (definitions_of p.1)) (texts_of p.0)) (pair_of (codes "root") (codes "types") d) s h in
    let root = option_and_then-Some (λ root. option_map (made root) (definitions_of p.0.1)) (texts_of p.0.0) s p.2 in
    let types = option_map-Some (made root.0) (definitions_of p.0.1) s root.2 in
    pair_back (codes "root") (codes "types") d p.0.0 p.0.1 p.1
    ∙ (λ i. object (member (codes "root") (texts_back p.0.0 root.0 root.1 i) (member (codes "types") (definitions_back p.0.1 types.0 types.1 i) no_members)))
    ∙ ap schema_data types.2

-- ---- the form of a sound schema reads as that schema

texts_read : (ts : List (List ℕ)) → texts_in (items_of (map string ts)) ≡ Some ts
texts_read [] = refl
texts_read (t ∷ ts) = ap (λ o. option_map (λ us. t ∷ us) o) (texts_read ts)

kind_read : (k : KindName) → is_single_kind k ≡ true → kind_named (kind_text k) ≡ Some k
kind_read Required h = refl
kind_read Optional h = refl
kind_read Sequence h = absurd (cc)

field_read : (names : List (List ℕ)) (f : FieldDef) → field_is_sound names f ≡ true → field_of_data f.key.0 (field_data f) ≡ Some f
field_read names f h =
    let single = and-true (is_single_kind f.kind) (list_is_sound names f.types) (and-true (is_key f.key.0) _ h).1 in
    let made : KindName → List (List ℕ) → FieldDef = λ kind types. record { key = f.key; kind = kind; types = types } in
    (λ i. option_and_then (λ kind. option_map (made kind) (texts_in (items_of (map string f.types)))) (kind_read f.kind single.0 i))
    ∙ ap (option_map (made f.kind)) (texts_read f.types)

fields_read : (names : List (List ℕ)) (fs : List FieldDef) → list_all (field_is_sound names) fs ≡ true → fields_of_members (fields_data fs) ≡ Some fs
fields_read names [] h = refl
fields_read names (f ∷ fs) h =
    let parts = and-true (field_is_sound names f) (list_all (field_is_sound names) fs) h in
    ap (λ o. option_and_then (λ f. option_map (λ fs. f ∷ fs) (fields_of_members (fields_data fs))) o) (field_read names f parts.0)
    ∙ ap (λ o. option_map (λ gs. f ∷ gs) o) (fields_read names fs parts.1)

definition_read : (names name : List (List ℕ)) (t : List ℕ) (form : Form) → form_is_sound names form ≡ true → definition_of (form_data t form) ≡ Some (t, form)
definition_read names name t (Array types) h = ap (λ (o : Option (List (List ℕ))). option_and_then (λ types. Some (t, Array types)) o) (texts_read types)
definition_read names name t (Map types) h = ap (λ (o : Option (List (List ℕ))). option_and_then (λ types. Some (t, Map types)) o) (texts_read types)
definition_read names name t (Object fields) h =
    let fields_sound = and-true (list_all (field_is_sound names) fields) (defs_rise [] fields) (and-true _ _ h).1 in
    ap (λ (o : Option (List FieldDef)). option_map (λ fs. (t, Object fs)) o) (fields_read names fields fields_sound.0)

definitions_read : (names : List (List ℕ)) (xs : List (List ℕ × Form)) → list_all (form_is_sound names) (map (λ d. d.1) xs) ≡ true → definitions_in (items_of (map definition_data xs)) ≡ Some xs
definitions_read names [] h = refl
definitions_read names (x ∷ xs) h =
    let parts = and-true (form_is_sound names x.1) (list_all (form_is_sound names) (map (λ d. d.1) xs)) h in
    ap (λ (o : Option (List ℕ × Form)). option_and_then (λ x. option_map (λ xs. x ∷ xs) (definitions_in (items_of (map definition_data xs)))) o) (definition_read names [] x.0 x.1 parts.0)
    ∙ ap (λ o. option_map (λ ys. x ∷ ys) o) (definitions_read names xs parts.1)

pub schema_read : (s : SchemaView) → is_sound s ≡ true → schema_of (schema_data s) ≡ Some s
schema_read s h =
    let parts = and-true (forms_are_sound s.types) (list_is_sound (type_names s.types) s.root) (and-true (names_are_sound (type_names s.types)) _ h).1 in
    let made : List (List ℕ) → List (List ℕ × Form) → SchemaView = λ root types. record { root = root; types = types } in
    ap (λ o. option_and_then (λ root. option_map (made root) (definitions_in (items_of (map definition_data s.types)))) o) (texts_read s.root)
    ∙ ap (option_map (made s.root)) (definitions_read (type_names s.types) s.types parts.0)

-- ---- so the reader is exact

pub read_none : (d : Data) → schema_of d ≡ None → (s : SchemaView) → IsTrue (is_sound s) → d ≢ schema_data s
read_none d h s sound e = let some = sym (ap schema_of e ∙ schema_read s sound) ∙ h in absurd (cc)

pub read_same : (d : Data) (r : SchemaView) → schema_of d ≡ Some r → (s : SchemaView) → IsTrue (is_sound s) → d ≡ schema_data s → r ≡ s
read_same d r h s sound e = let some = sym h ∙ ap schema_of e ∙ schema_read s sound in cc

pub read_unsound : (d : Data) (r : SchemaView) → schema_of d ≡ Some r → is_sound r ≡ false → (s : SchemaView) → IsTrue (is_sound s) → d ≢ schema_data s
read_unsound d r h not_sound s sound e = let no = sym not_sound ∙ ap is_sound (read_same d r h s sound e) ∙ sound in absurd (cc)

-- the same of whatever a call answered that refuses unsound schemas
pub refused_unsound : {E : Type 0} (result : Result SchemaView (Or E)) (d : Data) (r : SchemaView) → schema_of d ≡ Some r → IfRefused result (λ _. is_sound r ≡ false)
    → IfRefused result (λ _. (s : SchemaView) → IsTrue (is_sound s) → d ≢ schema_data s)
refused_unsound (Ok s) d r h refused = tt
refused_unsound (Err (Fault e)) d r h refused = read_unsound d r h refused
refused_unsound (Err NoMemory) d r h refused = tt
