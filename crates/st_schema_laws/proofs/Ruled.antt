-- What it says of a node's form that the schema has a field of a kind there.
use Rattle.std.proofs.Common.{◌≡◌, ◌≢◌, ◌==◌, suc, arith, Bool, true, false, cond, ◌&&◌, nat_le, List, [], ◌∷◌, map, length, Option, Some, None, option_map, option_and_then, Ok, Err, ℕ, refl, sym, ap, ◌∙◌}
use Rattle.std.specs.List.{list_all}
use Rattle.std.proofs.lemmas.Bool.Decides.{nat_tests}
use Rattle.st_ids.specs.declared.names.Key.{Key}
use Rattle.st_ids.specs.declared.names.NodeId.{NodeId}
use Rattle.st_tree.specs.declared.edit.EditFault.TheVariants.{Kind}
use Rattle.st_schema.specs.Schema.{SchemaView, same, is_key, declared_field, field_in, field_is_sound, field_of, form_of, form_is_sound, forms_are_sound, names_are_sound, type_names, is_sound, defs_rise}
use Rattle.st_schema.specs.declared.names.FieldDef.{FieldDef}
use Rattle.st_schema.specs.declared.names.FieldRule.{FieldRule}
use Rattle.st_schema.specs.declared.names.Form.{Form}
use Rattle.st_schema.specs.declared.names.Form.TheVariants.{Array, Map, Object}
use Rattle.st_schema.specs.declared.names.KindName.{KindName}
use Rattle.st_schema.specs.declared.names.KindName.TheVariants.{Required, Optional, Sequence}
use Rattle.st_marks.specs.Document.{Document, NodeType}
use Rattle.st_marks.proofs.Members.{first-has}
use Rattle.st_edits.specs.Paths.{or_refuse}
use Rattle.st_edits.specs.Resolve.{rule_at, rule_for, of_kind, takes_kind}
use Rattle.st_schema.specs.Kind.{is_row, is_single_kind}
use Rattle.st_edits.specs.declared.names.Takes.{Takes}
use Rattle.st_edits.specs.declared.names.Takes.TheVariants as field
use Rattle.st_edits.proofs.Fits.{passed, or_refuse-Ok, key_some, kind_taken, looked_up, all_pass}
use Rattle.st_edits.specs.ArrayTypes.{is_array_form}
use Rattle.st_schema_laws.specs.Edited.{TellsRows}
use Rattle.st_lemmas.proofs.Bools.{and-true}

-- ## Which form has a field of a kind

form_row : (names : List (List ℕ)) (form : Form) (key : List ℕ) (rule : FieldRule) → form_is_sound names form ≡ true → field_in form key ≡ Some rule → is_array_form (Some form) ≡ is_row rule.kind
form_row names (Array types) [] rule sound e = let q : record { kind = Sequence; types = types } ≡ rule = cc in ap (λ (r : FieldRule). is_row r.kind) q
form_row names (Array types) (b ∷ key) rule sound e = cc
form_row names (Map types) key rule sound e = go (is_key key) e
  where
    go : (b : Bool) → cond b (Some (record { kind = Optional; types = types })) None ≡ Some rule → false ≡ is_row rule.kind
    go true f = let q : record { kind = Optional; types = types } ≡ rule = cc in ap (λ (r : FieldRule). is_row r.kind) q
    go false f = cc
form_row names (Object fields) key rule sound e = go (declared_field fields key) refl e
  where
    single : (k : KindName) → is_single_kind k ≡ true → false ≡ is_row k
    single Required h = refl
    single Optional h = refl
    single Sequence h = cc

    go : (o : Option FieldDef) → declared_field fields key ≡ o → option_map (λ (f : FieldDef). record { kind = f.kind; types = f.types }) o ≡ Some rule → false ≡ is_row rule.kind
    go None h g = cc
    go (Some d) h g =
        let w = first-has (λ (f : FieldDef). same f.key.0 key) fields d h in
        let all = (and-true (nat_le (length fields) 64) (list_all (field_is_sound names) fields && defs_rise [] fields) sound).1 in
        let own = all_pass (field_is_sound names) fields d (and-true (list_all (field_is_sound names) fields) (defs_rise [] fields) all).0 w.0 in
        let kind = (and-true (is_single_kind d.kind) _ (and-true (is_key d.key.0) _ own).1).0 in
        let q : record { kind = d.kind; types = d.types } ≡ rule = cc in
        single d.kind kind ∙ ap (λ (r : FieldRule). is_row r.kind) q

type_row : (s : SchemaView) (ty key : List ℕ) (rule : FieldRule) → is_sound s ≡ true → field_of s ty key ≡ Some rule → is_array_form (form_of s.types ty) ≡ is_row rule.kind
type_row s ty key rule sound e = go (form_of s.types ty) refl e
  where
    forms : forms_are_sound s.types ≡ true
    forms = (and-true (forms_are_sound s.types) _ (and-true (names_are_sound (type_names s.types)) _ sound).1).0

    go : (o : Option Form) → form_of s.types ty ≡ o → option_and_then (λ (form : Form). field_in form key) o ≡ Some rule → is_array_form o ≡ is_row rule.kind
    go None h f = cc
    go (Some form) h f = form_row (type_names s.types) form key rule (all_pass (form_is_sound (type_names s.types)) (map (λ d. d.1) s.types) form forms (looked_up (same ty) s.types form h)) f

-- ## A node with a field

-- a node has a field of a kind that an edit takes
pub ruled_kind : (takes : Takes) (D : Document) (s : SchemaView) (n : NodeId) (key : Key) (rule : FieldRule) → rule_for takes D s n key ≡ Ok rule
    → (t : NodeType) × (D.nodes n ≡ Some t) × ((is_array : List ℕ → Bool) → is_sound s ≡ true → TellsRows is_array s → is_array t.ty ≡ is_row rule.kind) × (takes_kind takes rule.kind ≡ true)
ruled_kind takes D s n key rule e =
    let r = passed (or_refuse (rule_at D s n key) Kind) (of_kind (takes_kind takes)) rule e in
    go (D.nodes n) refl r.0 (or_refuse-Ok (rule_at D s n key) Kind r.0 r.1) r.2
  where
    kind_same : (got : FieldRule) → of_kind (takes_kind takes) got ≡ Ok rule → got ≡ rule
    kind_same got h = same (takes_kind takes got.kind) h
      where
        same : (b : Bool) → cond b (Ok got) (Err Kind) ≡ Ok rule → got ≡ rule
        same true f = cc
        same false f = cc

    go : (o : Option NodeType) → D.nodes n ≡ o → (got : FieldRule) → option_and_then (λ (t : NodeType). field_of s t.ty key.0) o ≡ Some got → of_kind (takes_kind takes) got ≡ Ok rule
        → (t : NodeType) × (D.nodes n ≡ Some t) × ((is_array : List ℕ → Bool) → is_sound s ≡ true → TellsRows is_array s → is_array t.ty ≡ is_row rule.kind) × (takes_kind takes rule.kind ≡ true)
    go None h got f g = cc
    go (Some t) h got f g =
        let same = kind_same got g in
        (t, h, (λ is_array sound tells. tells t.ty ∙ type_row s t.ty key.0 got sound f ∙ ap (λ (r : FieldRule). is_row r.kind) same), ap (λ (r : FieldRule). takes_kind takes r.kind) (sym same) ∙ kind_taken (takes_kind takes) got rule g)

-- a node with a row
pub row_ruled : (D : Document) (s : SchemaView) (n : NodeId) (key : Key) (rule : FieldRule) → rule_for field.Row D s n key ≡ Ok rule
    → (t : NodeType) × (D.nodes n ≡ Some t) × ((is_array : List ℕ → Bool) → is_sound s ≡ true → TellsRows is_array s → is_array t.ty ≡ true)
row_ruled D s n key rule e = let w = ruled_kind field.Row D s n key rule e in (w.0, w.1, λ is_array sound tells. w.2 is_array sound tells ∙ w.3)

-- a row has the empty key, and no other field has
type_key : (s : SchemaView) (ty key : List ℕ) (rule : FieldRule) → is_sound s ≡ true → field_of s ty key ≡ Some rule → (length key == 0) ≡ is_row rule.kind
type_key s ty key rule sound e = by_kind rule.kind refl
  where
    some_key : (k : List ℕ) → k ≢ [] → (length k == 0) ≡ false
    some_key [] out = absurd (out refl)
    some_key (b ∷ k) out = go (suc (length k) == 0) refl
      where
        go : (t : Bool) → (suc (length k) == 0) ≡ t → (suc (length k) == 0) ≡ false
        go false q = q
        go true q = let bad : suc (length k) ≡ 0 = grind (arith, nat_tests) in absurd (omega (arith, bad))

    in_array : (form : Form) → is_array_form (Some form) ≡ true → field_in form key ≡ Some rule → (length key == 0) ≡ true
    in_array (Array types) rowed f = of_key key f
      where
        of_key : (k : List ℕ) → field_in (Array types) k ≡ Some rule → (length k == 0) ≡ true
        of_key [] g = refl
        of_key (b ∷ k) g = cc
    in_array (Map types) rowed f = cc
    in_array (Object fields) rowed f = cc

    row : (o : Option Form) → is_array_form o ≡ true → option_and_then (λ (form : Form). field_in form key) o ≡ Some rule → (length key == 0) ≡ true
    row None rowed f = cc
    row (Some form) rowed f = in_array form rowed f

    by_kind : (k : KindName) → rule.kind ≡ k → (length key == 0) ≡ is_row rule.kind
    by_kind Sequence q = row (form_of s.types ty) (type_row s ty key rule sound e ∙ ap is_row q) e ∙ sym (ap is_row q)
    by_kind Required q = some_key key (key_some s ty key rule sound e (ap is_single_kind q)) ∙ sym (ap is_row q)
    by_kind Optional q = some_key key (key_some s ty key rule sound e (ap is_single_kind q)) ∙ sym (ap is_row q)

pub ruled_key : (takes : Takes) (D : Document) (s : SchemaView) (n : NodeId) (key : Key) (rule : FieldRule) → is_sound s ≡ true → rule_for takes D s n key ≡ Ok rule → (length key.0 == 0) ≡ is_row rule.kind
ruled_key takes D s n key rule sound e =
    let r = passed (or_refuse (rule_at D s n key) Kind) (of_kind (takes_kind takes)) rule e in
    go (D.nodes n) (or_refuse-Ok (rule_at D s n key) Kind r.0 r.1) ∙ ap (λ (r : FieldRule). is_row r.kind) (same (takes_kind takes r.0.kind) r.0 r.2)
  where
    same : (b : Bool) (got : FieldRule) → cond b (Ok got) (Err Kind) ≡ Ok rule → got ≡ rule
    same true got f = cc
    same false got f = cc

    go : {got : FieldRule} (o : Option NodeType) → option_and_then (λ (t : NodeType). field_of s t.ty key.0) o ≡ Some got → (length key.0 == 0) ≡ is_row got.kind
    go None f = cc
    go {got} (Some t) f = type_key s t.ty key.0 got sound f
