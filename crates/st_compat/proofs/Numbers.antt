-- The types of a schema by their numbers.
use Rattle.std.proofs.Common.{◌≡◌, ◌∙◌, ℕ, ◌<◌, ◌≤◌, List, length, true, Option, Some, None, option_map, sym, ap, subst, arith, ⊎_elim}
use Rattle.std.specs.List.{slice_get}
use Rattle.std.proofs.lemmas.Bool.{cases_lt}
use Rattle.std.proofs.lemmas.Option.{slice_get_within, slice_get-get_or}
use Rattle.std.proofs.lemmas.Map.Entries.{place_from_lookup}
use Rattle.st_lemmas.proofs.Options.{option_map-Some}
use Rattle.st_schema.specs.Schema.{SchemaView, same, is_sound, form_of}
use Rattle.st_schema.specs.declared.names.Form.{Form}
use Rattle.st_schema.proofs.Forms.{text_same}
use Rattle.st_schema.proofs.Widening.{few_types}

-- what `name_at` tells of a number
abbrev pub NameAt : SchemaView → ℕ → Option (List ℕ) → Type 0
NameAt s i o = o ≡ option_map (λ (d : List ℕ × Form). d.0) (slice_get s.types i)

pub at_number : (s : SchemaView) (i : ℕ) (name : List ℕ) → NameAt s i (Some name) → (form : Form) × (slice_get s.types i ≡ Some (name, form))
at_number s i name e =
    let d = option_map-Some (λ (d : List ℕ × Form). d.0) (slice_get s.types i) name (sym e) in
    (d.0.1, subst (λ (n : List ℕ). slice_get s.types i ≡ Some (n, d.0.1)) d.2 d.1)

pub name_within : (s : SchemaView) (i : ℕ) (name : List ℕ) → NameAt s i (Some name) → i < length s.types
name_within s i name e = let d = at_number s i name e in slice_get_within s.types i (name, d.0) d.1

pub name_low : (s : SchemaView) (i : ℕ) (name : List ℕ) → is_sound s ≡ true → NameAt s i (Some name) → i < 256
name_low s i name sound e = omega (arith, name_within s i name e, few_types s sound)

-- a number that has no name is past all types
pub all_below : (s : SchemaView) (i k : ℕ) (d : List ℕ × Form) → NameAt s i None → slice_get s.types k ≡ Some d → k < i
all_below s i k d e at =
    ⊎_elim
    (λ (within : i < length s.types). absurd (let some : ◌≡◌ {A = Option (List ℕ)} None (Some _) = e ∙ ap (option_map (λ (d : List ℕ × Form). d.0)) (slice_get-get_or s.types i d within) in cc))
    (λ (past : length s.types ≤ i). omega (arith, slice_get_within s.types k d at)) (cases_lt i (length s.types))

-- a defined type has a number
pub number_of : (s : SchemaView) (ty : List ℕ) (form : Form) → form_of s.types ty ≡ Some form → (k : ℕ) × (slice_get s.types k ≡ Some (ty, form))
number_of s ty form is =
    let at = place_from_lookup (same ty) s.types form is in
    (at.0, subst (λ (n : List ℕ). slice_get s.types at.0 ≡ Some (n, form)) (sym (text_same ty at.1 at.3)) at.2)
