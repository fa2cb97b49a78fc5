-- A schema as contracts see it, and the rules that each schema keeps.
use Rattle.std.specs.Prelude.{ℕ, if◌then◌else◌, List, [], ◌∷◌, length, map, Bool, true, false, not, ◌&&◌, ◌||◌, nat_eq, nat_le, Option, None, Some, option_map, option_and_then, codes}
use Rattle.std.specs.List.{list_all, list_any, find}
use Rattle.std.specs.Map.{lookup}
use Rattle.std.specs.Ordering.{nat_cmp, is_lt}
use Rattle.std.specs.Cmp.Lexicographic.{pointwise, slice_cmp}
use Rattle.st_schema.specs.Kind.{is_single_kind}
use Rattle.st_schema.specs.declared.names.KindName.TheVariants.{Optional, Sequence}
use Rattle.st_schema.specs.declared.names.FieldRule.{FieldRule}
use Rattle.st_schema.specs.declared.names.FieldDef.{FieldDef}
use Rattle.st_schema.specs.declared.names.Form.{Form}
use Rattle.st_schema.specs.declared.names.Form.TheVariants.{Array, Map, Object}

-- the types that the root may have, and the definitions in order
pub record SchemaView : Type 0 where
  pub root : List (List ℕ)
  pub types : List (List ℕ × Form)

-- two texts have the same bytes
abbrev pub same : List ℕ → List ℕ → Bool
same = pointwise nat_eq

abbrev pub is_among : List ℕ → List (List ℕ) → Bool
is_among t ts = list_any (λ u. same u t) ts

-- what the first definition of that name says
abbrev pub form_of : List (List ℕ × Form) → List ℕ → Option Form
form_of types ty = lookup (same ty) types

-- what an object type declares under a key
abbrev pub declared_field : List FieldDef → List ℕ → Option FieldDef
declared_field fields key = find (λ f. same f.key.0 key) fields

abbrev pub is_key : List ℕ → Bool
is_key key = nat_le 1 (length key) && nat_le (length key) 64

-- the field of a form under a key: an array's row under the empty key, a map's optional field under each key of 1 to
-- 64 bytes, and an object's declared fields
abbrev pub field_in : Form → List ℕ → Option FieldRule
field_in (Array types) [] = Some (record { kind = Sequence; types = types })
field_in (Array types) (b ∷ key) = None
field_in (Map types) key = if is_key key then Some (record { kind = Optional; types = types }) else None
field_in (Object fields) key = option_map (λ f. record { kind = f.kind; types = f.types }) (declared_field fields key)

abbrev pub field_of : SchemaView → List ℕ → List ℕ → Option FieldRule
field_of s ty key = option_and_then (λ form. field_in form key) (form_of s.types ty)

-- ---- the rules

-- the types that are always there and are not defined
abbrev pub leaf_types : List (List ℕ)
leaf_types = codes "null" ∷ codes "bool" ∷ codes "int" ∷ codes "text" ∷ []

-- a defined type has a name of 1 to 64 bytes, which no leaf type has
abbrev pub is_type_name : List ℕ → Bool
is_type_name name = is_key name && not (is_among name leaf_types)

-- no text stands twice
abbrev pub is_distinct : List (List ℕ) → Bool
is_distinct [] = true
is_distinct (t ∷ ts) = not (is_among t ts) && is_distinct ts

-- a type is always there or has one of the names
abbrev pub is_known : List (List ℕ) → List ℕ → Bool
is_known names t = is_among t leaf_types || is_among t names

-- a list of types names known ones, and none twice
abbrev pub list_is_sound : List (List ℕ) → List (List ℕ) → Bool
list_is_sound names ts = list_all (is_known names) ts && is_distinct ts

abbrev pub field_is_sound : List (List ℕ) → FieldDef → Bool
field_is_sound names f = is_key f.key.0 && (is_single_kind f.kind && list_is_sound names f.types)

-- the keys rise, from above the given one
abbrev pub defs_rise : List ℕ → List FieldDef → Bool
defs_rise before [] = true
defs_rise before (f ∷ fs) = is_lt (slice_cmp nat_cmp before f.key.0) && defs_rise f.key.0 fs

-- at most 64 fields, in rising order of their keys
abbrev pub form_is_sound : List (List ℕ) → Form → Bool
form_is_sound names (Array types) = list_is_sound names types
form_is_sound names (Map types) = list_is_sound names types
form_is_sound names (Object fields) = nat_le (length fields) 64 && (list_all (field_is_sound names) fields && defs_rise [] fields)

abbrev pub type_names : List (List ℕ × Form) → List (List ℕ)
type_names types = map (λ d. d.0) types

abbrev pub forms_are_sound : List (List ℕ × Form) → Bool
forms_are_sound types = list_all (form_is_sound (type_names types)) (map (λ d. d.1) types)

-- at most 256 definitions, no two of one name
abbrev pub names_are_sound : List (List ℕ) → Bool
names_are_sound names = nat_le (length names) 256 && (is_distinct names && list_all is_type_name names)

-- the names, the definitions and the root's list keep the rules
abbrev pub is_sound : SchemaView → Bool
is_sound s = names_are_sound (type_names s.types) && (forms_are_sound s.types && list_is_sound (type_names s.types) s.root)
