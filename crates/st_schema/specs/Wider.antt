-- Which schemas are wider than another: the old types stand first, each with its form, its lists and its fields, to which
-- only optional ones are added.
use Rattle.std.specs.Prelude.{ℕ, List, [], ◌∷◌, ◌++◌, Bool, true, false, not, ◌&&◌, Option, None, Some, is_some, Result, Ok, Err}
use Rattle.std.specs.List.{list_all, position_from}
use Rattle.st_schema.specs.Kind.{is_optional}
use Rattle.st_schema.specs.Schema.{SchemaView, same, is_among, declared_field}
use Rattle.st_schema.specs.declared.names.NotWider.{NotWider}
use Rattle.st_schema.specs.declared.names.KindName.{KindName}
use Rattle.st_schema.specs.declared.names.KindName.TheVariants.{Required, Optional, Sequence}
use Rattle.st_schema.specs.declared.names.FieldDef.{FieldDef}
use Rattle.st_schema.specs.declared.names.Form.{Form}
use Rattle.st_schema.specs.declared.names.Form.TheVariants.{Array, Map, Object}

-- a new list has each type of the old one
abbrev pub contains_all : List (List ℕ) → List (List ℕ) → Bool
contains_all new old = list_all (λ t. is_among t new) old

-- a required field stays so or becomes optional, and an optional one stays so
abbrev pub kind_widens : KindName → KindName → Bool
kind_widens Required Required = true
kind_widens Required Optional = true
kind_widens Required Sequence = false
kind_widens Optional Required = false
kind_widens Optional Optional = true
kind_widens Optional Sequence = false
kind_widens Sequence kind = false

-- a new field, against the old one of its key; where there is none, it is optional
abbrev pub widens_found : Option FieldDef → FieldDef → Bool
widens_found None new = is_optional new.kind
widens_found (Some old) new = kind_widens old.kind new.kind && contains_all new.types old.types

abbrev pub def_widens : List FieldDef → FieldDef → Bool
def_widens olds new = widens_found (declared_field olds new.key.0) new

-- each old field is there, and each new one widens it or is added as an optional one
abbrev pub defs_widen : List FieldDef → List FieldDef → Bool
defs_widen olds news = list_all (λ old. is_some (declared_field news old.key.0)) olds && list_all (def_widens olds) news

-- the form is the same, with wider lists and fields
abbrev pub form_widens : Form → Form → Bool
form_widens (Array old) (Array new) = contains_all new old
form_widens (Array old) (Map new) = false
form_widens (Array old) (Object new) = false
form_widens (Map old) (Array new) = false
form_widens (Map old) (Map new) = contains_all new old
form_widens (Map old) (Object new) = false
form_widens (Object olds) (Array new) = false
form_widens (Object olds) (Map new) = false
form_widens (Object olds) (Object news) = defs_widen olds news

abbrev pub definition_widens : List ℕ × Form → List ℕ × Form → Bool
definition_widens old new = same old.0 new.0 && form_widens old.1 new.1

-- for each old type, whether the new type at its place is it and wider
abbrev pub types_widen : List (List ℕ × Form) → List (List ℕ × Form) → List Bool
types_widen [] news = []
types_widen (old ∷ olds) [] = false ∷ types_widen olds []
types_widen (old ∷ olds) (new ∷ news) = definition_widens old new ∷ types_widen olds news

-- nothing, or the number of the first failure
abbrev pub none_narrowed : Option ℕ → Result (Unit {0}) NotWider
none_narrowed None = Ok tt
none_narrowed (Some i) = Err (record { at = i })

-- the first old type that fails, or the count of old types where only the root's list does
abbrev pub wider_of : SchemaView → SchemaView → Result (Unit {0}) NotWider
wider_of old new = none_narrowed (position_from (λ ok. not ok) 0 (types_widen old.types new.types ++ contains_all new.root old.root ∷ []))

-- ---- counted on
