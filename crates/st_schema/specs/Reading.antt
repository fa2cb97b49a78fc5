-- What is read of a JSON value, or of its text, on the way to a schema.
use Rattle.std.specs.Prelude.{ℕ, List, [], ◌∷◌, ◌&&◌, Option, None, Some, option_map, option_and_then, if◌then◌else◌, codes}
use Rattle.serde_json.specs.Data.{Data, Items, no_items, item, Members, no_members, member}
use Rattle.serde_json.specs.Find.{as_str, as_array, as_object}
use Rattle.serde_json.specs.Read.{read}
use Rattle.st_schema.specs.Schema.{same, SchemaView}
use Rattle.st_schema.specs.declared.names.KindName.{KindName}
use Rattle.st_schema.specs.declared.names.KindName.TheVariants.{Required, Optional}
use Rattle.st_schema.specs.declared.names.FieldDef.{FieldDef}
use Rattle.st_schema.specs.declared.names.Form.{Form}
use Rattle.st_schema.specs.declared.names.Form.TheVariants.{Array, Map, Object}

-- the values of exactly two members, of these names in this order
abbrev pub pair_in : List ℕ → List ℕ → Members → Option (Data × Data)
pair_in a b no_members = None
pair_in a b (member k x no_members) = None
pair_in a b (member k x (member l y no_members)) = if same k a && same l b then Some (x, y) else None
pair_in a b (member k x (member l y (member m z ms))) = None

abbrev pub pair_of : List ℕ → List ℕ → Data → Option (Data × Data)
pair_of a b d = option_and_then (pair_in a b) (as_object d)

-- the texts of items that are all texts
abbrev pub texts_in : Items → Option (List (List ℕ))
texts_in no_items = Some []
texts_in (item d ds) = option_and_then (λ t. option_map (λ ts. t ∷ ts) (texts_in ds)) (as_str d)

abbrev pub texts_of : Data → Option (List (List ℕ))
texts_of d = option_and_then texts_in (as_array d)

abbrev pub kind_named : List ℕ → Option KindName
kind_named t = if same t (codes "req") then Some Required else (if same t (codes "opt") then Some Optional else None)

abbrev pub kind_of : Data → Option KindName
kind_of d = option_and_then kind_named (as_str d)

-- exactly two items
abbrev pub two_in : Items → Option (Data × Data)
two_in no_items = None
two_in (item x no_items) = None
two_in (item x (item y no_items)) = Some (x, y)
two_in (item x (item y (item z ds))) = None

abbrev pub two_items : Data → Option (Data × Data)
two_items d = option_and_then two_in (as_array d)

-- a declared field, of its key and of its kind and types
abbrev pub field_of_data : List ℕ → Data → Option FieldDef
field_of_data key d = option_and_then (λ p. option_and_then (λ kind. option_map (λ types. record { key = record { 0 = key }; kind = kind; types = types }) (texts_of p.1)) (kind_of p.0)) (two_items d)

abbrev pub fields_of_members : Members → Option (List FieldDef)
fields_of_members no_members = Some []
fields_of_members (member key d ms) = option_and_then (λ f. option_map (λ fs. f ∷ fs) (fields_of_members ms)) (field_of_data key d)

abbrev pub fields_of_data : Data → Option (List FieldDef)
fields_of_data d = option_and_then fields_of_members (as_object d)

abbrev pub array_of : Data × Data → Option (List ℕ × Form)
array_of p = option_and_then (λ types. option_map (λ name. (name, Array types)) (as_str p.1)) (texts_of p.0)

abbrev pub map_of : Data × Data → Option (List ℕ × Form)
map_of p = option_and_then (λ types. option_map (λ name. (name, Map types)) (as_str p.1)) (texts_of p.0)

abbrev pub object_of : Data × Data → Option (List ℕ × Form)
object_of p = option_and_then (λ name. option_map (λ fields. (name, Object fields)) (fields_of_data p.1)) (as_str p.0)

-- the first that there is, and what is made of it
abbrev pub first_of : {A B : Type 0} → Option A → (A → Option B) → Option B → Option B
first_of None f rest = rest
first_of (Some a) f rest = f a

-- a definition of an array type, a map type or an object type
abbrev pub definition_of : Data → Option (List ℕ × Form)
definition_of d = first_of (pair_of (codes "array") (codes "name") d) array_of
    (first_of (pair_of (codes "map") (codes "name") d) map_of
    (first_of (pair_of (codes "name") (codes "object") d) object_of None))

abbrev pub definitions_in : Items → Option (List (List ℕ × Form))
definitions_in no_items = Some []
definitions_in (item d ds) = option_and_then (λ x. option_map (λ xs. x ∷ xs) (definitions_in ds)) (definition_of d)

abbrev pub definitions_of : Data → Option (List (List ℕ × Form))
definitions_of d = option_and_then definitions_in (as_array d)

-- a schema whose rules are not looked at
abbrev pub schema_of : Data → Option SchemaView
schema_of d = option_and_then (λ p. option_and_then (λ root. option_map (λ types. record { root = root; types = types }) (definitions_of p.1)) (texts_of p.0)) (pair_of (codes "root") (codes "types") d)

-- the schema that a text is the JSON form of, whose rules are not looked at
abbrev pub schema_of_text : List ℕ → Option SchemaView
schema_of_text text = option_and_then schema_of (read text)
