-- Which trees a schema allows.
use Rattle.std.specs.Prelude.{ℕ, List, [], ◌∷◌, ◌++◌, Bool, true, false, not, ◌&&◌, ◌||◌, Option, None, Some, option_and_then, is_some, Result, Ok, Err, codes}
use Rattle.std.specs.List.{list_all, position_from}
use Rattle.st_ids.specs.declared.names.Leaf.{Leaf}
use Rattle.st_ids.specs.declared.names.Leaf.TheVariants as leaf
use Rattle.st_tree.specs.Node.{Node, node, Fields, no_fields, field, Nodes, no_nodes, first}
use Rattle.st_tree.specs.Form.{is_row_alone, keys_rise}
use Rattle.st_schema.specs.Kind.{is_required}
use Rattle.st_schema.specs.Schema.{SchemaView, same, is_among, form_of, field_in}
use Rattle.st_schema.specs.declared.names.NotAllowed.{NotAllowed}
use Rattle.st_schema.specs.declared.names.FieldRule.{FieldRule}
use Rattle.st_schema.specs.declared.names.FieldDef.{FieldDef}
use Rattle.st_schema.specs.declared.names.Form.{Form}
use Rattle.st_schema.specs.declared.names.Form.TheVariants.{Array, Map, Object}

-- the type of a leaf with this value
abbrev pub leaf_type : Leaf → List ℕ
leaf_type leaf.Null = codes "null"
leaf_type (leaf.Bool b) = codes "bool"
leaf_type (leaf.Int n) = codes "int"
leaf_type (leaf.Words w) = codes "text"

abbrev pub has_key : Fields → List ℕ → Bool
has_key no_fields key = false
has_key (field k row items rest) key = same k key || has_key rest key

-- each field is one that the form has
abbrev pub have_rules : Form → Fields → Bool
have_rules form no_fields = true
have_rules form (field key row items rest) = is_some (field_in form key) && have_rules form rest

-- the required fields are all there
abbrev pub required_there : List FieldDef → Fields → Bool
required_there defs fields = list_all (λ d. not (is_required d.kind) || has_key fields d.key.0) defs

-- the fields are as the form says: the one row of an array; single items under rising keys that a map may have, or that
-- an object declares, the required ones all there
abbrev pub fields_fit : Form → Fields → Bool
fields_fit (Array types) fields = is_row_alone fields
fields_fit (Map types) fields = keys_rise [] fields && have_rules (Map types) fields
fields_fit (Object defs) fields = keys_rise [] fields && (have_rules (Object defs) fields && required_there defs fields)

abbrev pub has_none : Fields → Bool
has_none no_fields = true
has_none (field key row items rest) = false

-- a leaf has the type of its value and no fields, and another node a defined type whose form its fields have
abbrev pub is_as_typed : Option Form → List ℕ → Option Leaf → Fields → Bool
is_as_typed form ty (Some v) fs = same ty (leaf_type v) && has_none fs
is_as_typed None ty None fs = false
is_as_typed (Some form) ty None fs = fields_fit form fs

-- a node by itself is allowed in a place of these types
abbrev pub node_fits : SchemaView → List (List ℕ) → List ℕ → Option Leaf → Fields → Bool
node_fits s types ty leaf fields = is_among ty types && is_as_typed (form_of s.types ty) ty leaf fields

abbrev pub types_in : Option FieldRule → List (List ℕ)
types_in None = []
types_in (Some rule) = rule.types

-- the types that a field of a node of this form may hold
abbrev pub types_under : Option Form → List ℕ → List (List ℕ)
types_under form key = types_in (option_and_then (λ f. field_in f key) form)

-- for each node in preorder, whether it is allowed where it stands
abbrev mutual
  pub verdicts : SchemaView → List (List ℕ) → Node → List Bool
  verdicts s types (node ty leaf fields) = node_fits s types ty leaf fields ∷ fields_verdicts s (form_of s.types ty) fields

  pub fields_verdicts : SchemaView → Option Form → Fields → List Bool
  fields_verdicts s form no_fields = []
  fields_verdicts s form (field key row items rest) = items_verdicts s (types_under form key) items ++ fields_verdicts s form rest

  pub items_verdicts : SchemaView → List (List ℕ) → Nodes → List Bool
  items_verdicts s types no_nodes = []
  items_verdicts s types (first t ts) = verdicts s types t ++ items_verdicts s types ts

-- a tree conforms to a schema in a place of these types where each of its nodes is allowed
abbrev pub conforms : SchemaView → List (List ℕ) → Node → Bool
conforms s types t = list_all (λ ok. ok) (verdicts s types t)

-- nothing, or the number of the first refusal
abbrev pub refusal : Option ℕ → Result (Unit {0}) NotAllowed
refusal None = Ok tt
refusal (Some i) = Err (record { at = i })

-- the preorder number of the first node that is not allowed
abbrev pub allows_of : SchemaView → List (List ℕ) → Node → Result (Unit {0}) NotAllowed
allows_of s types t = refusal (position_from (λ ok. not ok) 0 (verdicts s types t))

-- the number, in preorder over all trees, of the first node that is not allowed
abbrev pub allows_all_of : SchemaView → List (List ℕ) → Nodes → Result (Unit {0}) NotAllowed
allows_all_of s types ts = refusal (position_from (λ ok. not ok) 0 (items_verdicts s types ts))

-- ---- looked at in turn
