-- What a schema says of a node and of a field, in a document; and the register in which a node stands, or into which it is put.
use Rattle.std.specs.Prelude.{ℕ, Bool, false, List, [], Option, Some, None, is_some, option_and_then}
use Rattle.std.specs.Option.{option_map_or}
use Rattle.st_ids.specs.declared.names.FieldId.{FieldId}
use Rattle.st_ids.specs.declared.names.Key.{Key}
use Rattle.st_ids.specs.declared.names.Leaf.{Leaf}
use Rattle.st_ids.specs.declared.names.NodeId.{NodeId}
use Rattle.st_schema.specs.Conforms.{leaf_type}
use Rattle.st_schema.specs.Kind.{is_required}
use Rattle.st_schema.specs.Schema.{SchemaView, form_of, same}
use Rattle.st_schema.specs.declared.names.FieldRule.{FieldRule}
use Rattle.st_marks.specs.declared.intents.Intent.{Intent}
use Rattle.st_marks.specs.declared.places.Spot.{Spot}
use Rattle.st_marks.specs.Document.{Document}
use Rattle.st_marks.specs.Intent.{put_of, register_of}
use Rattle.st_edits.specs.Resolve.{rule_at}

-- a leaf has the type of its value, and any other node a type that the schema defines
abbrev pub type_fits : SchemaView → List ℕ → Option Leaf → Bool
type_fits s ty None = is_some (form_of s.types ty)
type_fits s ty (Some v) = same ty (leaf_type v)

-- a row has the empty key
abbrev pub row_key : Key
row_key = record { 0 = [] }

-- whether a field is required
abbrev pub is_required_field : SchemaView → Document → FieldId → Bool
is_required_field s D f = option_map_or (λ (rule : FieldRule). is_required rule.kind) (rule_at D s f.node f.key) false

-- the register that a place is
abbrev pub register_in : Spot → Option FieldId
register_in Spot.Nowhere = None
register_in (Spot.Row n c) = None
register_in (Spot.Register f) = Some f

-- the register into which an intent puts a node
abbrev pub put_register : Intent → NodeId → Option FieldId
put_register N m = option_and_then register_of (put_of N m)
