-- When an intent keeps to a schema, in a document that has the old names that it names.
use Rattle.std.specs.Prelude.{◌≡◌, true, false, List, [], ◌∷◌, Option, Some, IsSome, if◌then◌else◌}
use Rattle.st_ids.specs.declared.names.FieldId.{FieldId}
use Rattle.st_ids.specs.declared.names.Key.{Key}
use Rattle.st_ids.specs.declared.names.NodeId.{NodeId}
use Rattle.st_schema.specs.Schema.{SchemaView}
use Rattle.st_schema.specs.declared.names.FieldRule.{FieldRule}
use Rattle.st_marks.specs.declared.intents.Intent.{Intent}
use Rattle.st_marks.specs.declared.intents.To.{To}
use Rattle.st_marks.specs.declared.verdicts.Verdict.{Verdict}
use Rattle.st_marks.specs.Document.{Document, NodeType}
use Rattle.st_marks.specs.Intent.{new_type, is_new, put_of, put_in, clears}
use Rattle.st_marks.specs.CarryOut.{with_names}
use Rattle.st_marks.specs.Run.{Run, done, next}
use Rattle.st_marks.specs.Verdict.{IsVerdict, carried_document}
use Rattle.st_edits.specs.Paths.{field_at}
use Rattle.st_edits.specs.Resolve.{rule_at}
use Rattle.st_schema.specs.Kind.{is_required, is_row, is_single_kind}
use Rattle.st_edits.specs.Fields.{is_required_field, put_register, row_key, type_fits}
use Rattle.st_schema_laws.specs.Conforming.{Admits}

-- the field into which a node is put admits it, where the intent's new names are there; a cell is in the row of some node
abbrev pub MayGo : SchemaView → (NodeId → Option FieldId) → Document → Intent → NodeId → To → Type 0
MayGo s home D N m To.Nowhere = Unit {0}
MayGo s home D N m (To.Cell c) = (n : NodeId) × ((with_names D N).row_of c ≡ Some n) × Admits s home (with_names D N) is_row n row_key m
MayGo s home D N m (To.Register f) = Admits s home (with_names D N) is_single_kind f.node f.key m

-- the occupant of a register may leave it: the register's node is known, and where the field is required, the intent fills it
pub record MayBeLeft (s : SchemaView) (D : Document) (N : Intent) (f : FieldId) : Type 0 where
  pub known : IsSome ((with_names D N).nodes f.node)
  pub filled : is_required_field s (with_names D N) f ≡ true → IsSome (put_in N f)

-- an intent that keeps to the schema
pub record KeepsSchema (s : SchemaView) (home : NodeId → Option FieldId) (D : Document) (N : Intent) : Type 0 where
  -- new nodes have types as they should
  pub types : (n : NodeId) (t : NodeType) → new_type N n ≡ Some t → type_fits s t.ty t.leaf ≡ true
  -- each node may go where it is put
  pub puts : (m : NodeId) (to : To) → put_of N m ≡ Some to → MayGo s home D N m to
  -- an old node that is put may leave its home
  pub leaves : (m : NodeId) (f : FieldId) → IsSome (put_of N m) → is_new N m ≡ false → home m ≡ Some f → MayBeLeft s D N f
  -- a register that is cleared may be left
  pub clears : (f : FieldId) → clears N f ≡ true → MayBeLeft s D N f
  -- the node of each new node's home is there
  pub homes : (m : NodeId) (f : FieldId) → is_new N m ≡ true → home m ≡ Some f → IsSome ((with_names D N).nodes f.node)
  -- each required field of a new node is filled with a new node
  pub filled : (n : NodeId) (key : Key) (rule : FieldRule) → is_new N n ≡ true → rule_at (with_names D N) s n key ≡ Some rule → is_required rule.kind ≡ true
      → (m : NodeId) × (put_in N (field_at n key) ≡ Some m) × (is_new N m ≡ true)

-- the homes of the intent's new nodes are the registers into which it puts them
abbrev pub TellsHomes : (NodeId → Option FieldId) → Intent → Type 0
TellsHomes home N = (m : NodeId) → is_new N m ≡ true → home m ≡ put_register N m

-- the homes with those of the intent's new nodes
abbrev pub with_homes : (NodeId → Option FieldId) → Intent → NodeId → Option FieldId
with_homes home N m = if is_new N m then put_register N m else home m

-- in a run, each intent agrees with the schema where it comes
abbrev pub KeepsSchemaInTurn : SchemaView → (NodeId → Option FieldId) → {D E : Document} {Ns : List Intent} → Run D Ns E → Type 0
KeepsSchemaInTurn s home done = Unit {0}
KeepsSchemaInTurn s home (next {D} {N = N} v is rest) = KeepsSchema s home D N × KeepsSchemaInTurn s home rest

-- each of some intents agrees with the schema where it comes
abbrev pub KeepSchemaInTurn : SchemaView → (NodeId → Option FieldId) → Document → List Intent → Type 0
KeepSchemaInTurn s home D [] = Unit {0}
KeepSchemaInTurn s home D (N ∷ Ns) = KeepsSchema s home D N × ((v : Verdict) → IsVerdict D N v → KeepSchemaInTurn s home (carried_document v D N) Ns)
