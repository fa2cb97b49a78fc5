-- When a document keeps to a schema. It is asked of all its nodes, live or not, since a node that was removed may come back.
use Rattle.std.specs.Prelude.{◌≡◌, ◌⊎◌, Bool, true, false, Option, Some, IsSome}
use Rattle.st_ids.specs.declared.names.FieldId.{FieldId}
use Rattle.st_ids.specs.declared.names.Key.{Key}
use Rattle.st_ids.specs.declared.names.NodeId.{NodeId}
use Rattle.st_schema.specs.Schema.{SchemaView}
use Rattle.st_schema.specs.declared.names.FieldRule.{FieldRule}
use Rattle.st_schema.specs.declared.names.KindName.{KindName}
use Rattle.st_marks.specs.declared.places.Spot.{Spot}
use Rattle.st_marks.specs.Document.{Document, NodeType}
use Rattle.st_ids.specs.Root.{root}
use Rattle.st_edits.specs.Fields.{is_required_field, row_key, type_fits}
use Rattle.st_edits.specs.Paths.{field_at}
use Rattle.st_edits.specs.Resolve.{rule_at, has_type}
use Rattle.st_schema.specs.Kind.{is_required, is_row, is_single_kind}

-- The *home* of a node is the register into which it was put when it was made, if it was put into one. It goes by the node's
-- name, and is the same in all documents. A node leaves a required home only where another takes its place there.

-- a field of a known node that isn't required
pub record IsFree (s : SchemaView) (D : Document) (f : FieldId) : Type 0 where
  pub known : IsSome (D.nodes f.node)
  pub open_field : is_required_field s D f ≡ false

-- a field of a node, which the schema has and which is of one of these kinds, admits the node m
pub record Admits (s : SchemaView) (home : NodeId → Option FieldId) (D : Document) (kinds : KindName → Bool) (n : NodeId) (key : Key) (m : NodeId) : Type 0 where
  pub rule : FieldRule
  pub ruled : rule_at D s n key ≡ Some rule
  pub kind : kinds rule.kind ≡ true
  -- m has one of the field's types
  pub typed : has_type D rule.types m ≡ true
  -- if the field is required, it is m's home
  pub at_home : is_required rule.kind ≡ true → home m ≡ Some (field_at n key)
  -- if m has its home elsewhere, that isn't required
  pub away : (f : FieldId) → home m ≡ Some f → (f ≡ field_at n key) ⊎ IsFree s D f

-- the field in which a place is admits the node
abbrev pub MayStand : SchemaView → (NodeId → Option FieldId) → Document → NodeId → Spot → Type 0
MayStand s home D m Spot.Nowhere = Unit {0}
MayStand s home D m (Spot.Row n c) = Admits s home D is_row n row_key m
MayStand s home D m (Spot.Register f) = Admits s home D is_single_kind f.node f.key m

-- a document that keeps to the schema
pub record IsConforming (s : SchemaView) (home : NodeId → Option FieldId) (D : Document) : Type 0 where
  -- each node has a type as it should
  pub types : (n : NodeId) (t : NodeType) → D.nodes n ≡ Some t → type_fits s t.ty t.leaf ≡ true
  -- and may stand where it stands
  pub places : (m : NodeId) → MayStand s home D m (D.place m)
  -- each required field is filled
  pub filled : (n : NodeId) (key : Key) (rule : FieldRule) → rule_at D s n key ≡ Some rule → is_required rule.kind ≡ true → IsSome (D.held (field_at n key))
  -- the node of each home is there
  pub homes : (m : NodeId) (f : FieldId) → IsSome (D.nodes m) → home m ≡ Some f → IsSome (D.nodes f.node)
  -- the root has one of the root's types
  pub root_type : has_type D s.root root ≡ true
