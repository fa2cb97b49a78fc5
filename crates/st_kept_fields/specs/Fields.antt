-- When what a commit makes and puts somewhere keeps to a schema: the first three of the tests of a commit of data.
use Rattle.std.specs.Prelude.{◌≡◌, true, Some}
use Rattle.st_ids.specs.declared.names.Key.{Key}
use Rattle.st_ids.specs.declared.names.NodeId.{NodeId}
use Rattle.st_schema.specs.Kind.{is_required}
use Rattle.st_schema.specs.Schema.{SchemaView}
use Rattle.st_schema.specs.declared.names.FieldRule.{FieldRule}
use Rattle.st_marks.specs.declared.intents.Intent.{Intent}
use Rattle.st_marks.specs.declared.intents.To.{To}
use Rattle.st_marks.specs.CarryOut.{with_names}
use Rattle.st_marks.specs.Document.{Document, NodeType}
use Rattle.st_marks.specs.Intent.{is_new, new_type, put_in, put_of}
use Rattle.st_edits.specs.Paths.{field_at}
use Rattle.st_edits.specs.Resolve.{rule_at}
use Rattle.st_edits.specs.Fields.{type_fits}
use Rattle.st_edits.specs.Keeping.{GoesWell}

-- a new node has a type of the schema
abbrev pub HaveTypes : SchemaView → Intent → Type 0
HaveTypes U N = (n : NodeId) (t : NodeType) → new_type N n ≡ Some t → type_fits U t.ty t.leaf ≡ true

-- each required field of a new node is filled with a new node
abbrev pub AreFilled : SchemaView → Document → Intent → Type 0
AreFilled U D N = (n : NodeId) (key : Key) (rule : FieldRule) → is_new N n ≡ true → rule_at (with_names D N) U n key ≡ Some rule → is_required rule.kind ≡ true
    → (m : NodeId) × (put_in N (field_at n key) ≡ Some m) × (is_new N m ≡ true)

-- each node goes into a field of the schema that takes it
abbrev pub GoWell : SchemaView → Document → Intent → Type 0
GoWell U D N = (m : NodeId) (to : To) → put_of N m ≡ Some to → GoesWell U (with_names D N) m to
