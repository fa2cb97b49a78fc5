-- When the nodes that a commit moves may be moved by a schema: the last four of the tests of a commit of data.
use Rattle.std.specs.Prelude.{◌≡◌, ◌⊎◌, true, false, List, Some, IsSome}
use Rattle.st_ids.specs.Listing.{Has}
use Rattle.st_ids.specs.declared.names.FieldId.{FieldId}
use Rattle.st_ids.specs.declared.names.NodeId.{NodeId}
use Rattle.st_ids.specs.declared.names.Rev.{Rev}
use Rattle.st_schema.specs.Schema.{SchemaView}
use Rattle.st_marks.specs.declared.intents.Intent.{Intent}
use Rattle.st_marks.specs.declared.intents.To.{To}
use Rattle.st_marks.specs.CarryOut.{with_names}
use Rattle.st_marks.specs.Document.{Document}
use Rattle.st_marks.specs.Intent.{clears, is_new, put_in, put_of}
use Rattle.st_edits.specs.Fields.{is_required_field}
use Rattle.st_edits.specs.Keeping.{Made, MayLeave, home_of, made_of}

-- each old node that is put was made under one of some schemas
abbrev pub PutMakersKnown : Document → List Intent → List Rev → Intent → Type 0
PutMakersKnown O log front N = (m : NodeId) → IsSome (put_of N m) → is_new N m ≡ false → (d : Made) × (made_of O log m ≡ Some d) × Has front d.under

-- so was each old node of which a register is cleared
abbrev pub ClearMakersKnown : Document → List Intent → List Rev → Intent → Type 0
ClearMakersKnown O log front N = (f : FieldId) → clears N f ≡ true → is_new N f.node ≡ false → (d : Made) × (made_of O log f.node ≡ Some d) × Has front d.under

-- a required field that is cleared is filled with a new node, or with one whose home it is
abbrev pub ClearedAreFilled : Document → List Intent → SchemaView → Document → Intent → Type 0
ClearedAreFilled O log U D N = (f : FieldId) → clears N f ≡ true → is_required_field U (with_names D N) f ≡ true
    → (m : NodeId) × (put_in N f ≡ Some m) × ((is_new N m ≡ true) ⊎ (home_of O log m ≡ Some f))

-- an old node leaves its home, if that is required, only as it may
abbrev pub HomesLeftWell : Document → List Intent → SchemaView → Document → Intent → Type 0
HomesLeftWell O log U D N = (m : NodeId) (to : To) (f : FieldId) → put_of N m ≡ Some to → is_new N m ≡ false → home_of O log m ≡ Some f
    → is_required_field U (with_names D N) f ≡ true → MayLeave N f to
