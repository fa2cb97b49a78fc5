-- A run of intents that agree with the schema keeps conformity.
use Rattle.std.proofs.Common.{List, Option}
use Rattle.st_ids.specs.declared.names.FieldId.{FieldId}
use Rattle.st_ids.specs.declared.names.NodeId.{NodeId}
use Rattle.st_schema.specs.Schema.{SchemaView}
use Rattle.st_marks.specs.declared.intents.Intent.{Intent}
use Rattle.st_marks.specs.Document.{Document, IsSoundInForm}
use Rattle.st_marks.specs.Run.{Run, done, next, FitsInTurn}
use Rattle.st_marks.proofs.OneVerdict.{carried_extends}
use Rattle.st_schema_laws.specs.Conforming.{IsConforming}
use Rattle.st_schema_laws.specs.Agreeing.{KeepsSchemaInTurn}
use Rattle.st_schema_laws.proofs.Kept.{carried_conforms}

pub run_conforms : (s : SchemaView) (home : NodeId → Option FieldId) {D E : Document} {Ns : List Intent} (r : Run D Ns E) → IsSoundInForm D → FitsInTurn r → IsConforming s home D → KeepsSchemaInTurn s home r → IsConforming s home E
run_conforms s home done sound f here a = here
run_conforms s home (next {D} {N = N} v is rest) sound f here a =
    run_conforms s home rest (carried_extends D N v sound f.0 f.1 is).after f.2 (carried_conforms s home D N sound f.0 here a.0 v) a.1
