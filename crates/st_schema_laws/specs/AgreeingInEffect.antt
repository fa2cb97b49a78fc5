-- When commits and documents keep to schemas that are widened: each commit to the schema under which it was made, in the
-- part of its schema's line, and a document to the last schema in effect, in the part in effect.
use Rattle.std.specs.Prelude.{◌≡◌, true, List, [], ◌∷◌, Option, Some, IfSome, if◌then◌else◌}
use Rattle.st_ids.specs.Order.{same_rev}
use Rattle.st_ids.specs.Root.{opening}
use Rattle.st_ids.specs.declared.names.FieldId.{FieldId}
use Rattle.st_ids.specs.declared.names.NodeId.{NodeId}
use Rattle.st_ids.specs.declared.names.Rev.{Rev}
use Rattle.st_edits.specs.InEffect.{last_in_effect}
use Rattle.st_schema.specs.Schema.{SchemaView}
use Rattle.st_marks.specs.declared.intents.Intent.{Intent}
use Rattle.st_marks.specs.declared.verdicts.Verdict.{Verdict}
use Rattle.st_marks.specs.Document.{Document, NodeType}
use Rattle.st_marks.specs.Verdict.{IsVerdict, carried_document}
use Rattle.st_schema_laws.specs.Agreeing.{KeepsSchema, with_homes}
use Rattle.st_edits.specs.Fields.{type_fits}
use Rattle.st_schema_laws.specs.Conforming.{IsConforming}
use Rattle.st_part_laws.specs.Chains.{AreInLine, TellsChain, with_chain, with_under}
use Rattle.st_part_laws.specs.Parts.{IsClosedInEffect, NamesWithin, is_of_schemas, part_in_effect, part_of_schemas}
use Rattle.st_schema_laws.specs.Widening.{AreWidening, IsUpgrade}

-- what is told of commits by their revisions, and of nodes by their names, for all documents at once: under which schema a
-- commit was made, a schema's line of ancestors, the schema itself, and a node's home
pub record Told : Type 0 where
  pub under : Rev → Rev
  pub chain : Rev → List Rev
  pub view : Rev → SchemaView
  pub home : NodeId → Option FieldId

-- ## Commits

-- a commit is as it is told, names nodes of its schema's line alone, and agrees with its schema in the part of that line
pub record AgreesInLine (T : Told) (D : Document) (N : Intent) : Type 0 where
  pub under : T.under N.rev ≡ N.under
  pub chain : TellsChain T.chain N
  pub view : IfSome N.schema (IsUpgrade (T.view N.under) (T.view N.rev))
  pub names : NamesWithin (is_of_schemas T.under (T.chain N.under)) D N
  pub keeps : KeepsSchema (T.view N.under) T.home (part_of_schemas T.under (T.chain N.under) D) N

-- so does each of some commits, where it comes
abbrev pub AgreeInTurn : Told → Document → List Intent → Type 0
AgreeInTurn T D [] = Unit {0}
AgreeInTurn T D (N ∷ Ns) = AgreesInLine T D N × ((v : Verdict) → IsVerdict D N v → AgreeInTurn T (carried_document v D N) Ns)

-- ## Documents

-- the schemas in effect are a line in which each widens the one before; each node has a type as its maker's schema says; a
-- node stands in effect where its field's node does; and the part in effect conforms to the last schema
pub record ConformsInEffect (T : Told) (D : Document) : Type 0 where
  pub opened : T.under opening ≡ opening
  pub line : AreInLine T.chain D.schemas
  pub widening : AreWidening T.view T.chain D.schemas
  pub types : (n : NodeId) (t : NodeType) → D.nodes n ≡ Some t → type_fits (T.view (T.under n.0.rev)) t.ty t.leaf ≡ true
  pub closed : IsClosedInEffect T.under D
  pub part : IsConforming (T.view (last_in_effect D)) T.home (part_in_effect T.under D)

-- ## One more commit

-- what is told, where one more commit tells its schema, and, if it changes the schema, its line of ancestors and the new one
abbrev pub with_commit : Told → Intent → SchemaView → Told
with_commit T N s = record { under = with_under T.under N; chain = with_chain T.chain N; view = λ r. if same_rev r N.rev then s else T.view r; home = T.home }

-- what is told, where one more commit tells the homes of its new nodes
abbrev pub with_home : Told → Intent → Told
with_home T N = record T { home = with_homes T.home N }
