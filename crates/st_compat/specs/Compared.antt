-- What the lines of two schemas come to, which may be missing.
use Rattle.std.specs.Prelude.{◌≡◌, ℕ, List, Option, None, Some, Result, Ok, Err}
use Rattle.st_json.specs.declared.fault.BadCause.{BadCause}
use Rattle.st_json.specs.declared.fault.BadCause.TheVariants.{Shape}
use Rattle.st_schema.specs.Schema.{SchemaView}
use Rattle.st_compat.specs.Relation.{IsRelation}
use Rattle.st_compat.specs.RelationText.{relation_line}
use Rattle.st_compat.specs.SchemaLine.{IsSchemaLine}
use Rattle.st_compat.specs.declared.compare.BadSchema.{BadSchema}
use Rattle.st_compat.specs.declared.compare.BadSchema.TheVariants.{Stored, View}
use Rattle.st_compat.specs.declared.relation.Relation.{Relation}

-- a line that is missing is not of the form of a schema
abbrev pub IsSchemaIn : Option (List ℕ) → Result SchemaView BadCause → Type 0
IsSchemaIn None r = r ≡ Err Shape
IsSchemaIn (Some bytes) r = IsSchemaLine bytes r

-- both lines are schemas, and this is the line of their relation
pub record IsRelationOf (stored view : Option (List ℕ)) (line : List ℕ) : Type 0 where
  pub s : SchemaView
  pub v : SchemaView
  pub relation : Relation
  pub of_stored : IsSchemaIn stored (Ok s)
  pub of_view : IsSchemaIn view (Ok v)
  pub is : IsRelation s v relation
  pub whole : line ≡ relation_line relation

-- the line of the relation of the two schemas; else the first line that is no schema, and the first test that it fails
abbrev pub IsCompared : Option (List ℕ) → Option (List ℕ) → Result (List ℕ) BadSchema → Type 0
IsCompared stored view (Ok line) = IsRelationOf stored view line
IsCompared stored view (Err (Stored cause)) = IsSchemaIn stored (Err cause)
IsCompared stored view (Err (View cause)) = (s : SchemaView) × IsSchemaIn stored (Ok s) × IsSchemaIn view (Err cause)
