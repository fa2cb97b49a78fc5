-- Which line is a schema.
use Rattle.std.specs.Prelude.{◌≡◌, ℕ, List, true, Option, None, Some, Result, Ok, Err}
use Rattle.serde_json.specs.Data.{Data}
use Rattle.st_json.specs.Line.{line_value}
use Rattle.st_json.specs.declared.fault.BadCause.{BadCause}
use Rattle.st_json.specs.declared.fault.BadCause.TheVariants.{Json, Header, Shape, NotNormal}
use Rattle.st_schema.specs.Schema.{SchemaView, is_sound}
use Rattle.st_schema.specs.Written.{schema_data}

-- the value is the form of no schema that keeps the rules
abbrev pub IsNoSchema : Data → Type 0
IsNoSchema d = (s : SchemaView) → is_sound s ≡ true → d ≡ schema_data s → ⊥

-- a line is the form of a schema that keeps the rules; else the first test that it fails
abbrev pub IsSchemaLine : List ℕ → Result SchemaView BadCause → Type 0
IsSchemaLine bytes (Ok s) = (is_sound s ≡ true) × (line_value bytes ≡ Some (schema_data s))
IsSchemaLine bytes (Err Json) = line_value bytes ≡ None
IsSchemaLine bytes (Err Header) = ⊥
IsSchemaLine bytes (Err Shape) = (d : Data) × (line_value bytes ≡ Some d) × IsNoSchema d
IsSchemaLine bytes (Err NotNormal) = ⊥

-- a line that should not be there: a value is not what is asked for
abbrev pub cause_of_value : Option Data → BadCause
cause_of_value None = Json
cause_of_value (Some d) = Shape

abbrev pub further_cause : List ℕ → BadCause
further_cause bytes = cause_of_value (line_value bytes)
