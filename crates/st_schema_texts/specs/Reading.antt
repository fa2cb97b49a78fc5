-- Which schema a text is.
use Rattle.std.specs.Prelude.{◌≡◌, ◌≢◌, ℕ, List, true, Option, Some, None}
use Rattle.serde_json.specs.Written.{compact_text}
use Rattle.st_schema.specs.Schema.{SchemaView, is_sound}
use Rattle.st_schema.specs.Written.{schema_data}

-- a schema keeps its rules and has this text; where there is none, it is the text of no schema that does
abbrev pub IsSchemaOf : List ℕ → Option SchemaView → Type 0
IsSchemaOf text (Some s) = (is_sound s ≡ true) × (text ≡ compact_text (schema_data s))
IsSchemaOf text None = (s : SchemaView) → is_sound s ≡ true → text ≢ compact_text (schema_data s)
