-- The JSON form of the schema whose text a change has.
use Rattle.std.specs.Prelude.{ℕ, List, Option, None, Some, option_and_then, if◌then◌else◌}
use Rattle.serde_json.specs.Data.{Data, string}
use Rattle.st_schema.specs.Reading.{schema_of_text}
use Rattle.st_schema.specs.Schema.{SchemaView, is_sound}
use Rattle.st_schema.specs.Written.{schema_data}

-- a schema that keeps the rules
abbrev pub if_sound : SchemaView → Option SchemaView
if_sound s = if is_sound s then Some s else None

-- the schema that a text is the form of, if it is one that keeps the rules
abbrev pub sound_schema_of : List ℕ → Option SchemaView
sound_schema_of text = option_and_then if_sound (schema_of_text text)

abbrev pub schema_or : List ℕ → Option SchemaView → Data
schema_or text None = string text
schema_or text (Some s) = schema_data s

-- the schema of a text, as a value; a text that is none stands as it is, as a JSON text
abbrev pub text_data : List ℕ → Data
text_data text = schema_or text (sound_schema_of text)
