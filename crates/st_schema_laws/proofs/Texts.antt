-- The text of a sound schema is read as that schema.
use Rattle.std.proofs.Common.{◌≡◌, true, refl}
use Rattle.serde_json.specs.Written.{compact_text}
use Rattle.st_schema.specs.Schema.{SchemaView, is_sound}
use Rattle.st_schema.specs.Written.{schema_data}
use Rattle.st_edits.proofs.SchemaTexts.{schema_back}
use Rattle.st_schema_laws.specs.Widening.{IsTextOf}

pub schema_text : (s : SchemaView) → is_sound s ≡ true → IsTextOf s (compact_text (schema_data s))
schema_text s h = record { written = refl; back = schema_back s h }
