-- Schemas that were read, by their texts.
use Rattle.std.specs.Prelude.{◌≡◌, ℕ, List, Option, Some}
use Rattle.std.specs.BTreeMap.{is_at}
use Rattle.std.specs.Cmp.Lexicographic.{slice_cmp}
use Rattle.std.specs.Map.{lookup}
use Rattle.std.specs.Ordering.{nat_cmp}
use Rattle.st_schema.specs.Schema.{SchemaView}
use Rattle.st_schema_texts.specs.Reading.{IsSchemaOf}

-- the schema that is known of a text
abbrev pub known_of : List (List ℕ × SchemaView) → List ℕ → Option SchemaView
known_of known text = lookup (is_at (slice_cmp nat_cmp text)) known

-- each that is known of a text is the schema of that text
abbrev pub AreRead : List (List ℕ × SchemaView) → Type 0
AreRead known = (text : List ℕ) (s : SchemaView) → known_of known text ≡ Some s → IsSchemaOf text (Some s)
