-- The schema that is last in effect in a document.
use Rattle.std.specs.Prelude.{[], option_and_then, unwrap_or}
use Rattle.st_ids.specs.Root.{opening}
use Rattle.st_ids.specs.declared.names.Rev.{Rev}
use Rattle.st_schema.specs.Reading.{schema_of_text}
use Rattle.st_schema.specs.Schema.{SchemaView}
use Rattle.st_marks.specs.declared.schemas.SchemaEntry.{SchemaEntry}
use Rattle.st_marks.specs.Document.{Document, last_of, revs}

-- the revision of the entry that is last in effect
abbrev pub last_in_effect : Document → Rev
last_in_effect D = unwrap_or (last_of (revs D.schemas)) opening

-- the schema that allows nothing, as a document's with no entry in effect
abbrev pub empty_schema : SchemaView
empty_schema = record { root = []; types = [] }

-- the schema that the text of the last entry in effect is the form of
abbrev pub schema_in_effect : Document → SchemaView
schema_in_effect D = unwrap_or (option_and_then (λ (e : SchemaEntry). schema_of_text e.text) (last_of D.schemas)) empty_schema
