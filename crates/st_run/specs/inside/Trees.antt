-- The schemas by which a document shows its tree.
use Rattle.std.specs.Prelude.{Some}
use Rattle.st_ids.specs.Listing.{Has}
use Rattle.st_marks.specs.Document.{Document}
use Rattle.st_marks.specs.declared.schemas.SchemaEntry.{SchemaEntry}
use Rattle.st_schema.specs.Schema.{SchemaView}
use Rattle.st_schema_texts.specs.Reading.{IsSchemaOf}

-- each entry in effect has the text of a schema that keeps the rules
abbrev pub HasSchemas : Document → Type 0
HasSchemas D = (e : SchemaEntry) → Has D.schemas e → (s : SchemaView) × IsSchemaOf e.text (Some s)
