-- What is kept of each schema, by the revision of the commit that brought it in.
use Rattle.std.specs.Prelude.{◌≡◌, ℕ, List, Some}
use Rattle.std.specs.BTreeMap.{BTreeMap, get}
use Rattle.st_ids.specs.Order.{rev_cmp}
use Rattle.st_ids.specs.declared.names.Rev.{Rev}
use Rattle.st_schema.specs.Reading.{schema_of_text}
use Rattle.st_edits.specs.ArrayTypes.{is_array_type}
use Rattle.st_doc.specs.LiveText.{is_among}
use Rattle.st_plain_schemas.specs.declared.known.KnownSchema.{KnownSchema}

-- the schema that a text is the form of, and its types whose nodes have a row
pub record IsReadingOf (text : List ℕ) (k : KnownSchema) : Type 0 where
  pub schema : schema_of_text text ≡ Some k.schema
  pub arrays : is_among k.arrays ≡ is_array_type k.schema

-- under a revision the reading of a text is kept
abbrev pub HasReading : BTreeMap Rev KnownSchema → Rev → List ℕ → Type 0
HasReading schemas rev text = (k : KnownSchema) × (get rev_cmp schemas rev ≡ Some k) × IsReadingOf text k
