-- How schemas are widened, from each schema in effect to the next.
use Rattle.std.specs.Prelude.{◌≡◌, true, List, ℕ, Some, Ok}
use Rattle.serde_json.specs.Written.{compact_text}
use Rattle.st_ids.specs.Listing.{Has}
use Rattle.st_ids.specs.declared.names.Rev.{Rev}
use Rattle.st_schema.specs.Reading.{schema_of_text}
use Rattle.st_schema.specs.Schema.{SchemaView, is_sound}
use Rattle.st_schema.specs.Wider.{wider_of}
use Rattle.st_schema.specs.Written.{schema_data}
use Rattle.st_marks.specs.declared.schemas.SchemaEntry.{SchemaEntry}
use Rattle.st_marks.specs.Document.{revs}

-- a text is that of a schema: it is written for it, and is read as it
pub record IsTextOf (s : SchemaView) (text : List ℕ) : Type 0 where
  pub written : text ≡ compact_text (schema_data s)
  pub back : schema_of_text text ≡ Some s

-- a text is that of a schema that keeps its rules and is wider than another
pub record IsUpgrade (old new : SchemaView) (text : List ℕ) : Type 0 where
  pub written : IsTextOf new text
  pub sound : is_sound new ≡ true
  pub wide : wider_of old new ≡ Ok tt

-- one schema becomes another by some changes, each of which widens it
pub data BecomesWider (old : SchemaView) : SchemaView → Type 0 where
  no_change : BecomesWider old old
  one_change : {before after : SchemaView} → BecomesWider old before → is_sound after ≡ true → wider_of before after ≡ Ok tt → BecomesWider old after

-- the schemas of some entries: each entry has its schema's text, the schema keeps its rules, and it is what those of its line
-- of ancestors become
pub record AreWidening (view : Rev → SchemaView) (chain : Rev → List Rev) (entries : List SchemaEntry) : Type 0 where
  pub written : (e : SchemaEntry) → Has entries e → IsTextOf (view e.rev) e.text
  pub sound : (r : Rev) → Has (revs entries) r → is_sound (view r) ≡ true
  pub each : (r s : Rev) → Has (revs entries) r → Has (chain r) s → BecomesWider (view s) (view r)
