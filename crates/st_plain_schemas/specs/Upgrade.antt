-- Words of the private functions behind `Upgrade`.
use Rattle.std.specs.Prelude.{◌≡◌, Option, None, Some, cond}
use Rattle.std.specs.BTreeMap.{BTreeMap, get}
use Rattle.st_ids.specs.Order.{rev_cmp, same_rev}
use Rattle.st_ids.specs.declared.names.Rev.{Rev}
use Rattle.st_schema.specs.Schema.{SchemaView}
use Rattle.st_edits.specs.ArrayTypes.{is_array_type}
use Rattle.st_doc.specs.LiveText.{is_among}
use Rattle.st_marks.specs.declared.intents.Intent.{Intent}
use Rattle.st_script.specs.declared.answer.Answer.{Answer}
use Rattle.st_script.specs.declared.answer.Answer.TheVariants as answer
use Rattle.st_script.specs.declared.refusal.Refusal.{Refusal}
use Rattle.st_plain_schemas.specs.declared.known.KnownSchema.{KnownSchema}
use Rattle.st_heads.specs.declared.replica.Replica.{Replica}
use Rattle.st_heads.specs.Replicas.{IsCommitted}

-- what is kept of a client after a change of its schema, which may be refused
abbrev pub HasUpgraded : Option Refusal → Replica → Intent → Replica → Type 0
HasUpgraded None old N new = IsCommitted old N new
HasUpgraded (Some why) old N new = new ≡ old

-- a schema is kept under a revision, beside those of others
pub record IsKeptBeside (old : BTreeMap Rev KnownSchema) (rev : Rev) (s : SchemaView) (new : BTreeMap Rev KnownSchema) : Type 0 where
  pub known : KnownSchema
  pub schema : known.schema ≡ s
  pub arrays : is_among known.arrays ≡ is_array_type s
  pub map : (other : Rev) → get rev_cmp new other ≡ cond (same_rev rev other) (Some known) (get rev_cmp old other)

-- the schema that an upgrade brought in is kept where it is answered that it did
abbrev pub HasKeptOf : Answer → SchemaView → BTreeMap Rev KnownSchema → BTreeMap Rev KnownSchema → Type 0
HasKeptOf (answer.Upgrade rev) s old new = IsKeptBeside old rev s new
HasKeptOf a s old new = new ≡ old
