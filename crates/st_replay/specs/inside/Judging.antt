-- How a commit that passed the tests which read the log alone passes the other two, or doesn't.
use Rattle.std.specs.Prelude.{◌≡◌, ◌⊎◌, ℕ, true, List}
use Rattle.st_edits.specs.Keeping.{HasRoomForSchema, PassesSchema}
use Rattle.st_lists.specs.declared.lists.Entry.{Entry}
use Rattle.st_marks.specs.declared.changes.Change.{Change}
use Rattle.st_marks.specs.declared.intents.Intent.{Intent}
use Rattle.st_marks.specs.Document.{Document}
use Rattle.st_valid.specs.Context.{HasContext}
use Rattle.st_valid.specs.declared.message.ReplayCause.{ReplayCause}
use Rattle.st_valid.specs.declared.message.ReplayCause.TheVariants as cause
use Rattle.st_valid_laws.specs.Schema.{KeepsInContext}

-- an intent keeps to the schema that it names, and there is room for the one that it brings
abbrev pub Keeps : Document → Document → List Intent → Intent → Type 0
Keeps O D Ns N = PassesSchema O D Ns N × HasRoomForSchema D N

-- a change says so in its author's document, and keeps to its schema where that was in effect
pub record IsJudged (O : Document) (log : List Entry) (session reference : ℕ) (C : Change) (N : Intent) : Type 0 where
  pub context : HasContext O log session reference C
  pub intent : N ≡ context.meant.intent
  pub keeps : C.base ≡ true → KeepsInContext O log session reference C

-- a change says nothing in its author's document; or it does, and doesn't keep to its schema
abbrev pub IsTurnedDown : Document → List Entry → ℕ → ℕ → Change → ReplayCause → Type 0
IsTurnedDown O log session reference C c = ((c ≡ cause.Context) × (HasContext O log session reference C → ⊥))
    ⊎ ((c ≡ cause.Schema) × HasContext O log session reference C × ((C.base ≡ true → KeepsInContext O log session reference C) → ⊥))
