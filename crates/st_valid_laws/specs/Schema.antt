-- When the commit of a message keeps to the schema under which it was made, and has room for the one that it brings.
use Rattle.std.specs.Prelude.{◌≡◌, ℕ, true, List, Option, Some, None}
use Rattle.st_lists.specs.Log.{commits_in}
use Rattle.st_lists.specs.declared.lists.Entry.{Entry}
use Rattle.st_marks.specs.declared.changes.Change.{Change}
use Rattle.st_marks.specs.Document.{Document}
use Rattle.st_edits.specs.Keeping.{HasRoomForSchema, PassesSchema}
use Rattle.st_valid.specs.Context.{AuthorsIntent}
use Rattle.st_valid.specs.declared.message.Message.{Message}
use Rattle.st_valid.specs.declared.message.Said.{Said}
use Rattle.st_valid.specs.declared.message.Said.TheVariants as said

-- what a change says in its author's document keeps to the schema that it names, which has room for one more where it is one
pub record KeepsInContext (O : Document) (log : List Entry) (session reference : ℕ) (C : Change) : Type 0 where
  pub keeps : (a : AuthorsIntent O log session reference C) → PassesSchema O a.document (commits_in log) a.intent
  pub room : (a : AuthorsIntent O log session reference C) → HasRoomForSchema a.document a.intent

-- it is asked where that schema was in effect for the author
abbrev pub ChangeKeeps : Document → List Entry → ℕ → ℕ → Option Change → Type 0
ChangeKeeps O log session reference None = ⊥
ChangeKeeps O log session reference (Some C) = C.base ≡ true → KeepsInContext O log session reference C

abbrev pub SaysBySchema : Document → List Entry → ℕ → Said → Type 0
SaysBySchema O log session (said.Join uuid) = Unit {0}
SaysBySchema O log session said.Leave = Unit {0}
SaysBySchema O log session (said.Ack reference) = Unit {0}
SaysBySchema O log session (said.Commit reference ids change) = ChangeKeeps O log session reference change

abbrev pub KeepsToItsSchema : Document → List Entry → Message → Type 0
KeepsToItsSchema O log m = SaysBySchema O log m.session m.said
