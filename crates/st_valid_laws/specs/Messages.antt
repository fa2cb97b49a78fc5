-- The tests of a message in their order, and the logs to which messages lead that pass them.
use Rattle.std.specs.Prelude.{◌≡◌, ℕ, true, List, [], ◌∷◌, Option, None, Some, ◌⊎◌}
use Rattle.st_clusters.specs.declared.ids.IdRange.{IdRange}
use Rattle.st_lists.specs.Log.{log_with}
use Rattle.st_lists.specs.declared.lists.Body.{Body}
use Rattle.st_lists.specs.declared.lists.Body.TheVariants.{Join, Leave, Ack, Commit}
use Rattle.st_lists.specs.declared.lists.Entry.{Entry}
use Rattle.st_marks.specs.declared.changes.Change.{Change}
use Rattle.st_marks.specs.Document.{Document}
use Rattle.st_valid.specs.Context.{AuthorsIntent, IsInContext}
use Rattle.st_valid.specs.Ids.{has_new_revision, has_next_ids}
use Rattle.st_valid.specs.Order.{is_in_order}
use Rattle.st_valid.specs.References.{is_in_window, is_no_step_back}
use Rattle.st_valid.specs.Room.{has_room}
use Rattle.st_valid_laws.specs.Schema.{KeepsToItsSchema}
use Rattle.st_valid.specs.Sessions.{is_of_session}
use Rattle.st_valid.specs.declared.message.Message.{Message}
use Rattle.st_valid.specs.declared.message.ReplayCause.{ReplayCause}
use Rattle.st_valid.specs.declared.message.ReplayCause.TheVariants as cause
use Rattle.st_valid.specs.declared.message.Said.{Said}
use Rattle.st_valid.specs.declared.message.Said.TheVariants as said

-- ## The tests

-- a message passes a test, after a log that begins at an opening document. What is read as a message has passed the first one,
-- that of its shape
abbrev pub Passes : Document → List Entry → Message → ReplayCause → Type 0
Passes O log m cause.Shape = Unit {0}
Passes O log m cause.Sequence = is_in_order log m ≡ true
Passes O log m cause.Session = is_of_session log m ≡ true
Passes O log m cause.Window = is_in_window log m ≡ true
Passes O log m cause.RefBack = is_no_step_back log m ≡ true
Passes O log m cause.Ids = has_next_ids log m ≡ true
Passes O log m cause.Revision = has_new_revision log m ≡ true
Passes O log m cause.Limit = has_room log m ≡ true
Passes O log m cause.Context = IsInContext O log m
Passes O log m cause.Schema = KeepsToItsSchema O log m

-- it is valid where it passes every test
abbrev pub IsValid : Document → List Entry → Message → Type 0
IsValid O log m = (test : ReplayCause) → Passes O log m test

-- ## The order of the tests

abbrev pub in_order : List ReplayCause
in_order = cause.Shape ∷ cause.Sequence ∷ cause.Session ∷ cause.Window ∷ cause.RefBack ∷ cause.Ids ∷ cause.Revision ∷ cause.Limit ∷ cause.Context ∷ cause.Schema ∷ []

-- of some tests, this is the first that isn't passed
abbrev pub IsFirstFailing : (ReplayCause → Type 0) → List ReplayCause → ReplayCause → Type 0
IsFirstFailing Pass [] c = ⊥
IsFirstFailing Pass (test ∷ tests) c = ((c ≡ test) × (Pass test → ⊥)) ⊎ (Pass test × IsFirstFailing Pass tests c)

-- what a message is refused for
abbrev pub IsRefusedFor : Document → List Entry → Message → ReplayCause → Type 0
IsRefusedFor O log m c = IsFirstFailing (Passes O log m) in_order c

-- ## The log

-- the commit of a change is that of its author's intent
abbrev pub IsCommitOf : Document → List Entry → ℕ → ℕ → IdRange → Option Change → Body → Type 0
IsCommitOf O log session reference ids None body = ⊥
IsCommitOf O log session reference ids (Some C) body = (a : AuthorsIntent O log session reference C) × (body ≡ Commit reference ids a.intent)

-- what a message says, as the body of an entry
abbrev pub IsBodyOf : Document → List Entry → ℕ → Said → Body → Type 0
IsBodyOf O log session (said.Join uuid) body = body ≡ Join uuid
IsBodyOf O log session said.Leave body = body ≡ Leave
IsBodyOf O log session (said.Ack reference) body = body ≡ Ack reference
IsBodyOf O log session (said.Commit reference ids change) body = IsCommitOf O log session reference ids change body

-- a log of messages, each of which was valid where it came
pub data IsValidLog (O : Document) : List Entry → Type 0 where
  no_message : IsValidLog O []
  one_message_more : {log : List Entry} → IsValidLog O log → (m : Message) → IsValid O log m → (body : Body) → IsBodyOf O log m.session m.said body → IsValidLog O (log_with log m.session body)
