-- Which messages a manager takes, and what was told after one.
use Rattle.std.specs.Prelude.{◌≡◌, ℕ, Bool, List, ◌∷◌, Option, None, Some, unwrap_or}
use Rattle.st_clusters.specs.declared.ids.IdRange.{IdRange}
use Rattle.st_lists.specs.declared.lists.Body.{Body}
use Rattle.st_lists.specs.declared.lists.Body.TheVariants.{Commit}
use Rattle.st_log_laws.specs.Turns.{HasRoom}
use Rattle.st_marks.specs.declared.changes.Change.{Change}
use Rattle.st_marks.specs.declared.intents.Intent.{Intent}
use Rattle.st_marks.specs.declared.verdicts.Verdict.{Verdict}
use Rattle.st_marks.specs.Document.{Document}
use Rattle.st_marks.specs.Run.{Run}
use Rattle.st_read_laws.specs.Reading.{IsRead, IsStepRead}
use Rattle.st_valid.specs.Author.{author_list}
use Rattle.st_valid.specs.Context.{AuthorsIntent}
use Rattle.st_valid.specs.declared.message.Message.{Message}
use Rattle.st_valid.specs.declared.message.ReplayCause.{ReplayCause}
use Rattle.st_valid.specs.declared.message.ReplayCause.TheVariants as cause
use Rattle.st_valid.specs.declared.message.Said.{Said}
use Rattle.st_valid.specs.declared.message.Said.TheVariants as said
use Rattle.st_valid_laws.specs.Messages.{IsBodyOf, IsFirstFailing, IsValid, Passes, in_order}
use Rattle.st_valid_laws.specs.Taking.{HasVerdict, IsEnteredAs}
use Rattle.st_manager.specs.Told.{IsLocal, IsNextTold, Told, local_list}
use Rattle.st_manager.specs.declared.calls.Received.{Received}
use Rattle.st_manager.specs.declared.calls.ReceiveFault.{ReceiveFault}

-- ## The tests

-- the change of what is said, if it says one whose names all have ids
abbrev pub change_said : Said → Option Change
change_said (said.Join uuid) = None
change_said said.Leave = None
change_said (said.Ack reference) = None
change_said (said.Commit reference ids change) = change

-- the first pending commit has the revision of this change
abbrev pub IsFirstPending : Told → Option Change → Type 0
IsFirstPending t None = Unit {0}
IsFirstPending t (Some C) = (N : Intent) × (Ns : List Intent) × (t.pending ≡ N ∷ Ns) × (N.rev ≡ C.rev)

-- the first pending commit is what the change says in its author's document
abbrev pub SaysFirstPending : Told → ℕ → Said → Type 0
SaysFirstPending t session (said.Join uuid) = Unit {0}
SaysFirstPending t session said.Leave = Unit {0}
SaysFirstPending t session (said.Ack reference) = Unit {0}
SaysFirstPending t session (said.Commit reference ids None) = Unit {0}
SaysFirstPending t session (said.Commit reference ids (Some C)) =
    (a : AuthorsIntent t.opening t.log session reference C) × (Ns : List Intent) × (t.pending ≡ a.intent ∷ Ns)

-- what is asked of a message of the own session besides: only the first pending commit comes back
abbrev pub PassesAsOwn : Told → Message → ReplayCause → Type 0
PassesAsOwn t m cause.Shape = Unit {0}
PassesAsOwn t m cause.Sequence = Unit {0}
PassesAsOwn t m cause.Session = Unit {0}
PassesAsOwn t m cause.Window = Unit {0}
PassesAsOwn t m cause.RefBack = Unit {0}
PassesAsOwn t m cause.Ids = Unit {0}
PassesAsOwn t m cause.Revision = IsFirstPending t (change_said m.said)
PassesAsOwn t m cause.Limit = Unit {0}
PassesAsOwn t m cause.Context = SaysFirstPending t m.session m.said
PassesAsOwn t m cause.Schema = Unit {0}

-- a message passes a test of the log, and that of the own session where it is of that one
abbrev pub PassesHere : Told → Message → ReplayCause → Type 0
PassesHere t m c = Passes t.opening t.log m c × (t.own ≡ Some m.session → PassesAsOwn t m c)

-- the cause of a refusal is the first test that isn't passed; one who stands for what was told isn't spent
abbrev pub IsFirstCause : Told → Message → ReceiveFault → Type 0
IsFirstCause t m (ReceiveFault.Refused c) = IsFirstFailing (PassesHere t m) in_order c
IsFirstCause t m ReceiveFault.Spent = ⊥

-- ## After it

-- what is told with an entry leaves room in each row
abbrev pub LeavesRoom : Told → Message → Type 0
LeavesRoom t m = (body : Body) (u : Told) → IsBodyOf t.opening t.log m.session m.said body → IsNextTold t m.session body u → HasRoom u.opening (local_list u)

-- a step leads from the local view of one to that of the other
pub record IsLocalStep (l : Bool) (t u : Told) (r : Received) : Type 0 where
  pub before : Document
  pub after : Document
  pub to_before : IsLocal t before
  pub to_after : IsLocal u after
  pub step : IsStepRead l before after r.step

-- the message passes every test and enters the log, and u is what was told with it; what is answered is the verdict of its commit
-- behind those received before, or Sound where it has none, and the step of the local view
pub record IsTaken (l : Bool) (t : Told) (m : Message) (u : Told) (r : Received) : Type 0 where
  pub verdict : Option Verdict
  pub entered : IsEnteredAs t.opening t.log m u.log verdict
  pub next : IsNextTold t m.session entered.body u
  pub answered : r.verdict ≡ unwrap_or verdict Verdict.Sound
  pub step : IsLocalStep l t u r

-- ## A commit that is known

-- N is the commit of a valid message of a session, and C its change in the document over which the session wrote
pub record IsKnownAs (l : Bool) (t : Told) (session reference : ℕ) (ids : IdRange) (C : Change) (N : Intent) : Type 0 where
  pub message : Message
  pub of : message.session ≡ session
  pub valid : IsValid t.opening t.log message
  pub says : IsBodyOf t.opening t.log session message.said (Commit reference ids N)
  pub author : Document
  pub to_author : Run t.opening (author_list t.log session reference) author
  pub change : IsRead l author N C

-- its verdict behind the commits received before, and the step of the local view
pub record IsKnownTaken (l : Bool) (t u : Told) (N : Intent) (r : Received) : Type 0 where
  pub verdict : HasVerdict t.opening t.log N (Some r.verdict)
  pub step : IsLocalStep l t u r

-- ## What a session is known to say

-- a session says so in a message that is valid
pub record IsKnownToSay (t : Told) (session : ℕ) (says : Said) : Type 0 where
  pub message : Message
  pub of : message.session ≡ session
  pub valid : IsValid t.opening t.log message
  pub says_so : message.said ≡ says
