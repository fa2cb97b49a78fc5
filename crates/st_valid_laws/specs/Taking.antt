-- How a valid message enters a log, and how its commit comes out there.
use Rattle.std.specs.Prelude.{◌≡◌, ℕ, List, Option, None, Some}
use Rattle.serde_json.specs.Data.{Data}
use Rattle.st_lists.specs.Log.{commits_in, log_with}
use Rattle.st_lists.specs.declared.lists.Body.{Body}
use Rattle.st_lists.specs.declared.lists.Body.TheVariants.{Join, Leave, Ack, Commit}
use Rattle.st_lists.specs.declared.lists.Entry.{Entry}
use Rattle.st_marks.specs.declared.intents.Intent.{Intent}
use Rattle.st_marks.specs.declared.verdicts.Verdict.{Verdict}
use Rattle.st_marks.specs.Document.{Document}
use Rattle.st_marks.specs.Run.{Run}
use Rattle.st_marks.specs.Verdict.{IsVerdict}
use Rattle.st_valid.specs.declared.message.Message.{Message}
use Rattle.st_valid_laws.specs.Messages.{IsBodyOf, IsValid}
use Rattle.st_valid_laws.specs.Shape.{IsRead}

-- an intent has a verdict behind the commits of a log
pub record HasVerdict (O : Document) (log : List Entry) (N : Intent) (v : Option Verdict) : Type 0 where
  pub document : Document
  pub ran : Run O (commits_in log) document
  pub verdict : Verdict
  pub is : IsVerdict document N verdict
  pub told : v ≡ Some verdict

-- how what an entry says comes out behind a log: a commit has a verdict, and nothing else has one
abbrev pub ComesOut : Document → List Entry → Body → Option Verdict → Type 0
ComesOut O log (Join uuid) v = v ≡ None
ComesOut O log Leave v = v ≡ None
ComesOut O log (Ack reference) v = v ≡ None
ComesOut O log (Commit reference ids N) v = HasVerdict O log N v

-- a message is valid and enters a log, which goes on by it
pub record IsEnteredAs (O : Document) (log : List Entry) (m : Message) (later : List Entry) (v : Option Verdict) : Type 0 where
  pub valid : IsValid O log m
  pub body : Body
  pub says : IsBodyOf O log m.session m.said body
  pub after : later ≡ log_with log m.session body
  pub verdict : ComesOut O log body v

-- a value is read as a message with a number, which enters the log
pub record IsTaken (O : Document) (log : List Entry) (d : Data) (after : List Entry) (n : ℕ) (v : Option Verdict) : Type 0 where
  pub message : Message
  pub read : IsRead log d (Some message)
  pub number : n ≡ message.n
  pub enters : IsEnteredAs O log message after v
