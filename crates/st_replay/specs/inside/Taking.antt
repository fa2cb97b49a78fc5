-- How a replay takes a message.
use Rattle.std.specs.Prelude.{ℕ, List, Option}
use Rattle.st_doc.specs.Doc.{document_of}
use Rattle.st_lists.specs.Log.{log_with}
use Rattle.st_lists.specs.declared.lists.Body.{Body}
use Rattle.st_lists.specs.declared.lists.Entry.{Entry}
use Rattle.st_marks.specs.Document.{Document}
use Rattle.st_marks.specs.declared.verdicts.Verdict.{Verdict}
use Rattle.st_valid.specs.declared.message.Message.{Message}
use Rattle.st_valid.specs.declared.message.ReplayCause.{ReplayCause}
use Rattle.st_valid_laws.specs.Messages.{IsRefusedFor, IsValidLog}
use Rattle.st_valid_laws.specs.Taking.{IsEnteredAs}
use Rattle.st_replay.specs.Stands.{StandsAt}
use Rattle.st_replay.specs.declared.replay.Replay.{Replay}

-- the document with which the log of a replay opens
abbrev pub opening_of : Replay → Document
opening_of r = document_of r.authors.opening

-- it stands for the log of its own entries
abbrev pub IsStanding : Replay → Type 0
IsStanding r = StandsAt r (opening_of r) r.log

-- an entry more makes a log of valid messages of its log
abbrev pub MayFollow : Replay → ℕ → Body → Type 0
MayFollow r session body = IsValidLog (opening_of r) (log_with r.log session body)

-- it went on by an entry
abbrev pub GoesOnBy : Replay → ℕ → Body → Replay → Type 0
GoesOnBy r session body s = StandsAt s (opening_of r) (log_with r.log session body)

-- a message enters its log, for which it stands then
abbrev pub IsEntered : Replay → Message → Option Verdict → Replay → Type 0
IsEntered r m v s = (after : List Entry) × IsEnteredAs (opening_of r) r.log m after v × StandsAt s (opening_of r) after

-- a message is refused, and it stands for the same log
abbrev pub IsRefused : Replay → Message → ReplayCause → Replay → Type 0
IsRefused r m c s = IsRefusedFor (opening_of r) r.log m c × StandsAt s (opening_of r) r.log
