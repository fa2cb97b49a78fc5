-- What stands for the states of a replay, and what a message is replied.
use Rattle.std.specs.Prelude.{◌≡◌, ℕ, List, Option, Some, None}
use Rattle.serde_json.specs.Data.{Data}
use Rattle.st_answers.specs.Endings.{refused_text}
use Rattle.st_answers.specs.Replay.{IsLogShown, ReplayState, opened, taken_line, unopened}
use Rattle.st_answers.specs.declared.cause.EndCause.{EndCause}
use Rattle.st_answers.specs.declared.cause.EndCause.TheVariants.{Refused}
use Rattle.st_lists.specs.declared.lists.Entry.{Entry}
use Rattle.st_marks.specs.Document.{Document}
use Rattle.st_marks.specs.declared.verdicts.Verdict.{Verdict}
use Rattle.st_pieces.specs.declared.responder.Reply.{Reply}
use Rattle.st_pieces.specs.declared.responder.Reply.TheVariants.{Goes, Ends}
use Rattle.st_replay.specs.Stands.{StandsAt}
use Rattle.st_replay.specs.declared.replay.Replay.{Replay}
use Rattle.st_run.specs.declared.replay.Replaying.{Replaying}
use Rattle.st_valid.specs.declared.message.ReplayCause.{ReplayCause}
use Rattle.st_valid_laws.specs.Shape.{IsValueRefusedFor}
use Rattle.st_valid_laws.specs.Taking.{IsTaken}
use Rattle.st_world.specs.World.{opening_document}
use Rattle.st_world_laws.specs.Worlds.{IsHeader}

-- a value is taken as the next message, and told; or it is refused
abbrev pub IsMessageReply : ℕ → Document → List Entry → Data → (List Entry → Type 0) → Reply EndCause → Type 0
IsMessageReply number O log d After (Goes text) = (after : List Entry) × (n : ℕ) × (v : Option Verdict) × IsTaken O log d after n v × (text.items ≡ taken_line n v) × After after
IsMessageReply number O log d After (Ends text e) = (c : ReplayCause) × IsValueRefusedFor O log d c × (e ≡ Refused c) × (text.items ≡ refused_text number c)

-- the tree of a log is told
abbrev pub IsTreeReply : Document → List Entry → Reply EndCause → Type 0
IsTreeReply O log (Goes text) = IsLogShown O log text.items
IsTreeReply O log (Ends text e) = ⊥

-- a replay stands for an opened state
abbrev pub IsReplayAt : Replay → ReplayState → Type 0
IsReplayAt r unopened = ⊥
IsReplayAt r (opened h log) = IsHeader h × StandsAt r (opening_document h) log

-- there is a replay, which stands for it
abbrev pub IsReplayIn : Option Replay → ReplayState → Type 0
IsReplayIn o t = (r : Replay) × (o ≡ Some r) × IsReplayAt r t

-- what stands for a state before the line of a number: before the first line there is no replay
abbrev pub StandsForReplay : Replaying → ℕ → ReplayState → Type 0
StandsForReplay x n unopened = x.replay ≡ None
StandsForReplay x n (opened h log) = IsReplayIn x.replay (opened h log)
