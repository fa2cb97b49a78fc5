-- What a replay is: a header, and then messages, each of which enters the log; at the end the tree of the log is told.
use Rattle.std.specs.Prelude.{◌≡◌, ℕ, List, [], ◌∷◌, ◌++◌, Option, Some, None, Ok, Err, codes}
use Rattle.serde_json.specs.Data.{Data, null, number, unsigned, string, object, no_members, member}
use Rattle.serde_json.specs.Written.{compact_text}
use Rattle.st_edits.specs.ArrayTypes.{is_array_type}
use Rattle.st_edits.specs.InEffect.{schema_in_effect}
use Rattle.st_json.specs.Line.{line_value}
use Rattle.st_json.specs.declared.fault.BadCause.{BadCause}
use Rattle.st_json.specs.declared.fault.BadCause.TheVariants.{Json, Header}
use Rattle.st_lists.specs.Log.{commits_in}
use Rattle.st_lists.specs.declared.lists.Entry.{Entry}
use Rattle.st_marks.specs.Document.{Document}
use Rattle.st_marks.specs.LiveTree.{IsTreeText}
use Rattle.st_marks.specs.Run.{Run}
use Rattle.st_marks.specs.declared.verdicts.Verdict.{Verdict}
use Rattle.st_script.specs.AnswerText.{answer_line, void_data}
use Rattle.st_script.specs.Header.{HeaderView, header_line}
use Rattle.st_script.specs.declared.answer.Answer.TheVariants as answer
use Rattle.st_valid.specs.declared.message.ReplayCause.{ReplayCause}
use Rattle.st_valid_laws.specs.Shape.{IsValueRefusedFor}
use Rattle.st_valid_laws.specs.Taking.{IsTaken}
use Rattle.st_world.specs.World.{opening_document}
use Rattle.st_answers.specs.Meaning.{Meaning}

-- no header was read yet, or one was, and this is the log
pub data ReplayState : Type 0 where
  unopened : ReplayState
  opened : HeaderView → List Entry → ReplayState

-- a line is a header, which opens the empty log
pub record IsReplayOpening (line text : List ℕ) (t : ReplayState) : Type 0 where
  pub header : HeaderView
  pub is : header_line (codes "replay") line ≡ Ok header
  pub told : text ≡ answer_line answer.Header
  pub state : t ≡ opened header []

-- ## Messages

-- why the commit of an entry is void, and null for one in effect and where there is no commit
abbrev pub void_told : Option Verdict → Data
void_told None = null
void_told (Some v) = void_data v

abbrev pub taken_data : ℕ → Option Verdict → Data
taken_data n v = object (member (codes "n") (number (unsigned n)) (member (codes "ok") (string (codes "message")) (member (codes "void") (void_told v) no_members)))

-- the line that says that a message was taken
abbrev pub taken_line : ℕ → Option Verdict → List ℕ
taken_line n v = compact_text (taken_data n v) ++ 10 ∷ []

-- a line is a valid message, which enters the log
pub record IsMessageLine (h : HeaderView) (log : List Entry) (line text : List ℕ) (t : ReplayState) : Type 0 where
  pub value : Data
  pub is : line_value line ≡ Some value
  pub after : List Entry
  pub number : ℕ
  pub void : Option Verdict
  pub taken : IsTaken (opening_document h) log value after number void
  pub told : text ≡ taken_line number void
  pub state : t ≡ opened h after

-- a line is a value that is no valid message
pub record IsRefusedLine (h : HeaderView) (log : List Entry) (line : List ℕ) (c : ReplayCause) : Type 0 where
  pub value : Data
  pub is : line_value line ≡ Some value
  pub refused : IsValueRefusedFor (opening_document h) log value c

-- ## The end

-- the tree that the document of a log shows, as a client shows it that received the log and has nothing pending
pub record IsLogShown (O : Document) (log : List Entry) (text : List ℕ) : Type 0 where
  pub document : Document
  pub ran : Run O (commits_in log) document
  pub tree : List ℕ
  pub shown : IsTreeText (is_array_type (schema_in_effect document)) document tree
  pub told : text ≡ answer_line (answer.Show tree)

-- ## Lines

abbrev pub TakesReplay : ReplayState → ℕ → List ℕ → List ℕ → ReplayState → Type 0
TakesReplay unopened n line told t = IsReplayOpening line told t
TakesReplay (opened h log) n line told t = IsMessageLine h log line told t

-- a line that follows the header is bad where it is no JSON; any other value is a message or is refused
abbrev pub IsBadInReplay : ReplayState → List ℕ → BadCause → Type 0
IsBadInReplay unopened line c = header_line (codes "replay") line ≡ Err c
IsBadInReplay (opened h log) line c = (line_value line ≡ None) × (c ≡ Json)

abbrev pub IsRefusedInReplay : ReplayState → List ℕ → ReplayCause → Type 0
IsRefusedInReplay unopened line c = ⊥
IsRefusedInReplay (opened h log) line c = IsRefusedLine h log line c

abbrev pub FinishesReplay : ReplayState → List ℕ → Type 0
FinishesReplay unopened last = ⊥
FinishesReplay (opened h log) last = IsLogShown (opening_document h) log last

abbrev pub LacksInReplay : ReplayState → BadCause → Type 0
LacksInReplay unopened c = c ≡ Header
LacksInReplay (opened h log) c = ⊥

abbrev pub replay : Meaning
replay = record {
  State = ReplayState;
  first = unopened;
  Takes = TakesReplay;
  IsBad = IsBadInReplay;
  IsRefused = IsRefusedInReplay;
  Finishes = FinishesReplay;
  Lacks = LacksInReplay;
}
