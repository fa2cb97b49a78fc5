-- What a trace is: a header, and then steps, and lines that ask for the texts of entries.
use Rattle.std.specs.Prelude.{◌≡◌, ◌⊎◌, ℕ, ◌<◌, List, [], ◌∷◌, ◌++◌, length, Option, Some, None, Ok, Err, option_and_then, codes, if◌then◌else◌}
use Rattle.serde_json.specs.Data.{Data, string, object, member, no_members}
use Rattle.serde_json.specs.Written.{compact_text}
use Rattle.st_json.specs.Line.{line_value}
use Rattle.st_json.specs.Look.{has_only}
use Rattle.st_json.specs.declared.fault.BadCause.{BadCause}
use Rattle.st_json.specs.declared.fault.BadCause.TheVariants.{Header}
use Rattle.st_lists.specs.Clients.{empty_state}
use Rattle.st_lists.specs.declared.lists.Entry.{Entry}
use Rattle.st_lists.specs.declared.lists.WorldState.{WorldState}
use Rattle.st_marks.specs.Document.{Document}
use Rattle.st_msg.specs.Messages.{MessageView, message_data}
use Rattle.st_schema.specs.Schema.{same}
use Rattle.st_script.specs.AnswerText.{answer_line, no_data}
use Rattle.st_script.specs.Header.{HeaderView, header_line}
use Rattle.st_script.specs.Line.{step_of_line}
use Rattle.st_script.specs.Members.{number_in}
use Rattle.st_script.specs.Steps.{StepView, step_word}
use Rattle.st_script.specs.declared.answer.Answer.{Answer}
use Rattle.st_script.specs.declared.answer.Answer.TheVariants as answer
use Rattle.st_texts.specs.Texts.{IsMessageOf}
use Rattle.st_world.specs.World.{IsNext, opening_document}
use Rattle.st_answers.specs.Meaning.{Meaning}

-- no header was read yet, or one was, and the lists of its world are these
pub data TraceState : Type 0 where
  unopened : TraceState
  opened : HeaderView → WorldState → TraceState

-- a line is a header, which opens the empty world
pub record IsOpening (line text : List ℕ) (t : TraceState) : Type 0 where
  pub header : HeaderView
  pub is : header_line (codes "trace") line ≡ Ok header
  pub told : text ≡ answer_line answer.Header
  pub state : t ≡ opened header empty_state

-- a line is a step, which is answered
pub record IsStep (h : HeaderView) (w : WorldState) (line text : List ℕ) (t : TraceState) : Type 0 where
  pub step : StepView
  pub answer : Answer
  pub world : WorldState
  pub is : step_of_line line ≡ Ok step
  pub next : IsNext h w step world answer
  pub told : text ≡ answer_line answer
  pub state : t ≡ opened h world

-- ## Texts

-- the number that stands beside the word `text`
abbrev pub number_beside : List ℕ → Data → Option ℕ
number_beside word d = if same word (codes "text") then number_in (codes "n") d else None

-- the entry whose text a value asks for, if it asks for one: `{"do":"text","n":n}`
abbrev pub asked_by : Data → Option ℕ
asked_by d = if has_only (codes "do n") d then option_and_then (λ word. number_beside word d) (step_word d) else None

abbrev pub entry_asked : List ℕ → Option ℕ
entry_asked line = option_and_then asked_by (line_value line)

-- the line of a message
abbrev pub message_line : MessageView → List ℕ
message_line m = compact_text (object (member (codes "msg") (message_data m) (member (codes "ok") (string (codes "text")) no_members))) ++ 10 ∷ []

-- the line that says that there is no such entry
abbrev pub no_entry_line : List ℕ
no_entry_line = compact_text (no_data (codes "NoEntry")) ++ 10 ∷ []

-- no entry has the number, counted from 1
abbrev pub IsNoEntry : List Entry → ℕ → Type 0
IsNoEntry log n = (n ≡ 0) ⊎ (length log < n)

-- what one is told who asks for the text of an entry: that there is none, or its message
abbrev pub IsEntryTold : Document → List Entry → ℕ → List ℕ → Type 0
IsEntryTold O log n told = (IsNoEntry log n × (told ≡ no_entry_line)) ⊎ ((m : MessageView) × IsMessageOf O log n m × (told ≡ message_line m))

-- a line is no step, and asks for the text of an entry, which is told; the lists stay
pub record IsTextLine (h : HeaderView) (w : WorldState) (line text : List ℕ) (t : TraceState) : Type 0 where
  pub entry : ℕ
  pub cause : BadCause
  pub no_step : step_of_line line ≡ Err cause
  pub asks : entry_asked line ≡ Some entry
  pub told : IsEntryTold (opening_document h) w.log entry text
  pub state : t ≡ opened h w

-- ## Lines

abbrev pub TakesTrace : TraceState → ℕ → List ℕ → List ℕ → TraceState → Type 0
TakesTrace unopened n line told t = IsOpening line told t
TakesTrace (opened h w) n line told t = IsStep h w line told t ⊎ IsTextLine h w line told t

abbrev pub IsBadInTrace : TraceState → List ℕ → BadCause → Type 0
IsBadInTrace unopened line c = header_line (codes "trace") line ≡ Err c
IsBadInTrace (opened h w) line c = (step_of_line line ≡ Err c) × (entry_asked line ≡ None)

abbrev pub FinishesTrace : TraceState → List ℕ → Type 0
FinishesTrace unopened last = ⊥
FinishesTrace (opened h w) last = last ≡ []

abbrev pub LacksInTrace : TraceState → BadCause → Type 0
LacksInTrace unopened c = c ≡ Header
LacksInTrace (opened h w) c = ⊥

abbrev pub trace : Meaning
trace = record { State = TraceState; first = unopened; Takes = TakesTrace; IsBad = IsBadInTrace; IsRefused = λ s line c. ⊥; Finishes = FinishesTrace; Lacks = LacksInTrace }
