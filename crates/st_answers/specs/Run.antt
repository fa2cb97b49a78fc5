-- What of the answers was written at each outcome of a run.
use Rattle.std.specs.Prelude.{◌≡◌, ℕ, List, [], Option, Some, None, IfSome, option_and_then}
use Rattle.st_io.specs.Bytes.{Appends}
use Rattle.st_pieces.specs.Outcomes.{IsCutOff}
use Rattle.st_pieces.specs.Told.{AppendsPrefix}
use Rattle.st_words.specs.Table.{request_in}
use Rattle.st_words.specs.declared.request.Request.{Request}
use Rattle.st_words.specs.declared.request.Request.TheVariants as request
use Rattle.st_answers.specs.Answers.{Answers, OrCutShort, meaning_of}
use Rattle.st_answers.specs.Endings.{Output, usage_output}
use Rattle.st_answers.specs.Meaning.{EndsAt, FailsAt, FinishesAt, Meaning}
use Rattle.st_answers.specs.Work.{IsWorkOutput}
use Rattle.st_answers.specs.declared.command.Command.{Command}
use Rattle.st_answers.specs.declared.command.Command.TheVariants.{Trace, Replay, Compat, Algebra}
use Rattle.st_answers.specs.declared.outcome.Outcome.{Outcome}
use Rattle.st_answers.specs.declared.outcome.Outcome.TheVariants.{Done, Usage, BadLine, Refused, TooLong, ReadFault, WriteFault, NoMemory}

-- what was written is all that is told, and that ends so
abbrev pub WritesAll : Option (List ℕ) → Option (List ℕ) → (Output → Type 0) → Outcome → Type 0
WritesAll old new Wanted o = (out : Output) × Wanted out × (out.outcome ≡ o) × Appends old out.bytes new

-- what was written is a front of what is told
abbrev pub WritesPrefix : Option (List ℕ) → Option (List ℕ) → (Output → Type 0) → Type 0
WritesPrefix old new Wanted = (out : Output) × Wanted out × AppendsPrefix old out.bytes new

-- where that is to be told, what was written at an outcome: all of it, or a front of it where memory or the sink failed
abbrev pub IsOutput : Option (List ℕ) → Option (List ℕ) → (Output → Type 0) → Outcome → Type 0
IsOutput old new Wanted WriteFault = WritesPrefix old new Wanted
IsOutput old new Wanted NoMemory = WritesPrefix old new Wanted
IsOutput old new Wanted ReadFault = ⊥
IsOutput old new Wanted Done = WritesAll old new Wanted Done
IsOutput old new Wanted Usage = WritesAll old new Wanted Usage
IsOutput old new Wanted (BadLine n c) = WritesAll old new Wanted (BadLine n c)
IsOutput old new Wanted (Refused n c) = WritesAll old new Wanted (Refused n c)
IsOutput old new Wanted (TooLong n) = WritesAll old new Wanted (TooLong n)

-- the source failed: all lines that end within the bytes read are answered and written, and nothing else is
abbrev pub IsStopped : (m : Meaning) → Option (List ℕ) → Option (List ℕ) → Option (List ℕ) → Option (List ℕ) → Type 0
IsStopped m left rest old new = IsCutOff m.Takes (EndsAt m) (FinishesAt m) (FailsAt m) m.first left old rest new

-- the commands over the lines of an input, among those that words can be
abbrev pub command_asked : Request → Option Command
command_asked request.Trace = Some Trace
command_asked request.Replay = Some Replay
command_asked request.Algebra = Some Algebra
command_asked request.Compat = Some Compat
command_asked (request.Work seed steps) = None

-- the command over lines that the words are
abbrev pub command_of : List (List ℕ) → Option Command
command_of words = option_and_then command_asked (request_in words)

-- the answers to the bytes that the source had left; at `Done` none are left
abbrev pub IsCarriedOut : Command → Option (List ℕ) → Option (List ℕ) → Option (List ℕ) → Option (List ℕ) → Outcome → Type 0
IsCarriedOut c left rest old new Usage = ⊥
IsCarriedOut c left rest old new ReadFault = IsStopped (meaning_of c) left rest old new
IsCarriedOut c left rest old new Done = IfSome left (λ bytes. (rest ≡ Some []) × IsOutput old new (Answers c bytes) Done)
IsCarriedOut c left rest old new (BadLine n cause) = IfSome left (λ bytes. IsOutput old new (Answers c bytes) (BadLine n cause))
IsCarriedOut c left rest old new (Refused n cause) = IfSome left (λ bytes. IsOutput old new (Answers c bytes) (Refused n cause))
IsCarriedOut c left rest old new (TooLong n) = IfSome left (λ bytes. IsOutput old new (Answers c bytes) (TooLong n))
IsCarriedOut c left rest old new WriteFault = IfSome left (λ bytes. IsOutput old new (Answers c bytes) WriteFault)
IsCarriedOut c left rest old new NoMemory = IfSome left (λ bytes. IsOutput old new (Answers c bytes) NoMemory)

abbrev pub IsAnsweredAs : Option Command → Option (List ℕ) → Option (List ℕ) → Option (List ℕ) → Option (List ℕ) → Outcome → Type 0
IsAnsweredAs (Some c) left rest old new outcome = IsCarriedOut c left rest old new outcome
IsAnsweredAs None left rest old new outcome = (rest ≡ left) × IsOutput old new (λ (out : Output). out ≡ usage_output) outcome

-- the line of a load; nothing of the source is read
abbrev pub IsLoadTold : ℕ → ℕ → Option (List ℕ) → Option (List ℕ) → Option (List ℕ) → Option (List ℕ) → Outcome → Type 0
IsLoadTold seed steps left rest old new outcome = (rest ≡ left) × IsOutput old new (OrCutShort (IsWorkOutput seed steps)) outcome

abbrev pub IsAnsweredTo : Option Request → Option (List ℕ) → Option (List ℕ) → Option (List ℕ) → Option (List ℕ) → Outcome → Type 0
IsAnsweredTo None left rest old new outcome = IsAnsweredAs None left rest old new outcome
IsAnsweredTo (Some request.Trace) left rest old new outcome = IsAnsweredAs (Some Trace) left rest old new outcome
IsAnsweredTo (Some request.Replay) left rest old new outcome = IsAnsweredAs (Some Replay) left rest old new outcome
IsAnsweredTo (Some request.Algebra) left rest old new outcome = IsAnsweredAs (Some Algebra) left rest old new outcome
IsAnsweredTo (Some request.Compat) left rest old new outcome = IsAnsweredAs (Some Compat) left rest old new outcome
IsAnsweredTo (Some (request.Work seed steps)) left rest old new outcome = IsLoadTold seed steps left rest old new outcome

-- what a run wrote by its words, from what its source had left before and after: words that are no command get the
-- usage line, and nothing of the source is read
abbrev pub IsAnswered : List (List ℕ) → Option (List ℕ) → Option (List ℕ) → Option (List ℕ) → Option (List ℕ) → Outcome → Type 0
IsAnswered words = IsAnsweredTo (request_in words)

-- the words and the bytes decide how it ends: neither memory nor the source nor the sink failed
abbrev pub NothingFailed : Outcome → Type 0
NothingFailed Done = Unit {0}
NothingFailed Usage = Unit {0}
NothingFailed (BadLine n c) = Unit {0}
NothingFailed (Refused n c) = Unit {0}
NothingFailed (TooLong n) = Unit {0}
NothingFailed ReadFault = ⊥
NothingFailed WriteFault = ⊥
NothingFailed NoMemory = ⊥
