-- The answers to an input.
use Rattle.std.specs.Prelude.{◌≡◌, ◌⊎◌, ℕ, ◌+◌, Bool, true, false, length, List, [], ◌∷◌}
use Rattle.st_json.specs.declared.fault.BadCause.{BadCause}
use Rattle.st_pieces.specs.Lines.{Line, cut, is_long}
use Rattle.st_answers.specs.Algebra.{algebra}
use Rattle.st_answers.specs.Compat.{compat}
use Rattle.st_answers.specs.Endings.{Output, bad_line, before, cut_short, end_line, ended, long_output}
use Rattle.st_answers.specs.Meaning.{EndsBy, Meaning}
use Rattle.st_answers.specs.Replay.{replay}
use Rattle.st_answers.specs.Trace.{trace}
use Rattle.st_answers.specs.declared.cause.EndCause.{EndCause}
use Rattle.st_answers.specs.declared.command.Command.{Command}
use Rattle.st_answers.specs.declared.command.Command.TheVariants.{Trace, Replay, Compat, Algebra}

-- the whole, or nothing of it where something failed before
abbrev pub OrCutShort : (Output → Type 0) → Output → Type 0
OrCutShort Wanted out = (out ≡ cut_short) ⊎ Wanted out

-- a line is answered, and what follows it
pub record AnswersTaken (m : Meaning) (s : m.State) (n : ℕ) (line : List ℕ) (Rest : m.State → Output → Type 0) (out : Output) : Type 0 where
  pub told : List ℕ
  pub state : m.State
  pub rest : Output
  pub takes : m.Takes s n line told state
  pub follows : Rest state rest
  pub whole : out ≡ before told rest

-- a line is bad or refused, and nothing follows it
pub record AnswersLast (m : Meaning) (s : m.State) (n : ℕ) (line : List ℕ) (out : Output) : Type 0 where
  pub cause : EndCause
  pub is : EndsBy m s line cause
  pub whole : out ≡ end_line n cause

-- a line ends the answers where it is too long, whatever it says
abbrev pub AnswersLine : (m : Meaning) → Bool → m.State → ℕ → List ℕ → (m.State → Output → Type 0) → Output → Type 0
AnswersLine m true s n line Rest out = out ≡ long_output n
AnswersLine m false s n line Rest out = AnswersTaken m s n line Rest out ⊎ AnswersLast m s n line out

-- the end of the input
abbrev pub AnswersEnd : (m : Meaning) → m.State → ℕ → Output → Type 0
AnswersEnd m s n out =
    ((last : List ℕ) × m.Finishes s last × (out ≡ ended last))
    ⊎ ((c : BadCause) × m.Lacks s c × (out ≡ bad_line n c))

-- the answers to the lines from the n-th on, before which stand so many bytes; or to some first ones of them where
-- something failed
abbrev pub AnswersFrom : (m : Meaning) → m.State → ℕ → ℕ → List Line → Output → Type 0
AnswersFrom m s n start [] out = OrCutShort (AnswersEnd m s n) out
AnswersFrom m s n start (l ∷ ls) out =
    OrCutShort (AnswersLine m (is_long n start l) s n l.bytes
    (λ v. AnswersFrom m v (n + 1) (start + length l.bytes + l.feed) ls)) out

abbrev pub meaning_of : Command → Meaning
meaning_of Trace = trace
meaning_of Replay = replay
meaning_of Compat = compat
meaning_of Algebra = algebra

-- a command over an input
abbrev pub Answers : Command → List ℕ → Output → Type 0
Answers c bytes = AnswersFrom (meaning_of c) (meaning_of c).first 1 0 (cut bytes)
