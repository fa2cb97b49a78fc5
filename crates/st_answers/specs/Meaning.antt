-- What a command makes of the lines of an input, one after the other.
use Rattle.std.specs.Prelude.{◌≡◌, ℕ, List}
use Rattle.st_json.specs.declared.fault.BadCause.{BadCause}
use Rattle.st_valid.specs.declared.message.ReplayCause.{ReplayCause}
use Rattle.st_answers.specs.Endings.{end_text}
use Rattle.st_answers.specs.declared.cause.EndCause.{EndCause}
use Rattle.st_answers.specs.declared.cause.EndCause.TheVariants.{Bad, Refused}

pub record Meaning : Type 1 where
  pub State : Type 0
  -- the state before the first line
  pub first : State
  -- the line of a number is answered with some bytes, and the state is another
  pub Takes : State → ℕ → List ℕ → List ℕ → State → Type 0
  -- a line is bad, and why
  pub IsBad : State → List ℕ → BadCause → Type 0
  -- a line is a message that is refused, and for what
  pub IsRefused : State → List ℕ → ReplayCause → Type 0
  -- the input may end here, and some bytes are told of that
  pub Finishes : State → List ℕ → Type 0
  -- a line is missing, and why the input may not end without it
  pub Lacks : State → BadCause → Type 0

-- a line ends the run, and why
abbrev pub EndsBy : (m : Meaning) → m.State → List ℕ → EndCause → Type 0
EndsBy m s line (Bad c) = m.IsBad s line c
EndsBy m s line (Refused c) = m.IsRefused s line c

-- the end of the input ends it so, where a line is missing
abbrev pub LacksFor : (m : Meaning) → m.State → EndCause → Type 0
LacksFor m s (Bad c) = m.Lacks s c
LacksFor m s (Refused c) = ⊥

-- a run ends at the line of a number, which is bad or refused
abbrev pub EndsAt : (m : Meaning) → m.State → ℕ → List ℕ → List ℕ → EndCause → Type 0
EndsAt m s n line last c = EndsBy m s line c × (last ≡ end_text n c)

-- a run ends at the end of the input, before the line of a number
abbrev pub FinishesAt : (m : Meaning) → m.State → ℕ → List ℕ → Type 0
FinishesAt m s n last = m.Finishes s last

-- and where that line is missing
abbrev pub FailsAt : (m : Meaning) → m.State → ℕ → List ℕ → EndCause → Type 0
FailsAt m s n last c = LacksFor m s c × (last ≡ end_text n c)
