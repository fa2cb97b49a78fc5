-- What is told, and the lines at which a run ends.
use Rattle.std.specs.Prelude.{ℕ, List, [], ◌∷◌, ◌++◌, codes}
use Rattle.serde_json.specs.Data.{Data, number, unsigned, string, object, no_members, member}
use Rattle.serde_json.specs.Written.{compact_text}
use Rattle.st_json.specs.declared.fault.BadCause.{BadCause}
use Rattle.st_json.specs.declared.fault.BadCause.TheVariants.{Json, Header, Shape, NotNormal}
use Rattle.st_pieces.specs.Told.{long_line}
use Rattle.st_valid.specs.declared.message.ReplayCause.{ReplayCause}
use Rattle.st_valid.specs.declared.message.ReplayCause.TheVariants as cause
use Rattle.st_answers.specs.declared.cause.EndCause.{EndCause}
use Rattle.st_answers.specs.declared.cause.EndCause.TheVariants as why
use Rattle.st_answers.specs.declared.outcome.Outcome.{Outcome}
use Rattle.st_answers.specs.declared.outcome.Outcome.TheVariants.{Done, Usage, BadLine, Refused, TooLong, NoMemory}

-- what is told, and how it ends
pub record Output : Type 0 where
  pub bytes : List ℕ
  pub outcome : Outcome

abbrev pub before : List ℕ → Output → Output
before line out = record { bytes = line ++ out.bytes; outcome = out.outcome }

-- all is told
abbrev pub ended : List ℕ → Output
ended last = record { bytes = last; outcome = Done }

abbrev pub cause_name : BadCause → List ℕ
cause_name Json = codes "Json"
cause_name Header = codes "Header"
cause_name Shape = codes "Shape"
cause_name NotNormal = codes "NotNormal"

abbrev pub bad_data : ℕ → BadCause → Data
bad_data n c = object (member (codes "bad") (string (cause_name c)) (member (codes "line") (number (unsigned n)) no_members))

-- the line that says that one is bad
abbrev pub bad_text : ℕ → BadCause → List ℕ
bad_text n c = compact_text (bad_data n c) ++ 10 ∷ []

abbrev pub refused_name : ReplayCause → List ℕ
refused_name cause.Shape = codes "Shape"
refused_name cause.Sequence = codes "Sequence"
refused_name cause.Session = codes "Session"
refused_name cause.Window = codes "Window"
refused_name cause.RefBack = codes "RefBack"
refused_name cause.Ids = codes "Ids"
refused_name cause.Revision = codes "Revision"
refused_name cause.Limit = codes "Limit"
refused_name cause.Context = codes "Context"
refused_name cause.Schema = codes "Schema"

abbrev pub refused_data : ℕ → ReplayCause → Data
refused_data n c = object (member (codes "line") (number (unsigned n)) (member (codes "refused") (string (refused_name c)) no_members))

-- the line that says that a message is refused
abbrev pub refused_text : ℕ → ReplayCause → List ℕ
refused_text n c = compact_text (refused_data n c) ++ 10 ∷ []

-- the line that says why a run ends at the line of a number, and the outcome
abbrev pub end_text : ℕ → EndCause → List ℕ
end_text n (why.Bad c) = bad_text n c
end_text n (why.Refused c) = refused_text n c

abbrev pub end_outcome : ℕ → EndCause → Outcome
end_outcome n (why.Bad c) = BadLine n c
end_outcome n (why.Refused c) = Refused n c

abbrev pub end_line : ℕ → EndCause → Output
end_line n c = record { bytes = end_text n c; outcome = end_outcome n c }

abbrev pub bad_line : ℕ → BadCause → Output
bad_line n c = end_line n (why.Bad c)

abbrev pub long_output : ℕ → Output
long_output n = record { bytes = long_line n; outcome = TooLong n }

abbrev pub usage_data : Data
usage_data = object (member (codes "usage") (string (codes "trace | replay | algebra | compat | work --seed N --steps M")) no_members)

abbrev pub usage_output : Output
usage_output = record { bytes = compact_text usage_data ++ 10 ∷ []; outcome = Usage }

-- what is told where memory or the outside failed before anything more was written
abbrev pub cut_short : Output
cut_short = record { bytes = []; outcome = NoMemory }
