-- Which messages can be written, and which values spell a UUID as it is written.
use Rattle.std.specs.Prelude.{◌≡◌, ◌<◌, ◌^◌, ℕ, codes, Some, IsSome}
use Rattle.serde_json.specs.Data.{Data, string}
use Rattle.serde_json.specs.Find.{as_object, get}
use Rattle.st_idcodec.specs.TableText.{uuid_text}
use Rattle.st_msg.specs.Messages.{SaidView, Join, Leave, Ack, Commit, MessageView}

-- numbers are below 2^32, a UUID has 128 bits, a commit's ids are of its session, and its change is an object
abbrev pub SaidIsWithin : ℕ → SaidView → Type 0
SaidIsWithin s (Join uuid) = uuid < 2 ^ 128
SaidIsWithin s Leave = Unit {0}
SaidIsWithin s (Ack reference) = reference < 2 ^ 32
SaidIsWithin s (Commit reference ids change) = (reference < 2 ^ 32) × (ids.session ≡ s) × (ids.first < 2 ^ 32) × (ids.count < 2 ^ 32) × IsSome (as_object change)

pub record IsWithin (m : MessageView) : Type 0 where
  pub n : m.n < 2 ^ 32
  pub min : m.min < 2 ^ 32
  pub session : m.session < 2 ^ 32
  pub said : SaidIsWithin m.session m.said

-- a join's UUID is spelled in lower case with hyphens
abbrev pub SaidIsSpelled : Data → SaidView → Type 0
SaidIsSpelled d (Join uuid) = get (codes "uuid") d ≡ Some (string (uuid_text uuid))
SaidIsSpelled d Leave = Unit {0}
SaidIsSpelled d (Ack reference) = Unit {0}
SaidIsSpelled d (Commit reference ids change) = Unit {0}

abbrev pub IsSpelled : Data → MessageView → Type 0
IsSpelled d m = SaidIsSpelled d m.said
