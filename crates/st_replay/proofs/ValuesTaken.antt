-- Values that are taken as the message that they are read as.
use Rattle.std.proofs.Common.{◌≡◌, ℕ, List, Option, Some, sym, subst}
use Rattle.serde_json.specs.Data.{Data}
use Rattle.st_lists.specs.declared.lists.Entry.{Entry}
use Rattle.st_marks.specs.Document.{Document}
use Rattle.st_marks.specs.declared.verdicts.Verdict.{Verdict}
use Rattle.st_valid.specs.declared.message.Message.{Message}
use Rattle.st_valid.specs.declared.message.ReplayCause.{ReplayCause}
use Rattle.st_valid_laws.specs.Shape.{IsRead, IsValueRefusedFor}
use Rattle.st_valid_laws.specs.Taking.{IsTaken}
use Rattle.st_valid_laws.proofs.Readings.{refused_as_message}
use Rattle.st_replay.specs.Stands.{StandsAt}
use Rattle.st_replay.specs.inside.Taking.{IsEntered, IsRefused, IsStanding, opening_of}
use Rattle.st_replay.specs.declared.replay.Replay.{Replay}

-- one that stands for a log stands for its own entries
pub stands_itself : (r : Replay) (O : Document) (log : List Entry) → StandsAt r O log → IsStanding r
stands_itself r O log h = subst (λ (D : Document). StandsAt r D r.log) (sym h.authors.opened) (subst (StandsAt r O) (sym h.entries) h)

module _ (r s : Replay) (O : Document) (log : List Entry) (d : Data) (m : Message) (h : StandsAt r O log) (read : IsRead r.log d (Some m)) where
  pub taken : (n : ℕ) (v : Option Verdict) → n ≡ m.n → IsEntered r m v s → (after : List Entry) × IsTaken O log d after n v × StandsAt s O after
  taken n v number e = (
    e.0,
    subst (λ (D : Document). IsTaken D log d e.0 n v) h.authors.opened (subst (λ es. IsTaken (opening_of r) es d e.0 n v) h.entries (record { message = m; read = read; number = number; enters = e.1 })),
    subst (λ (D : Document). StandsAt s D e.0) h.authors.opened e.2,
  )

  pub refused : (c : ReplayCause) → IsRefused r m c s → IsValueRefusedFor O log d c × StandsAt s O log
  refused c e = (
    subst (λ (D : Document). IsValueRefusedFor D log d c) h.authors.opened (subst (λ es. IsValueRefusedFor (opening_of r) es d c) h.entries (refused_as_message (opening_of r) r.log d m read c e.0)),
    subst (λ (D : Document). StandsAt s D log) h.authors.opened (subst (StandsAt s (opening_of r)) h.entries e.1),
  )
