-- A change and a step over documents, and what the change does there.
use Rattle.st_marks.specs.declared.changes.Change.{Change}
use Rattle.st_marks.specs.declared.intents.Intent.{Intent}
use Rattle.st_marks.specs.declared.steps.Step.{Step}
use Rattle.st_marks.specs.declared.verdicts.Verdict.{Verdict}
use Rattle.st_marks.specs.CarryOut.{full}
use Rattle.st_marks.specs.Document.{Document, HasShortRows, IsSoundInForm}
use Rattle.st_marks.specs.Embedding.{IsEmbedding}
use Rattle.st_marks.specs.Extends.{IsExtendedBy}
use Rattle.st_marks.specs.Intent.{Fits}
use Rattle.st_marks.specs.Step.{IsStep}
use Rattle.st_marks.specs.Verdict.{IsVerdict, carried_document}

-- the change lists an intent in a document from which the step leads to another; the intent fits both, leaves rows short in both,
-- and has a verdict in each
pub record StandTogether (C : Change) (S : Step) : Type 0 where
  pub earlier : Document
  pub later : Document
  pub intent : Intent
  pub before : Verdict
  pub after : Verdict
  pub extends : IsExtendedBy earlier later
  pub fits : Fits earlier intent
  pub fits_later : Fits later intent
  pub short : HasShortRows (full earlier intent)
  pub short_later : HasShortRows (full later intent)
  pub change : IsEmbedding earlier intent C
  pub step : IsStep earlier later S
  pub verdict : IsVerdict earlier intent before
  pub verdict_later : IsVerdict later intent after

-- wherever the change stands, the step leads from there to the document after the commit
abbrev pub IsDoneBy : Change → Step → Type 0
IsDoneBy C S = (D : Document) (N : Intent) (v : Verdict) → IsSoundInForm D → Fits D N → HasShortRows (full D N)
    → IsEmbedding D N C → IsVerdict D N v → IsStep D (carried_document v D N) S
