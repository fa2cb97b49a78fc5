-- Two parts of a commit, and a step over which both go.
use Rattle.st_marks.specs.declared.changes.Change.{Change}
use Rattle.st_marks.specs.declared.intents.Intent.{Intent}
use Rattle.st_marks.specs.declared.steps.Step.{Step}
use Rattle.st_marks.specs.CarryOut.{full}
use Rattle.st_marks.specs.Document.{Document, HasShortRows}
use Rattle.st_marks.specs.Embedding.{IsEmbedding}
use Rattle.st_marks.specs.Extends.{IsExtendedBy}
use Rattle.st_marks.specs.Intent.{Fits}
use Rattle.st_marks.specs.Join.{AreParts, IsJoin}
use Rattle.st_marks.specs.Step.{IsStep}

-- C and K are the changes of two parts N and M of a commit, whose join is J, and S leads from D to E, where both fit too; both leave
-- rows short, before the step and after it
pub record AreOver (D E : Document) (N M J : Intent) (C K : Change) (S : Step) : Type 0 where
  pub extends : IsExtendedBy D E
  pub step : IsStep D E S
  pub parts : AreParts D N M
  pub first_fits : Fits E N
  pub then_fits : Fits (full E N) M
  pub join : IsJoin N M J
  pub first_short : HasShortRows (full D N)
  pub both_short : HasShortRows (full (full D N) M)
  pub first_short_later : HasShortRows (full E N)
  pub both_short_later : HasShortRows (full (full E N) M)
  pub first : IsEmbedding D N C
  pub next : IsEmbedding (full D N) M K
