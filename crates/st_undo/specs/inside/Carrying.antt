-- The change of an intent that makes nothing, as it goes over steps in turn.
use Rattle.std.specs.Prelude.{◌≡◌, Bool, List, [], ◌∷◌, None}
use Rattle.st_marks.specs.declared.changes.Change.{Change}
use Rattle.st_marks.specs.declared.intents.Intent.{Intent}
use Rattle.st_marks.specs.declared.steps.Step.{Step}
use Rattle.st_marks.specs.declared.verdicts.Verdict.{Verdict}
use Rattle.st_marks.specs.Document.{Document}
use Rattle.st_marks.specs.Extends.{IsExtendedBy}
use Rattle.st_marks.specs.Intent.{Fits}
use Rattle.st_marks.specs.Verdict.{IsVerdict}
use Rattle.st_read_laws.specs.Reading.{IsRead, IsStepRead}
use Rattle.st_window.specs.declared.kept.Kept.{Kept}

-- it makes no node and no cell, and doesn't change the schema
pub record MakesNothing (B : Intent) : Type 0 where
  pub nodes : B.new ≡ []
  pub cells : B.groups ≡ []
  pub schema : B.schema ≡ None

-- B fits the document D, C is its change there, and v its verdict
pub record Stands (l : Bool) (D : Document) (B : Intent) (C : Change) (v : Verdict) : Type 0 where
  pub fits : Fits D B
  pub verdict : IsVerdict D B v
  pub change : IsRead l D B C

-- over the step S a change and its verdict become those of its intent behind the step
abbrev pub GoesOver : Bool → Step → Change → Verdict → Change → Verdict → Type 0
GoesOver l S C v X u = (D E : Document) (B : Intent) → MakesNothing B → IsExtendedBy D E → IsStepRead l D E S → Stands l D B C v → Stands l E B X u

-- the steps of kept commits lead, one after the other, from D to F
pub data LeadInTurn (l : Bool) : Document → List Kept → Document → Type 0 where
  none_leads : {D : Document} → LeadInTurn l D [] D
  one_leads : {D F : Document} {k : Kept} {ks : List Kept} (E : Document) → IsExtendedBy D E → IsStepRead l D E k.step → LeadInTurn l E ks F → LeadInTurn l D (k ∷ ks) F
