-- What carries changes that stand in turn over a step.
use Rattle.std.specs.Prelude.{Bool, List}
use Rattle.st_marks.specs.declared.changes.Change.{Change}
use Rattle.st_marks.specs.declared.intents.Intent.{Intent}
use Rattle.st_marks.specs.declared.steps.Step.{Step}
use Rattle.st_marks.specs.declared.verdicts.Verdict.{Verdict}
use Rattle.st_marks.specs.Document.{Document, HasShortRows}
use Rattle.st_marks.specs.Extends.{IsExtendedBy}
use Rattle.st_marks.specs.Intent.{Fits}
use Rattle.st_marks.specs.CarryOut.{full}
use Rattle.st_marks.specs.Verdict.{IsVerdict, carried_document}
use Rattle.st_log_laws.specs.Turns.{FitInTurn}
use Rattle.st_read_laws.specs.Reading.{IsRead, IsStepRead}
use Rattle.st_rebaser.specs.InTurn.{ShowInTurn}

-- ## One change over a step

-- the change of an intent after a step, and the step after the intent, which had one verdict before the step
pub record CarriedTo (l : Bool) (D E : Document) (N : Intent) (v : Verdict) : Type 0 where
  pub change : Change
  pub verdict : Verdict
  pub step : Step
  pub is : IsVerdict E N verdict
  pub shown : IsRead l E N change
  pub extends : IsExtendedBy (carried_document v D N) (carried_document verdict E N)
  pub over : IsStepRead l (carried_document v D N) (carried_document verdict E N) step

-- each change can be carried over each step
abbrev pub Carries : Bool → Type 0
Carries l = (D E : Document) (N : Intent) (C : Change) (S : Step) (v : Verdict) → IsExtendedBy D E → Fits D N → Fits E N
    → HasShortRows (full D N) → HasShortRows (full E N) → IsVerdict D N v → IsRead l D N C → IsStepRead l D E S → CarriedTo l D E N v

-- ## Several changes over a step

-- the changes of the same intents after the step, and the step after them
pub record PushedTo (l : Bool) (E F : Document) (Ns : List Intent) : Type 0 where
  pub changes : List Change
  pub last : Document
  pub step : Step
  pub shown : ShowInTurn l E Ns changes last
  pub extends : IsExtendedBy F last
  pub over : IsStepRead l F last step

abbrev pub Pushes : Bool → Type 0
Pushes l = (D E F : Document) (Ns : List Intent) (Cs : List Change) (S : Step) → IsExtendedBy D E → FitInTurn D Ns → FitInTurn E Ns
    → ShowInTurn l D Ns Cs F → IsStepRead l D E S → PushedTo l E F Ns

-- ## Steps

abbrev pub Composes : Bool → Type 0
Composes l = (D E F : Document) (S T : Step) → IsExtendedBy D E → IsExtendedBy E F → IsStepRead l D E S → IsStepRead l E F T → (G : Step) × IsStepRead l D F G

-- what is left of a step from D to F after its front, which leads to E
abbrev pub Strips : Bool → Type 0
Strips l = (D E F : Document) (S W : Step) → IsExtendedBy D E → IsExtendedBy E F → IsStepRead l D E S → IsStepRead l D F W → (G : Step) × IsStepRead l E F G
