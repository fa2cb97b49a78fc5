-- What changes, their verdicts and a step become over each other, over whatever documents they stand.
use Rattle.std.specs.Prelude.{◌≡◌, ℕ, Bool, List, Option, Some, None, slice_get, slice_set}
use Rattle.st_marks.specs.declared.changes.Change.{Change}
use Rattle.st_marks.specs.declared.intents.Intent.{Intent}
use Rattle.st_marks.specs.declared.steps.Step.{Step}
use Rattle.st_marks.specs.declared.verdicts.Verdict.{Verdict}
use Rattle.st_marks.specs.Document.{Document, HasShortRows}
use Rattle.st_marks.specs.Extends.{IsExtendedBy}
use Rattle.st_marks.specs.Intent.{Fits}
use Rattle.st_marks.specs.CarryOut.{full}
use Rattle.st_marks.specs.Verdict.{IsVerdict, carried_document}
use Rattle.st_log_laws.specs.Turns.{FitInTurn}
use Rattle.st_read_laws.specs.Reading.{IsRead, IsStepRead}
use Rattle.st_rebaser.specs.InTurn.{ShowInTurn, HaveVerdicts}

-- one change
abbrev pub IsCarried : Bool → Change → Verdict → Step → Change → Verdict → Step → Type 0
IsCarried l C v S X u T = (D E : Document) (N : Intent) → IsExtendedBy D E → Fits D N → Fits E N → HasShortRows (full D N) → HasShortRows (full E N)
    → IsVerdict D N v → IsRead l D N C → IsStepRead l D E S
    → IsVerdict E N u × IsRead l E N X × IsExtendedBy (carried_document v D N) (carried_document u E N)
    × IsStepRead l (carried_document v D N) (carried_document u E N) T

-- several in turn
abbrev pub ArePushed : Bool → List Change → List Verdict → Step → List Change → List Verdict → Step → Type 0
ArePushed l Cs vs S Xs us T = (D E F : Document) (Ns : List Intent) → IsExtendedBy D E → FitInTurn D Ns → FitInTurn E Ns
    → ShowInTurn l D Ns Cs F → HaveVerdicts D Ns vs → IsStepRead l D E S
    → (G : Document) × ShowInTurn l E Ns Xs G × HaveVerdicts E Ns us × IsExtendedBy F G × IsStepRead l F G T

-- the change at a place and its verdict, if there are both, are carried over the step; all others stay
abbrev pub IsTurnOf : Bool → ℕ → Option Change → Option Verdict → List Change → List Verdict → Step → List Change → List Verdict → Step → Type 0
IsTurnOf l i None v Cs vs S Xs us T = (Xs ≡ Cs) × (us ≡ vs) × (T ≡ S)
IsTurnOf l i (Some C) None Cs vs S Xs us T = (Xs ≡ Cs) × (us ≡ vs) × (T ≡ S)
IsTurnOf l i (Some C) (Some v) Cs vs S Xs us T = (X : Change) × (u : Verdict) × IsCarried l C v S X u T × (Xs ≡ slice_set Cs i X) × (us ≡ slice_set vs i u)

abbrev pub IsTurn : Bool → ℕ → List Change → List Verdict → Step → List Change → List Verdict → Step → Type 0
IsTurn l i Cs vs S Xs us T = IsTurnOf l i (slice_get Cs i) (slice_get vs i) Cs vs S Xs us T
