-- What a change and a step become over each other, over whatever documents they stand.
use Rattle.std.specs.Prelude.{◌≡◌, Bool, None}
use Rattle.st_marks.specs.declared.changes.Change.{Change}
use Rattle.st_marks.specs.declared.intents.Intent.{Intent}
use Rattle.st_marks.specs.declared.steps.Step.{Step}
use Rattle.st_marks.specs.declared.verdicts.Verdict.{Verdict}
use Rattle.st_marks.specs.CarryOut.{full}
use Rattle.st_marks.specs.Document.{Document, HasShortRows}
use Rattle.st_marks.specs.Extends.{IsExtendedBy}
use Rattle.st_marks.specs.Intent.{Fits}
use Rattle.st_marks.specs.Verdict.{IsVerdict, carried_document}
use Rattle.st_read_laws.specs.Reading.{IsRead, IsStepRead}
use Rattle.st_reading.specs.Bridge.{is_void}

-- what is told of changes C before the step and X after it, and of a step
abbrev pub AreBeside : Bool → Document → Document → Intent → Change → Change → Step → Type 0
AreBeside l D E N C X S = IsExtendedBy D E × Fits D N × Fits E N × HasShortRows (full D N) × HasShortRows (full E N) × IsRead l D N C × IsRead l E N X × IsStepRead l D E S

-- T is the step after the change, which is void before the step or not, and after it or not
abbrev pub IsOver : Bool → Change → Step → Bool → Bool → Change → Step → Type 0
IsOver l C S was is X T = (D E : Document) (N : Intent) (v u : Verdict) → AreBeside l D E N C X S → IsVerdict D N v → IsVerdict E N u → is_void v ≡ was → is_void u ≡ is
    → IsStepRead l (carried_document v D N) (carried_document u E N) T

-- where the change is one of data
abbrev pub IsOverData : Bool → Change → Step → Bool → Bool → Step → Type 0
IsOverData l C S was is T = (X : Change) → C.schema ≡ None → IsOver l C S was is X T
