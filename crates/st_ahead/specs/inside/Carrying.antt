-- The change of a session's commit, carried over what is ahead of the session.
use Rattle.std.specs.Prelude.{◌≡◌, ℕ, Bool, List, Option, Some, slice_get, slice_set}
use Rattle.st_clusters.specs.declared.ids.IdRange.{IdRange}
use Rattle.st_lists.specs.declared.lists.Body.TheVariants.{Commit}
use Rattle.st_lists.specs.declared.lists.Entry.{Entry}
use Rattle.st_lists.specs.Log.{log_with}
use Rattle.st_marks.specs.declared.changes.Change.{Change}
use Rattle.st_marks.specs.declared.intents.Intent.{Intent}
use Rattle.st_marks.specs.declared.steps.Step.{Step}
use Rattle.st_marks.specs.declared.verdicts.Verdict.{Verdict}
use Rattle.st_marks.specs.CarryOut.{full}
use Rattle.st_marks.specs.Document.{Document, HasShortRows}
use Rattle.st_marks.specs.Extends.{IsExtendedBy}
use Rattle.st_marks.specs.Intent.{Fits}
use Rattle.st_marks.specs.Run.{Run}
use Rattle.st_marks.specs.Verdict.{IsVerdict, carried_document}
use Rattle.st_read_laws.specs.Reading.{IsRead, IsStepRead}
use Rattle.st_valid.specs.Author.{author_list}
use Rattle.st_ahead.specs.Lags.{IsLagAt}
use Rattle.st_ahead.specs.declared.lag.Ahead.{Ahead}
use Rattle.st_ahead.specs.declared.lag.Lag.{Lag}

-- the log with the commit
abbrev pub after : List Entry → ℕ → ℕ → IdRange → Intent → List Entry
after log session reference ids N = log_with log session (Commit reference ids N)

-- a change with its verdict and a step, each carried over the other
abbrev pub IsCarried : Bool → Change → Verdict → Step → Change → Verdict → Step → Type 0
IsCarried l C v S X u T = (D E : Document) (N : Intent) → IsExtendedBy D E → Fits D N → Fits E N → HasShortRows (full D N) → HasShortRows (full E N)
    → IsVerdict D N v → IsRead l D N C → IsStepRead l D E S
    → IsVerdict E N u × IsRead l E N X × IsExtendedBy (carried_document v D N) (carried_document u E N)
    × IsStepRead l (carried_document v D N) (carried_document u E N) T

-- where there is one at a place, it is the one with the step carried, and all others stay
abbrev pub IsCarriedAt : Bool → ℕ → List Ahead → Change → Verdict → List Ahead → Change → Verdict → Type 0
IsCarriedAt l i xs C v ys X u = (x : Ahead) → slice_get xs i ≡ Some x → (y : Ahead) × (ys ≡ slice_set xs i y) × (y.n ≡ x.n) × IsCarried l C v x.step X u y.step

-- C is the change of N in the document over which the session writes where it has received the entries up to a number, with its
-- verdict there
pub record IsWrittenAt (l : Bool) (O : Document) (log : List Entry) (session n : ℕ) (N : Intent) (C : Change) (v : Verdict) : Type 0 where
  pub document : Document
  pub to_document : Run O (author_list log session n) document
  pub verdict : IsVerdict document N v
  pub change : IsRead l document N C

-- there is a lag, and it is that of the session with this reference
abbrev pub IsLagOf : Bool → Document → List Entry → ℕ → ℕ → Option Lag → Type 0
IsLagOf l O log session reference o = (q : Lag) × (o ≡ Some q) × IsLagAt l O log session reference q
