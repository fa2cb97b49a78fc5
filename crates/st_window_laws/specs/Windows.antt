-- What a window says of a log: of each commit above the floor, and of no other, what it did where it came.
use Rattle.std.specs.Prelude.{◌≡◌, ◌<◌, ◌+◌, ◌-◌, ℕ, Bool, List, take, slice_get, Some}
use Rattle.st_ids.specs.Listing.{Has}
use Rattle.st_marks.specs.declared.intents.Intent.{Intent}
use Rattle.st_marks.specs.Document.{Document}
use Rattle.st_marks.specs.Run.{Run}
use Rattle.st_marks.specs.Verdict.{IsVerdict, carried_document}
use Rattle.st_lists.specs.declared.lists.Body.TheVariants.{Commit}
use Rattle.st_lists.specs.declared.lists.Entry.{Entry}
use Rattle.st_lists.specs.Log.{commit_of, commits_in}
use Rattle.st_read_laws.specs.Reading.{IsRead, IsStepRead}
use Rattle.st_window.specs.declared.kept.Kept.{Kept}
use Rattle.st_window.specs.Window.{RiseFrom, WindowView}

-- it is the commit of the entry of its number, as it was received: with that entry's ids, and with the change, the verdict and
-- the step that the intent has in the document of the commits before it; D is the document opened
pub record IsKept (l : Bool) (D : Document) (log : List Entry) (k : Kept) : Type 0 where
  pub entry : Entry
  pub reference : ℕ
  pub intent : Intent
  pub before : Document
  pub there : slice_get log (k.n - 1) ≡ Some entry
  pub commit : entry.body ≡ Commit reference k.ids intent
  pub to_before : Run D (commits_in (take (k.n - 1) log)) before
  pub verdict : IsVerdict before intent k.verdict
  pub change : IsRead l before intent k.change
  pub step : IsStepRead l before (carried_document k.verdict before intent) k.step

-- its commits are in the log, in rising order, and each commit of the log above the floor is among them
pub record IsWindowOf (l : Bool) (D : Document) (log : List Entry) (w : WindowView) : Type 0 where
  pub rise : RiseFrom w.floor w.kept
  pub each : (k : Kept) → Has w.kept k → IsKept l D log k
  pub all : (i : ℕ) (e : Entry) (N : Intent) → slice_get log i ≡ Some e → commit_of e ≡ Some N → w.floor < i + 1
      → (k : Kept) × Has w.kept k × (k.n ≡ i + 1)
