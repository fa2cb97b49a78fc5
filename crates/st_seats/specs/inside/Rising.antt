-- What a session sent, as its reference rises over the commits of a log.
use Rattle.std.specs.Prelude.{◌≡◌, ◌<◌, ◌≤◌, ◌+◌, ℕ, Bool, List, slice_get, Option, Some, MatchOption}
use Rattle.st_ids.specs.Listing.{Has}
use Rattle.st_log_laws.specs.Turns.{FitInTurn}
use Rattle.st_lists.specs.declared.lists.Entry.{Entry}
use Rattle.st_lists.specs.Log.{commit_of, commits_by, commits_in}
use Rattle.st_marks.specs.declared.intents.Intent.{Intent}
use Rattle.st_marks.specs.declared.steps.Step.{Step}
use Rattle.st_marks.specs.Document.{Document}
use Rattle.st_marks.specs.Extends.{IsExtendedBy}
use Rattle.st_marks.specs.Run.{Run}
use Rattle.st_read_laws.specs.Reading.{IsStepRead}
use Rattle.st_window.specs.declared.kept.Kept.{Kept}
use Rattle.st_window.specs.Window.{RiseFrom}
use Rattle.st_window_laws.specs.Windows.{IsKept}
use Rattle.st_seats.specs.Seats.{StandInTurn}
use Rattle.st_seats.specs.declared.seat.Turns.{Turns}

-- the step from A to B; none where they are the same
abbrev pub HasGone : Bool → Document → Document → Option Step → Type 0
HasGone l A B gone = MatchOption gone (A ≡ B) (IsStepRead l A B)

-- what was sent over a document is sent over a later one, S being the step between, and the step from A goes on
abbrev pub IsPassed : Bool → Step → Turns → Option Step → Turns → Option Step → Type 0
IsPassed l S sent gone later on = (A D E F : Document) (Ns : List Intent) → IsExtendedBy D E → FitInTurn D Ns → FitInTurn E Ns
    → StandInTurn l D Ns sent F → IsExtendedBy A F → HasGone l A F gone → IsStepRead l D E S
    → (G : Document) × StandInTurn l E Ns later G × IsExtendedBy F G × HasGone l A G on

-- of a log that has a front and a back: what the session has in the back stands in turn over the document of the front, and from A,
-- which is extended by the document after it, the step leads there
pub record IsRisen (l : Bool) (O A : Document) (front back : List Entry) (session : ℕ) (sent : Turns) (gone : Option Step) : Type 0 where
  pub base : Document
  pub author : Document
  pub to_base : Run O (commits_in front) base
  pub stands : StandInTurn l base (commits_by session back) sent author
  pub extends : IsExtendedBy A author
  pub step : HasGone l A author gone

-- kept commits in rising order, each as it came, and among them all of the log that are above a number and not above a reference
pub record AreNext (l : Bool) (O : Document) (log : List Entry) (above reference : ℕ) (ks : List Kept) : Type 0 where
  pub rise : RiseFrom above ks
  pub each : (k : Kept) → Has ks k → IsKept l O log k
  pub all : (i : ℕ) (e : Entry) (N : Intent) → slice_get log i ≡ Some e → commit_of e ≡ Some N → above < i + 1 → i + 1 ≤ reference
      → (k : Kept) × Has ks k × (k.n ≡ i + 1)
