-- The seat of a session that commits.
use Rattle.std.specs.Prelude.{◌≡◌, ℕ, Bool, List, Option, Some}
use Rattle.st_clusters.specs.declared.ids.IdRange.{IdRange}
use Rattle.st_lists.specs.declared.lists.Body.TheVariants.{Commit}
use Rattle.st_lists.specs.declared.lists.Entry.{Entry}
use Rattle.st_lists.specs.Log.{log_with}
use Rattle.st_marks.specs.declared.intents.Intent.{Intent}
use Rattle.st_marks.specs.Document.{Document}
use Rattle.st_seats.specs.Seats.{IsSeatAt}
use Rattle.st_seats.specs.declared.seat.Seat.{Seat}

-- the log with the commit
abbrev pub after : List Entry → ℕ → ℕ → IdRange → Intent → List Entry
after log session reference ids N = log_with log session (Commit reference ids N)

-- there is a seat, and it is that of the session with this reference
abbrev pub IsSeatOf : Bool → Document → List Entry → ℕ → ℕ → Option Seat → Type 0
IsSeatOf l O log session reference o = (q : Seat) × (o ≡ Some q) × IsSeatAt l O log session reference q
