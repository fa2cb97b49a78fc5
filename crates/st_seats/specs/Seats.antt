-- What is kept of a session that is connected.
use Rattle.std.specs.Prelude.{◌≡◌, ◌≤◌, ◌++◌, ◌∷◌, ℕ, Bool, true, false, List, [], take, drop, length, Option, Some, MatchOption}
use Rattle.st_ids.specs.Listing.{Has}
use Rattle.st_log_laws.specs.Turns.{FitInTurn}
use Rattle.st_lists.specs.declared.lists.Entry.{Entry}
use Rattle.st_lists.specs.Log.{commit_of, commits_by, commits_in, is_connected, known_reference}
use Rattle.st_marks.specs.declared.intents.Intent.{Intent}
use Rattle.st_marks.specs.declared.steps.Step.{Step}
use Rattle.st_marks.specs.declared.changes.Change.{Change}
use Rattle.st_marks.specs.CarryOut.{full}
use Rattle.st_marks.specs.Document.{Document, HasShortRows, IsSoundInForm}
use Rattle.st_marks.specs.Intent.{Fits}
use Rattle.st_marks.specs.Extends.{IsExtendedBy}
use Rattle.st_marks.specs.Run.{Run}
use Rattle.st_marks.specs.Verdict.{IsVerdict, carried_document}
use Rattle.st_marks.specs.declared.verdicts.Verdict.{Verdict}
use Rattle.st_read_laws.specs.Reading.{IsRead, IsStepRead}
use Rattle.st_rebaser.specs.InTurn.{HaveVerdicts, ShowInTurn}
use Rattle.st_valid.specs.Author.{author_list}
use Rattle.st_seats.specs.declared.seat.Seat.{Seat}
use Rattle.st_seats.specs.declared.seat.Turns.{Turns}
use Rattle.st_rebaser.specs.declared.rebaser.Effected.{Effected}

-- ## Commits in turn

-- the changes are those of these intents in this order, each in the document that those before it leave, with the verdicts there;
-- the first stands over D, and the last leaves F
pub record StandInTurn (l : Bool) (D : Document) (Ns : List Intent) (q : Turns) (F : Document) : Type 0 where
  pub shown : ShowInTurn l D Ns q.changes F
  pub judged : HaveVerdicts D Ns q.verdicts

-- ## A bridge

-- of a log over the document O: S leads from the document over which the session writes, by its known reference, to that of all
-- commits
pub record IsBridge (l : Bool) (O : Document) (log : List Entry) (session : ℕ) (S : Step) : Type 0 where
  pub author : Document
  pub trunk : Document
  pub to_author : Run O (author_list log session (known_reference session log)) author
  pub to_trunk : Run O (commits_in log) trunk
  pub extends : IsExtendedBy author trunk
  pub step : IsStepRead l author trunk S

-- ## A seat

-- a session that has received the log up to a reference: what it sent above that stands in turn over the document of the commits up
-- to it, and leads to the document over which the session writes; from there the bridge leads to that of all commits
pub record IsSeatAt (l : Bool) (O : Document) (log : List Entry) (session reference : ℕ) (q : Seat) : Type 0 where
  pub at : q.reference ≡ reference
  pub base : Document
  pub author : Document
  pub trunk : Document
  pub to_base : Run O (commits_in (take reference log)) base
  pub sent : StandInTurn l base (commits_by session (drop reference log)) q.sent author
  pub to_trunk : Run O (commits_in log) trunk
  pub extends : IsExtendedBy author trunk
  pub bridge : IsStepRead l author trunk q.bridge

-- the reference is the session's known one
abbrev pub IsSeat : Bool → Document → List Entry → ℕ → Seat → Type 0
IsSeat l O log session q = IsSeatAt l O log session (known_reference session log) q

-- the session is connected and has this seat, or it isn't connected and has none
abbrev pub HasSeat : Bool → Document → List Entry → ℕ → Option Seat → Type 0
HasSeat l O log session q = MatchOption q (is_connected session log ≡ false) (λ q. (is_connected session log ≡ true) × IsSeat l O log session q)

-- each session has its seat, or none
abbrev pub HaveSeats : Bool → Document → List Entry → (ℕ → Option Seat) → Type 0
HaveSeats l O log seats = (session : ℕ) → HasSeat l O log session (seats session)

-- ## What a log has to be

-- over a sound document the commits of the log fit in turn, and so do those over which a session writes, from a reference on; the
-- commits of a session's entries have its revisions
pub record IsWrittenFrom (O : Document) (log : List Entry) (session known : ℕ) : Type 0 where
  pub sound : IsSoundInForm O
  pub commits : FitInTurn O (commits_in log)
  pub author : (reference : ℕ) → known ≤ reference → FitInTurn O (author_list log session reference)
  pub own : (e : Entry) (N : Intent) → Has log e → commit_of e ≡ Some N → N.rev.session ≡ e.session

-- and no known reference is above the number of entries
pub record AreAllWritten (O : Document) (log : List Entry) (session : ℕ) : Type 0 where
  pub written : IsWrittenFrom O log session (known_reference session log)
  pub within : (other : ℕ) → known_reference other log ≤ length log

-- ## A commit of the session

-- A is the document over which the session writes and T that of all commits; N fits both, with room in each row, and C is its change
-- in A
pub record IsComing (l : Bool) (O : Document) (log : List Entry) (session reference : ℕ) (A T : Document) (N : Intent) (C : Change) : Type 0 where
  pub to_author : Run O (author_list log session reference) A
  pub to_trunk : Run O (commits_in log) T
  pub fits_author : Fits A N
  pub fits_trunk : Fits T N
  pub short_author : HasShortRows (full A N)
  pub short_trunk : HasShortRows (full T N)
  pub change : IsRead l A N C

-- a commit N comes over the document T with this change, and does so much there
pub record IsEntered (l : Bool) (T : Document) (N : Intent) (C : Change) (e : Effected) : Type 0 where
  pub verdict : IsVerdict T N e.verdict
  pub change : IsRead l T N C
  pub step : IsStepRead l T (carried_document e.verdict T N) e.step

-- N is sent behind the others, over the author's document A; it comes over the document T with a verdict and a change, and the
-- bridge leads from A with it to T with it
pub record IsTaken (l : Bool) (B A T : Document) (Ns : List Intent) (N : Intent) (C : Change) (u : Verdict) (q : Seat) : Type 0 where
  pub before : Verdict
  pub was : IsVerdict A N before
  pub sent : StandInTurn l B (Ns ++ N ∷ []) q.sent (carried_document before A N)
  pub verdict : IsVerdict T N u
  pub change : IsRead l T N C
  pub extends : IsExtendedBy (carried_document before A N) (carried_document u T N)
  pub bridge : IsStepRead l (carried_document before A N) (carried_document u T N) q.bridge
