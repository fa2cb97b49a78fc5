-- What a session that is connected hasn't received of a log.
use Rattle.std.specs.Prelude.{◌≡◌, ◌<◌, ◌≤◌, ◌-◌, ◌==◌, ℕ, Bool, true, false, List, [], ◌∷◌, drop, length, slice_get, Option, Some, MatchOption}
use Rattle.st_ids.specs.Listing.{Has}
use Rattle.st_lists.specs.declared.lists.Entry.{Entry}
use Rattle.st_lists.specs.Log.{commit_of, commits_by, is_connected, known_reference}
use Rattle.st_marks.specs.declared.intents.Intent.{Intent}
use Rattle.st_marks.specs.Document.{Document}
use Rattle.st_marks.specs.Extends.{IsExtendedBy}
use Rattle.st_marks.specs.Run.{Run}
use Rattle.st_read_laws.specs.Reading.{IsStepRead}
use Rattle.st_valid.specs.Author.{author_list}
use Rattle.st_ahead.specs.declared.lag.Ahead.{Ahead}
use Rattle.st_ahead.specs.declared.lag.Lag.{Lag}

-- ## Commits that are ahead of a session

-- the entry of this number, counted from 1, is a commit of another session
pub record IsOfAnother (log : List Entry) (session n : ℕ) : Type 0 where
  pub entry : Entry
  pub intent : Intent
  pub there : slice_get log (n - 1) ≡ Some entry
  pub commit : commit_of entry ≡ Some intent
  pub other : (entry.session == session) ≡ false

-- x is such a commit with its step: the step leads from the document over which the session writes where it has received the entries
-- before this one, to that where it has received this one too. O is the document opened
pub record IsAhead (l : Bool) (O : Document) (log : List Entry) (session : ℕ) (x : Ahead) : Type 0 where
  pub commit : IsOfAnother log session x.n
  pub before : Document
  pub after : Document
  pub to_before : Run O (author_list log session (x.n - 1)) before
  pub to_after : Run O (author_list log session x.n) after
  pub extends : IsExtendedBy before after
  pub step : IsStepRead l before after x.step

-- the numbers rise strictly: the first is above this number, and each other above the one before it
abbrev pub RiseAbove : ℕ → List Ahead → Type 0
RiseAbove n [] = Unit {0}
RiseAbove n (x ∷ xs) = (n < x.n) × RiseAbove x.n xs

-- all commits of other sessions whose numbers are above one number and not above the last, and nothing else, in rising order
pub record AreAhead (l : Bool) (O : Document) (log : List Entry) (session above last : ℕ) (xs : List Ahead) : Type 0 where
  pub rise : RiseAbove above xs
  pub each : (x : Ahead) → Has xs x → (x.n ≤ last) × IsAhead l O log session x
  pub all : (n : ℕ) → above < n → n ≤ last → IsOfAnother log session n → (x : Ahead) × Has xs x × (x.n ≡ n)

-- ## A lag

-- a session that has received the log up to a reference: all commits of others above that are ahead of it, up to the last entry of
-- which the lag tells; and the session has no commit behind that entry
pub record IsLagAt (l : Bool) (O : Document) (log : List Entry) (session reference : ℕ) (q : Lag) : Type 0 where
  pub at : q.reference ≡ reference
  pub low : reference ≤ q.last
  pub within : q.last ≤ length log
  pub none_sent : commits_by session (drop q.last log) ≡ []
  pub ahead : AreAhead l O log session reference q.last q.ahead

-- the reference is the session's known one
abbrev pub IsLag : Bool → Document → List Entry → ℕ → Lag → Type 0
IsLag l O log session q = IsLagAt l O log session (known_reference session log) q

-- the session is connected and has this lag, or it isn't connected and has none
abbrev pub HasLag : Bool → Document → List Entry → ℕ → Option Lag → Type 0
HasLag l O log session q = MatchOption q (is_connected session log ≡ false) (λ q. (is_connected session log ≡ true) × IsLag l O log session q)

-- each session has its lag, or none
abbrev pub HaveLags : Bool → Document → List Entry → (ℕ → Option Lag) → Type 0
HaveLags l O log lags = (session : ℕ) → HasLag l O log session (lags session)
