-- What a manager was told: the document that was opened, the entries that it received, and the own commits that it has not
-- received back.
use Rattle.std.specs.Prelude.{◌≡◌, ◌≤◌, ◌++◌, ℕ, Bool, List, [], ◌∷◌, length, Option, None, Some}
use Rattle.st_history.specs.Past.{Past}
use Rattle.st_ids.specs.Listing.{Has}
use Rattle.st_ids.specs.Root.{opening}
use Rattle.st_ids.specs.declared.names.Limit.{Limit}
use Rattle.st_lists.specs.Limits.{line_limit}
use Rattle.st_lists.specs.Log.{commit_in, commits_in, log_with}
use Rattle.st_lists.specs.declared.lists.Body.{Body}
use Rattle.st_lists.specs.declared.lists.Entry.{Entry}
use Rattle.st_log_laws.specs.Names.{HaveNewRevisions, IsMadeUnder, revisions}
use Rattle.st_log_laws.specs.Turns.{FitInTurn, HasRoom}
use Rattle.st_marks.specs.declared.changes.Change.{Change}
use Rattle.st_marks.specs.declared.intents.Intent.{Intent}
use Rattle.st_marks.specs.CarryOut.{full}
use Rattle.st_marks.specs.Document.{Document, HasShortRows, IsSoundInForm}
use Rattle.st_marks.specs.Intent.{Fits}
use Rattle.st_marks.specs.Run.{Run}
use Rattle.st_read_laws.specs.Reading.{IsRead}
use Rattle.st_valid.specs.Room.{HasRoomForNames}
use Rattle.st_valid_laws.specs.Messages.{IsValidLog}

-- the document opened, how long a history is kept, the own session if there is one, the entries received, and the own commits
-- that aren't received back, in the order in which they were made
pub record Told : Type 0 where
  pub opening : Document
  pub history : ℕ
  pub own : Option ℕ
  pub log : List Entry
  pub pending : List Intent

-- before the first entry and the first own commit
abbrev pub told_first : Document → ℕ → Option ℕ → Told
told_first O history own = record { opening = O; history = history; own = own; log = []; pending = [] }

-- all commits in the order of the local view: those received, and behind them the pending ones
abbrev pub local_list : Told → List Intent
local_list t = commits_in t.log ++ t.pending

-- the commits of which it tells
abbrev pub past : Told → Past
past t = record { opening = t.opening; log = t.log; pending = t.pending }

-- T is the document of the commits received
abbrev pub IsTrunk : Told → Document → Type 0
IsTrunk t T = Run t.opening (commits_in t.log) T

-- F is the document of the local view
abbrev pub IsLocal : Told → Document → Type 0
IsLocal t F = Run t.opening (local_list t) F

-- ## What can be told

-- each message of the log was valid where it came, over a document with which a log may open; the pending commits are of the own
-- session, at most 256; and all of the local view fits in turn, with a revision for each, and with room in each row
pub record IsSoundTold (t : Told) : Type 0 where
  pub sound : IsSoundInForm t.opening
  pub made : IsMadeUnder (opening ∷ []) t.opening
  pub names : HasRoomForNames t.opening
  pub valid : IsValidLog t.opening t.log
  pub own : (N : Intent) → Has t.pending N → t.own ≡ Some N.rev.session
  pub few : length t.pending ≤ 256
  pub fits : FitInTurn t.opening (local_list t)
  pub new : HaveNewRevisions (opening ∷ []) (local_list t)
  pub room : HasRoom t.opening (local_list t)

-- ## One own commit more

abbrev pub with_local : Intent → Told → Told
with_local N t = record t { pending = t.pending ++ N ∷ [] }

-- the limit that one more pending commit would pass
abbrev pub pending_limit : Told → Option Limit
pending_limit t = line_limit 0 (length t.pending) 1

-- C is the change of a commit N of the own session that comes next in the local view, over the document F: it fits there, has a
-- revision that no commit has, and leaves room in each row
pub record IsNextLocal (l : Bool) (t : Told) (N : Intent) (C : Change) (F : Document) : Type 0 where
  pub fits : Fits F N
  pub short : HasShortRows (full F N)
  pub shown : IsRead l F N C
  pub own : t.own ≡ Some N.rev.session
  pub new : Has (revisions (local_list t) ++ opening ∷ []) N.rev → ⊥
  pub room : HasRoom t.opening (local_list t ++ N ∷ [])

-- ## One entry more

-- an own commit was the first pending one, and leaves the list; all else leaves the list as it is
abbrev pub PendingAfter : Told → ℕ → Option Intent → List Intent → Type 0
PendingAfter t session None Ns = Ns ≡ t.pending
PendingAfter t session (Some N) Ns = (t.own ≡ Some session → t.pending ≡ N ∷ Ns) × ((t.own ≡ Some session → ⊥) → Ns ≡ t.pending)

-- u is what was told with an entry more
pub record IsNextTold (t : Told) (session : ℕ) (body : Body) (u : Told) : Type 0 where
  pub log : u.log ≡ log_with t.log session body
  pub pending : PendingAfter t session (commit_in body) u.pending
  pub opening : u.opening ≡ t.opening
  pub history : u.history ≡ t.history
  pub own : u.own ≡ t.own
