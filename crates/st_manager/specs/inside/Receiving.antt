-- An entry on its way into a manager.
use Rattle.std.specs.Prelude.{◌≡◌, ℕ, Bool, length, None}
use Rattle.std.specs.BTreeMap.{get}
use Rattle.std.specs.Ordering.{nat_cmp}
use Rattle.st_clusters.specs.declared.ids.IdRange.{IdRange}
use Rattle.st_ledger.specs.Stands.{StandsFor as IsLedgerOf}
use Rattle.st_lists.specs.declared.lists.Body.{Body}
use Rattle.st_lists.specs.declared.lists.Body.TheVariants.{Commit}
use Rattle.st_lists.specs.Log.{commit_in, floor}
use Rattle.st_marks.specs.declared.changes.Change.{Change}
use Rattle.st_marks.specs.declared.intents.Intent.{Intent}
use Rattle.st_marks.specs.Document.{Document}
use Rattle.st_window_laws.specs.Windows.{IsWindowOf}
use Rattle.st_seats.specs.Seats.{HaveSeats, IsEntered}
use Rattle.st_manager.specs.Stands.{IsHead}
use Rattle.st_manager.specs.Taking.{IsLocalStep}
use Rattle.st_manager.specs.Told.{IsNextTold, IsSoundTold, IsTrunk, Told}
use Rattle.st_manager.specs.declared.calls.Received.{Received}
use Rattle.st_manager.specs.declared.manager.Manager.{Manager}
use Rattle.st_manager.specs.declared.receiving.Passed.{Passed}

abbrev pub received : Passed → Received
received p = record { verdict = p.effected.verdict; step = p.local }

-- ledger, head and seats are those of what is told with the commit; window and numbers are those from before it
pub record IsUnderWay {R : Type 0} (l : Bool) (t u : Told) (session reference : ℕ) (ids : IdRange) (N : Intent) (M : Manager R) (C : Change) (p : Passed) : Type 0 where
  pub before : IsSoundTold t
  pub after : IsSoundTold u
  pub next : IsNextTold t session (Commit reference ids N) u
  pub trunk : Document
  pub to_trunk : IsTrunk t trunk
  pub entered : IsEntered l trunk N C p.effected
  pub ledger : IsLedgerOf M.ledger u.log
  pub head : IsHead l u M.trunk M.pending
  pub seats : HaveSeats l u.opening u.log (λ s. get nat_cmp M.seats s)
  pub floor_before : M.window.floor ≡ floor t.history t.log (length t.log)
  pub window : IsWindowOf l t.opening t.log M.window
  pub own : M.own ≡ u.own
  pub history : M.history ≡ u.history
  pub number : M.number ≡ length t.log
  pub local : IsLocalStep l t u (received p)

-- the entry is no commit; ledger and seats are those of what is told with it, and all else is that from before it
pub record IsNoted {R : Type 0} (l : Bool) (t u : Told) (session : ℕ) (body : Body) (M : Manager R) : Type 0 where
  pub before : IsSoundTold t
  pub after : IsSoundTold u
  pub next : IsNextTold t session body u
  pub none : commit_in body ≡ None
  pub ledger : IsLedgerOf M.ledger u.log
  pub head : IsHead l u M.trunk M.pending
  pub seats : HaveSeats l u.opening u.log (λ s. get nat_cmp M.seats s)
  pub floor_before : M.window.floor ≡ floor t.history t.log (length t.log)
  pub window : IsWindowOf l t.opening t.log M.window
  pub own : M.own ≡ u.own
  pub history : M.history ≡ u.history
  pub number : M.number ≡ length t.log
