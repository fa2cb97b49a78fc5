-- For what a manager stands: each of its parts is what was told says, name by name and place by place.
use Rattle.std.specs.Prelude.{◌≡◌, ℕ, Bool, false, length}
use Rattle.std.specs.BTreeMap.{get}
use Rattle.std.specs.Ordering.{nat_cmp}
use Rattle.st_forest.specs.Stands.{StandsFor}
use Rattle.st_forest.specs.declared.forest.Forest.{Forest}
use Rattle.st_ledger.specs.Stands.{StandsFor as IsLedgerOf}
use Rattle.st_lists.specs.Log.{floor, minimum}
use Rattle.st_marks.specs.declared.intents.Intent.{Intent}
use Rattle.st_marks.specs.Document.{Document}
use Rattle.st_marks.specs.Verdict.{IsVerdict, carried_document}
use Rattle.st_read_laws.specs.Reading.{IsStepRead}
use Rattle.st_rebaser.specs.declared.rebaser.Effected.{Effected}
use Rattle.st_window_laws.specs.Windows.{IsWindowOf}
use Rattle.st_manager.specs.Told.{IsSoundTold, IsTrunk, Told}
use Rattle.st_manager.specs.declared.manager.Manager.{Manager}
use Rattle.st_seats.specs.Seats.{HasSeat, StandInTurn}
use Rattle.st_seats.specs.declared.seat.Turns.{Turns}

-- ## Commits in turn

-- the verdict of an intent in a document, and the step to the document after it
pub record IsEffect (l : Bool) (D : Document) (N : Intent) (e : Effected) : Type 0 where
  pub verdict : IsVerdict D N e.verdict
  pub step : IsStepRead l D (carried_document e.verdict D N) e.step

-- ## The trunk

-- the tables F are those of the document of all commits received, and the pending commits stand in turn over it, as q
pub record IsHead (l : Bool) (t : Told) (F : Forest) (q : Turns) : Type 0 where
  pub document : Document
  pub local : Document
  pub to_document : IsTrunk t document
  pub tables : StandsFor F document
  pub pending : StandInTurn l document t.pending q local

-- ## The whole

-- it is not spent, and what it keeps is what was told: the numbers and names of the log, the document of its commits, the pending
-- ones over it, a seat for each session that is connected and for no other, and of the commits above the floor each, as it came
pub record Stands {R : Type 0} (l : Bool) (t : Told) (M : Manager R) : Type 0 where
  pub told : IsSoundTold t
  pub live : M.spent ≡ false
  pub ledger : IsLedgerOf M.ledger t.log
  pub head : IsHead l t M.trunk M.pending
  pub seats : (session : ℕ) → HasSeat l t.opening t.log session (get nat_cmp M.seats session)
  pub floor : M.window.floor ≡ floor t.history t.log (length t.log)
  pub window : IsWindowOf l t.opening t.log M.window
  pub own : M.own ≡ t.own
  pub history : M.history ≡ t.history
  pub number : M.number ≡ length t.log
  pub minimum : M.minimum ≡ minimum t.log
