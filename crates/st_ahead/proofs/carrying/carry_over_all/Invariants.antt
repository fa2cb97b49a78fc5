-- where the change is with the steps that are carried so far
use Rattle.std.proofs.Common.{◌≡◌, ◌≤◌, ℕ, List, drop, length, take}
use Rattle.st_clusters.specs.declared.ids.IdRange.{IdRange}
use Rattle.st_lists.specs.declared.lists.Entry.{Entry}
use Rattle.st_marks.specs.declared.intents.Intent.{Intent}
use Rattle.st_marks.specs.Document.{Document}
use Rattle.st_seats.specs.Seats.{IsWrittenFrom}
use Rattle.st_ahead.specs.Lags.{AreAhead}
use Rattle.st_ahead.specs.inside.Carrying.{IsWrittenAt, after}
use Rattle.st_ahead.proofs.Carried.{AtPlace}
use Rattle.st_ahead.proofs.carrying.carry_over_all.Given as goal

abbrev pub invariant-loop-place : goal.invariant-loop-place
invariant-loop-place g l = record {
  kept : length l.ahead ≡ length l.initial.ahead;
  goes_on : (O : Document) (log : List Entry) (session reference last : ℕ) (ids : IdRange) (N : Intent)
      → (w : IsWrittenFrom O (after log session reference ids N) session reference) → reference ≤ last → last ≤ length log
      → AreAhead g.R.Carrier.listed O log session reference last l.initial.ahead
      → IsWrittenAt g.R.Carrier.listed O log session reference N l.initial.change l.initial.verdict
      → AtPlace g.R.Carrier.listed O log session reference ids N w last (take l.place l.ahead) (drop l.place l.ahead) l.change l.verdict;
}
