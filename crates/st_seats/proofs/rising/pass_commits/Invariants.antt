-- where the session is with the commits looked at so far
use Rattle.std.proofs.Common.{◌≡◌, ◌≤◌, ◌++◌, ℕ, List, None, drop, length}
use Rattle.st_lists.specs.declared.lists.Entry.{Entry}
use Rattle.st_marks.specs.Document.{Document}
use Rattle.st_seats.specs.Seats.{IsWrittenFrom}
use Rattle.st_seats.specs.inside.Rising.{AreNext, IsRisen}
use Rattle.st_seats.proofs.PastCommits.{AtPlace}
use Rattle.st_seats.proofs.rising.pass_commits.Given as goal

abbrev pub invariant-loop-one : goal.invariant-loop-one
invariant-loop-one g l = (O A : Document) (log front back : List Entry) (known : ℕ) → IsWrittenFrom O log l.session known
    → log ≡ front ++ back → known ≤ length front → length front ≤ l.reference → l.reference ≤ length log
    → AreNext g.R.Carrier.listed O log (length front) l.reference l.kept → IsRisen g.R.Carrier.listed O A front back l.session l.initial.sent None
    → AtPlace g.R.Carrier.listed O A log l.session known l.reference (drop l.one-index l.kept) l.sent l.gone
