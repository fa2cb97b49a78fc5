-- how far the bridge goes with those so far
use Rattle.std.proofs.Common.{◌≤◌, ℕ, List, drop, length, map}
use Rattle.st_lists.specs.declared.lists.Entry.{Entry}
use Rattle.st_marks.specs.Document.{Document}
use Rattle.st_ahead.specs.Lags.{AreAhead}
use Rattle.st_ahead.specs.inside.Bridging.{IsBridgeTo}
use Rattle.st_ahead.specs.inside.Lists.{ahead_of}
use Rattle.st_ahead.proofs.Bridged.{IsOnTheWay}
use Rattle.st_ahead.proofs.bridge.go_over_kept.Given as goal

abbrev pub invariant-loop-one : goal.invariant-loop-one
invariant-loop-one g l = (O : Document) (log : List Entry) (session from place last : ℕ) → place ≤ last → last ≤ length log
    → AreAhead g.R.Carrier.listed O log session place last (map ahead_of l.kept) → IsBridgeTo g.R.Carrier.listed O log session from place l.initial.bridge
    → IsOnTheWay g.R.Carrier.listed O log session from last (map ahead_of (drop l.one-index l.kept)) l.bridge
