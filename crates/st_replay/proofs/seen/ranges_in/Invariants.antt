use Rattle.std.proofs.Common.{◌≡◌, take}
use Rattle.st_lists.specs.Log.{ranges_in}
use Rattle.st_replay.proofs.seen.ranges_in.Given as goal

abbrev pub invariant-loop-entry : goal.invariant-loop-entry
invariant-loop-entry l = l.ranges ≡ ranges_in (take l.entry-index l.entries)
