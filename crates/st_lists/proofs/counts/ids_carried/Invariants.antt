-- the ids so far, as far as they can be counted
use Rattle.std.proofs.Common.{◌≡◌, ◌-◌, ◌^◌, min, take}
use Rattle.st_clusters.specs.Log.{carried_count}
use Rattle.st_lists.specs.Log.{ranges_in}
use Rattle.st_lists.proofs.counts.ids_carried.Given as goal

abbrev pub invariant-loop-entry : goal.invariant-loop-entry
invariant-loop-entry l = l.count ≡ min (carried_count l.session (ranges_in (take l.entry-index l.entries))) (2 ^ 32 - 1)
