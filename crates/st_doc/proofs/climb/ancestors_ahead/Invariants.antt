use Rattle.std.proofs.Common.{◌+◌, ◌*◌}
use Rattle.std.specs.BTreeMap.{keys}
use Rattle.std.specs.BTreeSet.{contains}
use Rattle.st_ids.specs.Order.{node_cmp}
use Rattle.st_doc.specs.inside.Ahead.{above_ahead}
use Rattle.st_doc.proofs.Climbing.{Climbing, missing, flag}
use Rattle.st_doc.proofs.climb.ancestors_ahead.Given as goal

abbrev pub invariant-loop-next : goal.invariant-loop-next
invariant-loop-next l = Climbing (above_ahead l.intent l.targets l.place) (contains node_cmp l.above) l.fn.node l.next

abbrev pub decreases-loop-next : goal.decreases-loop-next
decreases-loop-next l = 2 * (missing (keys l.targets) (contains node_cmp l.above) + missing (keys l.place) (contains node_cmp l.above)) + flag l.next
