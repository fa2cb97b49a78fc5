use Rattle.std.proofs.Common.{◌+◌, ◌*◌}
use Rattle.std.specs.BTreeSet.{contains}
use Rattle.st_ids.specs.Order.{node_cmp}
use Rattle.st_climb.proofs.Climbs.{Climbing, missing, flag}
use Rattle.st_climb.proofs.climb.add_upwards.Given as goal

abbrev pub invariant-loop-next : goal.invariant-loop-next
invariant-loop-next g l = Climbing (g.A.Above.up l.places) (contains node_cmp l.initial.nodes) (contains node_cmp l.nodes) l.fn.node l.next

abbrev pub decreases-loop-next : goal.decreases-loop-next
decreases-loop-next g l = 2 * missing (g.A.Above.lower l.places) (contains node_cmp l.nodes) + flag l.next
