use Rattle.std.specs.BTreeMap.{get}
use Rattle.st_ids.specs.Order.{node_cmp}
use Rattle.st_normal.proofs.Meeting.{Climbing, missing}
use Rattle.st_normal.proofs.rings.closes_ring.Given as goal

abbrev pub invariant-climb : goal.invariant-climb
invariant-climb g l = Climbing (g.H.Hangs.up l.hangs) (get node_cmp l.met) l.start l.here

abbrev pub decreases-climb : goal.decreases-climb
decreases-climb g l = missing (g.H.Hangs.nodes l.hangs) (get node_cmp l.met)
