use Rattle.std.proofs.Common.{map}
use Rattle.st_part_rings.proofs.UpTables.{link_node}
use Rattle.std.specs.BTreeMap.{get}
use Rattle.st_ids.specs.Order.{node_cmp}
use Rattle.st_normal.proofs.Meeting.{Climbing, missing}
use Rattle.st_part_rings.proofs.rings.closes_ring.Given as goal

abbrev pub invariant-climb : goal.invariant-climb
invariant-climb l = Climbing (get node_cmp l.up) (get node_cmp l.met) l.start l.here

abbrev pub decreases-climb : goal.decreases-climb
decreases-climb l = missing (map link_node l.links) (get node_cmp l.met)
