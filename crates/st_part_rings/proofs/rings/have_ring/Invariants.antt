use Rattle.std.proofs.Common.{◌≤◌, ◌-◌, length, take}
use Rattle.std.specs.BTreeMap.{get}
use Rattle.st_ids.specs.Listing.{Has}
use Rattle.st_ids.specs.Order.{node_cmp}
use Rattle.st_marks.specs.Document.{ClimbsToAnEnd}
use Rattle.st_normal.specs.inside.Ring.{HaveEnded}
use Rattle.st_part_rings.specs.declared.links.Link.{Link}
use Rattle.st_part_rings.proofs.rings.have_ring.Given as goal

abbrev pub invariant-nodes : goal.invariant-nodes
invariant-nodes l = record {
  within : l.at ≤ length l.links;
  ended : HaveEnded (get node_cmp l.up) (get node_cmp l.met);
  gone : (x : Link) → Has (take l.at l.links) x → ClimbsToAnEnd (get node_cmp l.up) x.node;
}

abbrev pub decreases-nodes : goal.decreases-nodes
decreases-nodes l = length l.links - l.at
