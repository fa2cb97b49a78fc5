use Rattle.std.proofs.Common.{◌⊎◌, length}
use Rattle.std.specs.BTreeMap.{get}
use Rattle.st_ids.specs.declared.names.NodeId.{NodeId}
use Rattle.st_ids.specs.Listing.{Has}
use Rattle.st_ids.specs.Order.{node_cmp}
use Rattle.st_marks.specs.Document.{ClimbsToAnEnd}
use Rattle.st_normal.specs.inside.Ring.{HaveEnded}
use Rattle.st_normal.proofs.rings.find_ring.Given as goal

abbrev pub invariant-nodes : goal.invariant-nodes
invariant-nodes g l = record {
  ended : HaveEnded (g.H.Hangs.up l.hangs) (get node_cmp l.met);
  gone : (n : NodeId) → Has (g.H.Hangs.nodes l.hangs) n → Has (g.H.Hangs.rest l.hangs l.place) n ⊎ ClimbsToAnEnd (g.H.Hangs.up l.hangs) n;
}

abbrev pub decreases-nodes : goal.decreases-nodes
decreases-nodes g l = length (g.H.Hangs.rest l.hangs l.place)
