use Rattle.st_normal.proofs.Linked.{up_listed}
use Rattle.st_normal.proofs.links.stand_in_ring.Goals as goal

pub has_ring-requires : goal.has_ring-requires
has_ring-requires g c = up_listed (g.W.Walk.left c.of.result.walk)
