use Rattle.std.specs.BTreeMap.{get}
use Rattle.st_ids.specs.Order.{node_cmp}
use Rattle.st_part_rings.proofs.UpTables.{up_listed}
use Rattle.st_part_rings.proofs.left.tells_ring.Goals as goal

pub have_ring-requires : goal.have_ring-requires
have_ring-requires c = up_listed c.args.links.now (get node_cmp c.in_ok-up.up) c.in_ok-up.ensures

pub returns : goal.returns
returns c = (get node_cmp c.in_ok-up.up, c.in_ok-up.ensures, c.in_ok-ring.ensures)
