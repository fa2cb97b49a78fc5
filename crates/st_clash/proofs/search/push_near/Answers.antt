use Rattle.st_ids.proofs.Orders.{cell_cmp_exact}
use Rattle.st_clash.proofs.search.push_near.Goals as goal

pub place_of-requires-clause-exact : goal.place_of-requires-clause-exact
place_of-requires-clause-exact c = cell_cmp_exact
