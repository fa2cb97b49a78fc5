use Rattle.st_ids.proofs.Orders.{node_cmp_exact}
use Rattle.st_agree.proofs.search.push_near.Goals as goal

pub place_of-requires-clause-exact : goal.place_of-requires-clause-exact
place_of-requires-clause-exact c = node_cmp_exact
