use Rattle.st_ids.proofs.Orders.{node_cmp_exact}
use Rattle.st_fast_path.proofs.raising.row_in.Goals as goal

pub item_at-requires-clause-exact : goal.item_at-requires-clause-exact
item_at-requires-clause-exact c = node_cmp_exact
