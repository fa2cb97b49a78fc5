use Rattle.st_ids.proofs.Orders.{field_cmp_exact}
use Rattle.st_fast_path.proofs.passes.register_passes.Goals as goal

pub item_at-requires-clause-exact : goal.item_at-requires-clause-exact
item_at-requires-clause-exact c = field_cmp_exact
