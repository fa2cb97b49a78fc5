use Rattle.st_ids.proofs.Orders.{field_cmp_exact}
use Rattle.st_ids.proofs.order.orders_are_exact.Goals as goal

pub returns-clause-fields : goal.returns-clause-fields
returns-clause-fields c = field_cmp_exact
