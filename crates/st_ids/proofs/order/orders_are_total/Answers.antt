use Rattle.st_ids.proofs.Orders.{node_cmp_total, cell_cmp_total, field_cmp_total}
use Rattle.st_ids.proofs.order.orders_are_total.Goals as goal

pub returns-clause-nodes : goal.returns-clause-nodes
returns-clause-nodes c = node_cmp_total

pub returns-clause-cells : goal.returns-clause-cells
returns-clause-cells c = cell_cmp_total

pub returns-clause-fields : goal.returns-clause-fields
returns-clause-fields c = field_cmp_total
