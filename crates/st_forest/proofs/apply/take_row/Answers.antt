use Rattle.st_ids.specs.Order.{same_node}
use Rattle.st_forest.proofs.apply.take_row.Goals as goal

pub returns-in-Some-clause-rest : goal.returns-in-Some-clause-rest
unfolding same_node
returns-in-Some-clause-rest c = λ n q. c.remove.ensures.updates.2 n q
