use Rattle.st_ids.specs.Order.{same_node}
use Rattle.st_doc.proofs.rows.take_row.Goals as goal

pub returns-in-None-clause-rest : goal.returns-in-None-clause-rest
unfolding same_node
returns-in-None-clause-rest c = c.remove.ensures.updates.0

pub returns-in-Some-clause-rest : goal.returns-in-Some-clause-rest
unfolding same_node
returns-in-Some-clause-rest c = c.remove.ensures.updates.0
