use Rattle.st_ids.specs.Order.{same_node}
use Rattle.st_doc.proofs.live_text.take.Goals as goal

pub returns-clause-rest : goal.returns-clause-rest
unfolding same_node
returns-clause-rest c = c.remove.ensures.updates.0
