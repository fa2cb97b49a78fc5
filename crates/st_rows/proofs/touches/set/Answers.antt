use Rattle.st_ids.specs.Order.{same_node}
use Rattle.st_rows.proofs.touches.set.Goals as goal

pub returns : goal.returns
unfolding same_node
returns c = λ n. c.in_ok-insert.ensures.updates.0 n
