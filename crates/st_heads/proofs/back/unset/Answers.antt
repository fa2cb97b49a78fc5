use Rattle.st_ids.specs.Order.{same_node}
use Rattle.st_heads.proofs.back.unset.Goals as goal

pub returns : goal.returns
unfolding same_node
returns c = λ n. c.remove.ensures.updates.0 n
