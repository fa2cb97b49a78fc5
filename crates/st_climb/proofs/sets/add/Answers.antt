use Rattle.st_ids.specs.Order.{same_node}
use Rattle.st_climb.proofs.sets.add.Goals as goal

pub returns : goal.returns
unfolding same_node
returns c = c.in_ok-add_name.ensures
