use Rattle.st_ids.specs.Order.{same_node}
use Rattle.st_puts.proofs.maps.keep.Goals as goal

pub returns : goal.returns
unfolding same_node
returns g c = c.in_ok-keep_at.ensures
