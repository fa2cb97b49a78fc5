use Rattle.st_ids.specs.Order.{same_node}
use Rattle.st_change_listings.proofs.places.keep.Goals as goal

pub returns : goal.returns
unfolding same_node
returns c = c.in_ok-keep_at.ensures
