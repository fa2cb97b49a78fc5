use Rattle.std.specs.BTreeMap.{values}
use Rattle.st_part_listings.proofs.MapListings.{values_left}
use Rattle.st_part_listings.proofs.unions.in_order.Goals as goal

pub loop-item-preserved : goal.loop-item-preserved
loop-item-preserved g c = values_left c.loop-item.list c.push_copy.new.list (values c.args.map.now) c.loop-item.item-iterator c.next.new.self c.in-Some.item.now c.in-Some.ensures.steps c.in_ok-push_copy.ensures c.loop-item.invariant
