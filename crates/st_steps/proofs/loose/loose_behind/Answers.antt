use Rattle.std.proofs.Common.{get_or, refl}
use Rattle.std.specs.BTreeSet.{contains}
use Rattle.st_ids.specs.Order.{node_cmp}
use Rattle.st_puts.proofs.Firsts.{no_loose}
use Rattle.st_steps.specs.inside.Told.{loose_behind}
use Rattle.st_listings.proofs.ListLoops.{filtered_more}
use Rattle.st_steps.proofs.loose.loose_behind.Goals as goal

pub loop-one-preserved : goal.loop-one-preserved
loop-one-preserved c =
    filtered_more (loose_behind (contains node_cmp c.args.stood.now) (contains node_cmp c.args.new.now)) c.args.loose.now c.loop-one.one-index no_loose (get_or c.args.loose.now c.loop-one.one-index no_loose) c.behind_one.result c.loop-one.list c.push_if_some.new.list
    c.loop-one-test.true refl c.behind_one.ensures c.in_ok-push_if_some.ensures c.loop-one.invariant
