use Rattle.std.proofs.Common.{get_or, refl}
use Rattle.std.specs.BTreeSet.{contains}
use Rattle.st_ids.specs.Order.{node_cmp}
use Rattle.st_ids.specs.Root.{root}
use Rattle.st_part_listings.specs.Together.{unless_new}
use Rattle.st_part_listings.proofs.ListLoops.{filtered_more}
use Rattle.st_part_listings.proofs.nodes.old_needs.Goals as goal

pub loop-node-preserved : goal.loop-node-preserved
loop-node-preserved c =
    filtered_more (unless_new (contains node_cmp c.args.new.now)) c.args.need.now c.loop-node.node-index root (get_or c.args.need.now c.loop-node.node-index root) c.unless_new.result c.loop-node.list c.push_if_some.new.list
    c.loop-node-test.true refl c.unless_new.ensures c.in_ok-push_if_some.ensures c.loop-node.invariant
