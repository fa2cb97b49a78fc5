use Rattle.std.proofs.Common.{refl, sym}
use Rattle.std.specs.BTreeSet.{contains}
use Rattle.st_ids.specs.Order.{node_cmp}
use Rattle.st_listings.proofs.ListLoops.{filtered_more}
use Rattle.st_strip.specs.inside.Told.{unless_made}
use Rattle.st_strip.proofs.new.all_unless.Goals as goal

pub loop-node-preserved : goal.loop-node-preserved
loop-node-preserved c =
    let f = unless_made (contains node_cmp c.args.made.now) in
    filtered_more f c.args.nodes.now c.loop-node.node-index c.node-item.result c.node-item.result (f c.node-item.result) c.loop-node.list c.push_unless.new.list
    c.loop-node-test.true (sym c.node-item.is) refl c.in_ok-push_unless.ensures c.loop-node.invariant
