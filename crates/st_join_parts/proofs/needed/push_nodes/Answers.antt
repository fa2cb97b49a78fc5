use Rattle.std.proofs.Common.{get_or, refl}
use Rattle.std.specs.BTreeSet.{contains}
use Rattle.st_ids.specs.Order.{node_cmp}
use Rattle.st_ids.specs.Root.{root}
use Rattle.st_clash.proofs.LeastFields.{flat_more}
use Rattle.st_join_parts.specs.inside.Clashes.{rows_made}
use Rattle.st_join_parts.proofs.needed.push_nodes.Goals as goal

pub loop-node-preserved : goal.loop-node-preserved
loop-node-preserved c =
    flat_more (rows_made (contains node_cmp c.args.made.now)) c.args.found.now c.loop-node.found c.push_node.new.found c.args.nodes.now c.loop-node.node-index
    root (get_or c.args.nodes.now c.loop-node.node-index root) c.loop-node-test.true refl c.loop-node.invariant c.in_ok-push_node.ensures
