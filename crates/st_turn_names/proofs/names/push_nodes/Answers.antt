use Rattle.std.specs.BTreeSet.{contains}
use Rattle.st_ids.specs.Order.{node_cmp}
use Rattle.std.proofs.Common.{get_or, refl}
use Rattle.st_ids.specs.Root.{root}
use Rattle.st_turn_names.specs.inside.Names.{made_again}
use Rattle.st_clash.proofs.LeastFields.{flat_more}
use Rattle.st_turn_names.proofs.names.push_nodes.Goals as goal

pub loop-node-preserved : goal.loop-node-preserved
loop-node-preserved c =
    flat_more (made_again (contains node_cmp c.args.made.now)) c.args.found.now c.loop-node.found c.push_node.new.found c.args.nodes.now c.loop-node.node-index
    root (get_or c.args.nodes.now c.loop-node.node-index root) c.loop-node-test.true refl c.loop-node.invariant c.in_ok-push_node.ensures
