use Rattle.std.proofs.Common.{sym}
use Rattle.std.specs.BTreeMap.{get}
use Rattle.st_ids.specs.Order.{node_cmp, same_node}
use Rattle.st_forest.specs.inside.Writes.{new_seat}
use Rattle.st_forest.proofs.Written.{written_more}
use Rattle.st_forest.proofs.seats.add_nodes.Goals as goal

pub loop-node-preserved : goal.loop-node-preserved
loop-node-preserved c = λ n.
    written_more same_node new_seat c.args.new.now c.loop-node.node-index c.node-item.result c.node-item.result n (get node_cmp c.loop-node.nodes n) (get node_cmp c.add_node.new.nodes n) (get node_cmp c.args.nodes.now n)
    c.loop-node-test.true (sym c.node-item.is) (c.loop-node.invariant n) (c.in_ok-add_node.ensures n)
