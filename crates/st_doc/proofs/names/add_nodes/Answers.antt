use Rattle.std.proofs.Common.{sym}
use Rattle.std.specs.BTreeMap.{get}
use Rattle.st_ids.specs.Order.{same_node, node_cmp}
use Rattle.st_doc.proofs.Look.{added_more}
use Rattle.st_doc.proofs.names.add_nodes.Goals as goal

pub loop-node-preserved : goal.loop-node-preserved
unfolding same_node
loop-node-preserved c = λ n. added_more (λ m. same_node m.node n) (get node_cmp c.args.nodes.now n) (get node_cmp c.loop-node.nodes n) (get node_cmp c.add.new.map n)
    c.as_slice-node-items.result.now c.loop-node.node-index c.node-item.result c.node-item.result c.in_ok-copy.field-0 c.loop-node-test.true (sym c.node-item.is) c.in_ok-copy.ensures (c.loop-node.invariant n) (c.in_ok-add.ensures n)
