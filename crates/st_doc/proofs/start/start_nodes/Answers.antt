use Rattle.std.proofs.Common.{sym}
use Rattle.std.specs.BTreeMap.{get}
use Rattle.st_ids.specs.Order.{node_cmp}
use Rattle.st_doc.specs.Nodes.{type_of}
use Rattle.st_opening.specs.Start.{type_at}
use Rattle.st_doc.proofs.Starting.{said_more}
use Rattle.st_doc.proofs.start.start_nodes.Goals as goal

pub loop-x-preserved : goal.loop-x-preserved
loop-x-preserved c = λ n.
    said_more (type_at n) (type_of (get node_cmp c.loop-x.nodes n)) (type_of (get node_cmp c.add_node.new.nodes n)) c.args.flat.now c.loop-x.x-index c.x-item.result c.x-item.result c.loop-x-test.true (sym c.x-item.is)
    (c.loop-x.invariant n) (c.in_ok-add_node.ensures n)
