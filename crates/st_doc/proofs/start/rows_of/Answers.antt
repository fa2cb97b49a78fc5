use Rattle.std.proofs.Common.{[], sym, unwrap_or}
use Rattle.std.specs.BTreeMap.{get}
use Rattle.st_ids.specs.Order.{node_cmp}
use Rattle.st_tree.specs.declared.flat.FlatNode.{FlatNode as Flat}
use Rattle.st_opening.specs.Start.{cell_at}
use Rattle.st_doc.proofs.Starting.{filtered_more}
use Rattle.st_doc.proofs.start.rows_of.Goals as goal

pub loop-x-preserved : goal.loop-x-preserved
loop-x-preserved c = λ n.
    filtered_more (λ (x : Flat). cell_at n x.node x.at) (unwrap_or (get node_cmp c.loop-x.rows n) []) (unwrap_or (get node_cmp c.add_cell.new.rows n) []) c.args.flat.now c.loop-x.x-index c.x-item.result c.x-item.result c.loop-x-test.true (sym c.x-item.is)
    (c.loop-x.invariant n) (c.in_ok-add_cell.ensures n)
