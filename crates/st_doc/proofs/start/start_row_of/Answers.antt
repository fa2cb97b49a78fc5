use Rattle.std.proofs.Common.{sym}
use Rattle.std.specs.BTreeMap.{get}
use Rattle.st_ids.specs.Order.{cell_cmp}
use Rattle.st_tree.specs.declared.flat.FlatNode.{FlatNode as Flat}
use Rattle.st_opening.specs.Start.{row_at}
use Rattle.st_doc.proofs.Starting.{said_more}
use Rattle.st_doc.proofs.start.start_row_of.Goals as goal

pub loop-x-preserved : goal.loop-x-preserved
loop-x-preserved c = λ d.
    said_more (λ (x : Flat). row_at d x.at) (get cell_cmp c.loop-x.row_of d) (get cell_cmp c.add_row_of.new.row_of d) c.args.flat.now c.loop-x.x-index c.x-item.result c.x-item.result c.loop-x-test.true (sym c.x-item.is)
    (c.loop-x.invariant d) (c.in_ok-add_row_of.ensures d)
