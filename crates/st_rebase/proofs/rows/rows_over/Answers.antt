use Rattle.std.specs.BTreeSet.{contains}
use Rattle.st_ids.specs.Listing.{item_of}
use Rattle.st_ids.specs.Order.{node_cmp}
use Rattle.st_marks.specs.declared.marks.RowMarks.{RowMarks}
use Rattle.st_rebase.specs.inside.Room.{IsRowOver}
use Rattle.st_rebase.proofs.RowOver.{exchanged_on}
use Rattle.st_rebase.proofs.rows.rows_over.Goals as goal

pub loop-row-preserved : goal.loop-row-preserved
loop-row-preserved c =
    exchanged_on (λ (r : RowMarks). r.node) (λ r t. IsRowOver (contains node_cmp c.args.named.now) (item_of node_cmp (λ (s : RowMarks). s.node) c.args.step.now r.node) r t)
    c.args.rows.now c.loop-row.over c.push.new.self c.loop-row.row-index c.row-item.result c.in_ok-rebase_row.field-0
    c.loop-row-test.true c.row-item.is c.loop-row.invariant c.in_ok-rebase_row.ensures.node c.in_ok-rebase_row.ensures.over c.in_ok-push.ensures.ok
