use Rattle.std.proofs.Common.{[], sym, unwrap_or}
use Rattle.std.specs.BTreeMap.{get}
use Rattle.st_ids.specs.Order.{node_cmp}
use Rattle.st_marks.specs.declared.marks.RowMarks.{RowMarks}
use Rattle.st_listed.specs.inside.Rows.{step_row}
use Rattle.st_listings.proofs.ListLoops.{mapped_more}
use Rattle.st_listed.proofs.listed.step_rows.Goals as goal

pub loop-row-preserved : goal.loop-row-preserved
loop-row-preserved c =
    mapped_more (λ (r : RowMarks). step_row (unwrap_or (get node_cmp c.args.forest.now.rows r.node) []) r) c.args.rows.now c.loop-row.row-index c.row-item.result c.in_ok-list_step_row.field-0 c.loop-row.listed c.push.new.self
    c.loop-row-test.true (sym c.row-item.is) c.in_ok-list_step_row.ensures c.in_ok-push.ensures.ok c.loop-row.invariant
