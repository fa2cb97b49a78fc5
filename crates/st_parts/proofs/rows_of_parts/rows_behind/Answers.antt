use Rattle.std.proofs.Common.{sym, ap, ◌∙◌}
use Rattle.st_ids.specs.Listing.{item_of}
use Rattle.st_ids.specs.Order.{node_cmp}
use Rattle.st_marks.specs.declared.marks.RowMarks.{RowMarks}
use Rattle.st_parts.specs.inside.OfParts.{row_behind}
use Rattle.st_listings.proofs.ListLoops.{mapped_more}
use Rattle.st_parts.proofs.rows_of_parts.rows_behind.Goals as goal

pub loop-row-preserved : goal.loop-row-preserved
loop-row-preserved c =
    mapped_more (λ (r : RowMarks). row_behind (item_of node_cmp (λ (q : RowMarks). q.node) c.args.first.now r.node) r) c.args.second.now c.loop-row.row-index c.row-item.result c.in_ok-row_behind.field-0 c.loop-row.rows c.push.new.self
    c.loop-row-test.true (sym c.row-item.is) (c.in_ok-row_behind.ensures ∙ ap (λ o. row_behind o c.row-item.result) (c.get-before.ensures.value ∙ c.in_ok-table.ensures c.row-item.result.node)) c.in_ok-push.ensures.ok c.loop-row.invariant
