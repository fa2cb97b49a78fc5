use Rattle.std.proofs.Common.{sym, ap, ◌∙◌}
use Rattle.st_ids.specs.Listing.{item_of}
use Rattle.st_ids.specs.Order.{node_cmp}
use Rattle.st_marks.specs.declared.marks.RowMarks.{RowMarks}
use Rattle.st_listings.proofs.ListLoops.{mapped_more}
use Rattle.st_strip.specs.inside.Told.{row_behind}
use Rattle.st_strip.proofs.ToldApart.{item_short}
use Rattle.st_strip.proofs.rows.rows_behind.Goals as goal

pub row_behind-requires-clause-first : goal.row_behind-requires-clause-first
row_behind-requires-clause-first c = item_short c.args.first.now c.row-item.result.node _ c.requires.first c.row_in-before.ensures

pub loop-row-preserved : goal.loop-row-preserved
loop-row-preserved c =
    mapped_more (λ (r : RowMarks). row_behind (item_of node_cmp (λ (q : RowMarks). q.node) c.args.first.now r.node) r) c.args.whole.now c.loop-row.row-index c.row-item.result c.in_ok-row_behind.field-0 c.loop-row.rows c.push.new.self
    c.loop-row-test.true (sym c.row-item.is) (c.in_ok-row_behind.ensures ∙ ap (λ o. row_behind o c.row-item.result) c.row_in-before.ensures) c.in_ok-push.ensures.ok c.loop-row.invariant
