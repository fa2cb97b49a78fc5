use Rattle.std.proofs.Common.{sym}
use Rattle.std.specs.BTreeSet.{contains}
use Rattle.st_ids.specs.Order.{node_cmp}
use Rattle.st_listings.proofs.ListLoops.{filtered_more}
use Rattle.st_trim.specs.inside.Cut.{cut_row}
use Rattle.st_parts.proofs.rows.trim_rows.Goals as goal

pub loop-row-preserved : goal.loop-row-preserved
loop-row-preserved c =
    filtered_more (cut_row (contains node_cmp c.args.named.now)) c.args.rows.now c.loop-row.row-index c.row-item.result c.row-item.result c.in_ok-trim_row.field-0 c.loop-row.trimmed c.push_row.new.rows
    c.loop-row-test.true (sym c.row-item.is) c.in_ok-trim_row.ensures c.in_ok-push_row.ensures c.loop-row.invariant
