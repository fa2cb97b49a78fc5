use Rattle.std.proofs.Common.{sym}
use Rattle.std.specs.BTreeSet.{contains}
use Rattle.st_ids.specs.Order.{node_cmp}
use Rattle.st_agree_turn.specs.inside.Rows.{row_apart}
use Rattle.st_clash.proofs.LeastFields.{flat_more}
use Rattle.st_agree_turn.proofs.rows.push_all.Goals as goal

pub loop-row-preserved : goal.loop-row-preserved
loop-row-preserved c =
    flat_more (row_apart c.args.left.now.rows.now (contains node_cmp c.args.left.now.made.now)) c.args.found.now c.loop-row.found c.push_row.new.found c.args.rows.now c.loop-row.row-index
    c.row-item.result c.row-item.result c.loop-row-test.true (sym c.row-item.is) c.loop-row.invariant c.in_ok-push_row.ensures
