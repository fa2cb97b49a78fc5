use Rattle.std.proofs.Common.{sym}
use Rattle.std.specs.BTreeSet.{contains}
use Rattle.st_ids.specs.Order.{cell_cmp}
use Rattle.st_clash.specs.inside.Bad.{row_naming}
use Rattle.st_clash.proofs.LeastFields.{flat_more}
use Rattle.st_turn_names.proofs.owners.push_naming.Goals as goal

pub loop-row-preserved : goal.loop-row-preserved
loop-row-preserved c =
    flat_more (row_naming (contains cell_cmp c.args.set.now)) c.args.found.now c.loop-row.found c.push_if_naming.new.found c.args.rows.now c.loop-row.row-index
    c.row-item.result c.row-item.result c.loop-row-test.true (sym c.row-item.is) c.loop-row.invariant c.in_ok-push_if_naming.ensures
