use Rattle.std.proofs.Common.{get_or, refl}
use Rattle.std.specs.BTreeSet.{contains}
use Rattle.st_ids.specs.Order.{cell_cmp}
use Rattle.st_ids.specs.declared.names.CellId.{CellId}
use Rattle.st_clash.specs.inside.Made.{only_if}
use Rattle.st_clash.proofs.LeastFields.{flat_more}
use Rattle.st_clash.proofs.made.push_those_in.Goals as goal

blank : CellId
blank = record { 0 = record { rev = record { session = 0; num = 0 }; at = 0 } }

pub loop-cell-preserved : goal.loop-cell-preserved
unfolding blank
loop-cell-preserved c =
    flat_more (only_if (contains cell_cmp c.args.set.now)) c.args.bad.now c.loop-cell.bad c.push_if_in.new.bad c.args.cells.now c.loop-cell.cell-index
    blank (get_or c.args.cells.now c.loop-cell.cell-index blank) c.loop-cell-test.true refl c.loop-cell.invariant c.in_ok-push_if_in.ensures
