use Rattle.std.proofs.Common.{get_or, refl}
use Rattle.std.specs.BTreeSet.{contains}
use Rattle.st_ids.specs.Order.{cell_cmp}
use Rattle.st_ids.specs.declared.names.CellId.{CellId}
use Rattle.st_turn_names.proofs.CellSets.{set_more}
use Rattle.st_turn_names.proofs.owners.set_of.Goals as goal

blank : CellId
blank = record { 0 = record { rev = record { session = 0; num = 0 }; at = 0 } }

pub loop-cell-preserved : goal.loop-cell-preserved
unfolding blank
loop-cell-preserved c =
    set_more c.args.cells.now c.loop-cell.cell-index blank (get_or c.args.cells.now c.loop-cell.cell-index blank) (contains cell_cmp c.loop-cell.set) (contains cell_cmp c.add.new.set)
    c.loop-cell-test.true refl c.in_ok-add.ensures c.loop-cell.invariant
