use Rattle.std.proofs.Common.{get_or, refl}
use Rattle.std.specs.BTreeSet.{contains}
use Rattle.st_ids.specs.Order.{cell_cmp}
use Rattle.st_marks.specs.declared.marks.Mark.{Mark}
use Rattle.st_strip.specs.inside.Told.{makes}
use Rattle.st_strip.proofs.MadeCells.{made_more}
use Rattle.st_strip.proofs.cells.cells_made.Goals as goal

pub loop-mark-preserved : goal.loop-mark-preserved
loop-mark-preserved c = λ a.
    made_more (makes a) c.args.marks.now c.loop-mark.mark-index (Mark.Skip 0) (get_or c.args.marks.now c.loop-mark.mark-index (Mark.Skip 0))
    (contains cell_cmp c.loop-mark.set a) (contains cell_cmp c.add_made.new.set a) c.loop-mark-test.true refl (c.loop-mark.invariant a) (c.in_ok-add_made.ensures a)
