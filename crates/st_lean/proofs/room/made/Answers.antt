use Rattle.st_marks.specs.declared.marks.Mark.{Mark}
use Rattle.st_lean.proofs.RowRoom.{made_step}
use Rattle.st_lean.proofs.room.made.Goals as goal

pub loop-mark-preserved : goal.loop-mark-preserved
loop-mark-preserved c =
    made_step c.as_slice-mark-items.result.now c.loop-mark.mark-index c.loop-mark.count c.made_one.result c.saturating_add.result c.min-count.result (Mark.Skip 0)
    c.loop-mark-test.true c.loop-mark.invariant c.made_one.ensures c.saturating_add.ensures c.min-count.ensures
