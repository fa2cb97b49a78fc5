use Rattle.std.proofs.Common.{◌^◌}
use Rattle.st_marks.specs.declared.marks.Mark.{Mark}
use Rattle.st_rows.specs.Cells.{effected_mark}
use Rattle.st_rows.proofs.MarkByMark.{map_on, map_fits}
use Rattle.st_rows.proofs.row_effect.effected_marks.Goals as goal

pub push-requires-clause-room : goal.push-requires-clause-room
push-requires-clause-room c = map_fits effected_mark c.args.change.now c.loop-mark.out c.effected_mark.result (Mark.Skip 0) c.loop-mark.mark-index (2 ^ 32) c.loop-mark-test.true c.loop-mark.invariant.cells c.effected_mark.ensures c.requires

pub loop-mark-preserved : goal.loop-mark-preserved
loop-mark-preserved c = record {
  merged = c.in_ok-push.ensures.merged;
  cells = map_on effected_mark c.args.change.now c.loop-mark.out c.push.new.out c.effected_mark.result (Mark.Skip 0) c.loop-mark.mark-index c.loop-mark-test.true c.loop-mark.invariant.cells c.effected_mark.ensures c.in_ok-push.ensures.cells;
}
