use Rattle.std.proofs.Common.{◌^◌}
use Rattle.st_marks.specs.declared.marks.Mark.{Mark}
use Rattle.st_rows.specs.Cells.{inverted_mark}
use Rattle.st_rows.proofs.MarkByMark.{map_on, map_fits}
use Rattle.st_rows.proofs.row_invert.inverted_marks.Goals as goal

pub push-requires-clause-room : goal.push-requires-clause-room
push-requires-clause-room c = map_fits inverted_mark c.args.step.now c.loop-mark.out c.inverted_mark.result (Mark.Skip 0) c.loop-mark.mark-index (2 ^ 32) c.loop-mark-test.true c.loop-mark.invariant.cells c.inverted_mark.ensures c.requires

pub loop-mark-preserved : goal.loop-mark-preserved
loop-mark-preserved c = record {
  merged = c.in_ok-push.ensures.merged;
  cells = map_on inverted_mark c.args.step.now c.loop-mark.out c.push.new.out c.inverted_mark.result (Mark.Skip 0) c.loop-mark.mark-index c.loop-mark-test.true c.loop-mark.invariant.cells c.inverted_mark.ensures c.in_ok-push.ensures.cells;
}
