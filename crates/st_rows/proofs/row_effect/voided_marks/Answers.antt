use Rattle.std.proofs.Common.{◌^◌}
use Rattle.st_marks.specs.declared.marks.Mark.{Mark}
use Rattle.st_rows.specs.Cells.{voided_mark}
use Rattle.st_rows.specs.Changes.{placed_by}
use Rattle.st_rows.proofs.MarkByMark.{map_on, map_fits}
use Rattle.st_rows.proofs.row_effect.voided_marks.Goals as goal

pub push-requires-clause-room : goal.push-requires-clause-room
push-requires-clause-room c = map_fits (voided_mark (placed_by c.args.in_new c.args.new.now)) c.args.change.now c.loop-mark.out c.voided_mark.result (Mark.Skip 0) c.loop-mark.mark-index (2 ^ 32) c.loop-mark-test.true c.loop-mark.invariant.cells c.voided_mark.ensures c.requires.short

pub loop-mark-preserved : goal.loop-mark-preserved
loop-mark-preserved c = record {
  merged = c.in_ok-push.ensures.merged;
  cells = map_on (voided_mark (placed_by c.args.in_new c.args.new.now)) c.args.change.now c.loop-mark.out c.push.new.out c.voided_mark.result (Mark.Skip 0) c.loop-mark.mark-index c.loop-mark-test.true c.loop-mark.invariant.cells c.voided_mark.ensures c.in_ok-push.ensures.cells;
}
