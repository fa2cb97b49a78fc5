use Rattle.std.proofs.Common.{[], unwrap_or, option_copied, get_or, refl}
use Rattle.st_marks.specs.declared.marks.Mark.{Mark}
use Rattle.st_over_step.proofs.Passing.{passes_nothing, one_mark, no_mark}
use Rattle.st_over_step.proofs.rows.past_marks.Goals as goal

pub loop-mark-init : goal.loop-mark-init
loop-mark-init c = passes_nothing (unwrap_or (option_copied c.args.row) []) 0

pub loop-mark-preserved : goal.loop-mark-preserved
loop-mark-preserved c = one_mark (unwrap_or (option_copied c.args.row) []) c.args.marks.now c.loop-mark.mark-index c.loop-mark.place (Mark.Skip 0) (get_or c.args.marks.now c.loop-mark.mark-index (Mark.Skip 0)) c.past_mark.result c.in_ok-place.place c.loop-mark-test.true refl c.loop-mark.invariant c.past_mark.ensures c.in_ok-place.was

pub returns-in_err-place : goal.returns-in_err-place
returns-in_err-place c = no_mark (unwrap_or (option_copied c.args.row) []) c.args.marks.now c.loop-mark.mark-index c.loop-mark.place (Mark.Skip 0) (get_or c.args.marks.now c.loop-mark.mark-index (Mark.Skip 0)) c.past_mark.result c.from_residual.result c.loop-mark-test.true refl c.loop-mark.invariant c.past_mark.ensures c.in_err-place.was c.from_residual.ensures
