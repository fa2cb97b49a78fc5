use Rattle.std.proofs.Common.{ap, ◌∙◌}
use Rattle.st_marks.specs.Row.{spread, step_row}
use Rattle.st_rows.specs.Cells.{invert_row}
use Rattle.st_rows.proofs.NoErrors.{both_ok}
use Rattle.st_rows.proofs.RowsBack.{invert_row-step_row, backward}
use Rattle.st_rows.proofs.MergedMarks.{merged_is}
use Rattle.st_rows.proofs.KindLaws.{spread_of}
use Rattle.st_rows.proofs.row_invert.invert.Goals as goal

pub returns-clause-inverted : goal.returns-clause-inverted
returns-clause-inverted c = λ m a d s. both_ok c.inverted_marks.result c.inverted_marks.ensures.merged c.inverted_marks.ensures.cells (λ t h e. record {
  grows = backward s.grows;
  says = merged_is t (step_row m (backward s.grows)) h (e ∙ ap (λ l. invert_row (spread l)) c.as_slice.ensures ∙ ap invert_row (spread_of c.args.step.now (step_row m s.grows) s.says) ∙ invert_row-step_row m s.grows);
})

pub returns-clause-marks : goal.returns-clause-marks
returns-clause-marks c = both_ok c.inverted_marks.result c.inverted_marks.ensures.merged c.inverted_marks.ensures.cells
    (λ t h e. merged_is t (invert_row (spread c.args.step.now)) h (e ∙ ap (λ l. invert_row (spread l)) c.as_slice.ensures))
