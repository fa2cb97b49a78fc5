use Rattle.std.proofs.Common.{ap, ◌∙◌}
use Rattle.st_marks.specs.Row.{spread, step_row, embed_row}
use Rattle.st_rows.specs.Cells.{effect_row}
use Rattle.st_rows.proofs.NoErrors.{both_ok}
use Rattle.st_rows.proofs.RowEffects.{effect_row-embed_row, grown_row}
use Rattle.st_rows.proofs.MergedMarks.{merged_is}
use Rattle.st_rows.proofs.KindLaws.{spread_of}
use Rattle.st_rows.proofs.row_effect.effect.Goals as goal

pub returns-clause-carried : goal.returns-clause-carried
returns-clause-carried c = λ p a h. both_ok c.effected_marks.result c.effected_marks.ensures.merged c.effected_marks.ensures.cells (λ t m e. record {
  grows = grown_row p a;
  says = merged_is t (step_row p.mentioned (grown_row p a)) m (e ∙ ap (λ l. effect_row (spread l)) c.as_slice.ensures ∙ ap effect_row (spread_of c.args.change.now (embed_row p a) h.says) ∙ effect_row-embed_row p a h.mentions);
})

pub returns-clause-marks : goal.returns-clause-marks
returns-clause-marks c = both_ok c.effected_marks.result c.effected_marks.ensures.merged c.effected_marks.ensures.cells
    (λ t m e. merged_is t (effect_row (spread c.args.change.now)) m (e ∙ ap (λ l. effect_row (spread l)) c.as_slice.ensures))
