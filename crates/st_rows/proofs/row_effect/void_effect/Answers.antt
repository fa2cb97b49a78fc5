use Rattle.std.proofs.Common.{ap, ◌∙◌}
use Rattle.st_marks.specs.Row.{spread, step_row, embed_row}
use Rattle.st_rows.specs.Cells.{void_row}
use Rattle.st_rows.specs.Changes.{placed_by, void_part}
use Rattle.st_rows.proofs.NoErrors.{both_ok}
use Rattle.st_rows.proofs.RowEffects.{grown_row}
use Rattle.st_rows.proofs.VoidRows.{void_row-embed_row}
use Rattle.st_rows.proofs.MergedMarks.{merged_is}
use Rattle.st_rows.proofs.KindLaws.{spread_of}
use Rattle.st_rows.proofs.row_effect.void_effect.Goals as goal

pub returns-clause-carried : goal.returns-clause-carried
returns-clause-carried c = λ p a h old.
    let placed = placed_by c.args.in_new c.args.new.now in
    both_ok c.voided_marks.result c.voided_marks.ensures.merged c.voided_marks.ensures.cells (λ t m e. record {
      grows = grown_row (void_part placed p) a;
      says = merged_is t (step_row p.mentioned (grown_row (void_part placed p) a)) m (e ∙ ap (λ l. void_row placed (spread l)) c.as_slice.ensures ∙ ap (void_row placed) (spread_of c.args.change.now (embed_row p a) h.says) ∙ void_row-embed_row placed p a old);
    })

pub returns-clause-marks : goal.returns-clause-marks
returns-clause-marks c =
    let placed = placed_by c.args.in_new c.args.new.now in
    both_ok c.voided_marks.result c.voided_marks.ensures.merged c.voided_marks.ensures.cells
    (λ t m e. merged_is t (void_row placed (spread c.args.change.now)) m (e ∙ ap (λ l. void_row placed (spread l)) c.as_slice.ensures))
