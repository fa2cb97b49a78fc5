use Rattle.std.proofs.Common.{List, map, ap, ◌∙◌}
use Rattle.st_marks.specs.declared.marks.RowMarks.{RowMarks}
use Rattle.st_thin.specs.inside.Thinning.{row_thinned}
use Rattle.st_thin.proofs.RowsThinned.{all_thinned}
use Rattle.st_thin.proofs.whole.thin_step.Goals as goal

pub returns : goal.returns
returns c = λ h. ap (λ (l : List RowMarks). record c.args.step.now { rows = l }) (c.in_ok-step.ensures ∙ ap (map row_thinned) c.as_slice.ensures ∙ all_thinned c.args.step.now.rows h)
