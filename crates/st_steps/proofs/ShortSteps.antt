-- A step lists few cells of each row, since documents do.
use Rattle.std.proofs.Common.{◌<◌, ◌^◌, length, ap, sym, ◌∙◌, subst}
use Rattle.st_marks.proofs.Members.{has-all}
use Rattle.st_marks.specs.Document.{Document}
use Rattle.st_marks.specs.Extends.{IsExtendedBy}
use Rattle.st_marks.specs.Row.{spread}
use Rattle.st_marks.specs.Step.{IsStep}
use Rattle.st_marks.specs.declared.marks.RowMarks.{RowMarks}
use Rattle.st_marks.specs.declared.steps.Step.{Step}
use Rattle.st_rows.proofs.Documents.{can_hold}
use Rattle.st_rows.proofs.KindLaws.{length-step_row}
use Rattle.st_puts.proofs.StepPlaces.{row-look}
use Rattle.st_steps.specs.Short.{HasShortRowsListed}

pub step_short : (D E : Document) (S : Step) → IsExtendedBy D E → IsStep D E S → HasShortRowsListed S
step_short D E S x s = has-all (λ (r : RowMarks). length (spread r.marks) < 2 ^ 32) S.rows
    (λ r i. subst (λ j. j < 2 ^ 32) (sym (ap length (row-look D E S x s r i).0 ∙ length-step_row s.mentioned (s.grows r.node))) (can_hold E x.after r.node).short)
