use Rattle.std.proofs.Common.{ap, sym, ◌∙◌, ◌∷◌, [], subst}
use Rattle.st_marks.specs.Row.{spread}
use Rattle.st_rows.specs.Merged.{IsMerged}
use Rattle.st_marks.proofs.MarkLengths.{spread-append}
use Rattle.st_rows.proofs.MergedMarks.{behind_merged}
use Rattle.st_rows.proofs.mark_builder.push_cell.Goals as goal

pub returns-clause-merged : goal.returns-clause-merged
returns-clause-merged c = subst IsMerged (sym c.in_ok-push.ensures.ok) (behind_merged c.args.out.now c.args.mark c.requires.named c.requires.merged)

pub returns-clause-cells : goal.returns-clause-cells
returns-clause-cells c = ap spread c.in_ok-push.ensures.ok ∙ spread-append c.args.out.now (c.args.mark ∷ [])
