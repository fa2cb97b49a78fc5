use Rattle.std.proofs.Common.{◌≡◌, None, Option, subst}
use Rattle.std.proofs.lemmas.Result.{IfOk-weaker}
use Rattle.std.specs.BTreeSet.{contains}
use Rattle.std.specs.Prelude.{IfOk}
use Rattle.st_ids.specs.Order.{node_cmp}
use Rattle.st_marks.specs.declared.marks.RowMarks.{RowMarks}
use Rattle.st_rebase.specs.inside.Room.{IsRowOver}
use Rattle.st_rebase.proofs.RowOver.{row_stays}
use Rattle.st_rebase.proofs.rows.rebase_row.Goals as goal

pub returns-in-None-clause-over : goal.returns-in-None-clause-over
returns-in-None-clause-over c =
    let m = contains node_cmp c.args.named.now in
    subst (λ (o : Option RowMarks). IfOk c.copy.result (IsRowOver m o c.args.row.now)) c.in-None.ensures
    (IfOk-weaker c.copy.result (λ t. t ≡ c.args.row.now) (IsRowOver m None c.args.row.now) (λ t e. row_stays m c.args.row.now t e) c.copy.ensures)

pub returns-in-Some-clause-over : goal.returns-in-Some-clause-over
returns-in-Some-clause-over c =
    subst (λ (o : Option RowMarks). IfOk c.row_over_step.result (IsRowOver (contains node_cmp c.args.named.now) o c.args.row.now)) c.in-Some.ensures c.row_over_step.ensures.over
