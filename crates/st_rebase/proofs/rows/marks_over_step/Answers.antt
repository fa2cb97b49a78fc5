use Rattle.std.proofs.Common.{◌≡◌, subst, sym}
use Rattle.std.specs.BTreeSet.{contains}
use Rattle.st_ids.specs.Order.{node_cmp}
use Rattle.st_marks.specs.Row.{merge, spread}
use Rattle.st_rows.specs.Merged.{IsMerged}
use Rattle.st_rebase.specs.Rest.{rest_row}
use Rattle.st_rebase.proofs.RowOver.{marks_law}
use Rattle.st_rebase.proofs.rows.marks_over_step.Goals as goal

pub returns : goal.returns
returns c =
    let m = contains node_cmp c.args.named.now in
    marks_law m c.args.marks.now c.args.step.now c.in_ok-rest.rest c.marks_over.result
    (λ h. subst (λ s. c.in_ok-rest.rest ≡ merge (rest_row (contains node_cmp c.args.named.now) (spread s))) c.as_slice.ensures (c.in_ok-rest.ensures (subst IsMerged (sym c.as_slice.ensures) h)))
    c.marks_over.ensures
