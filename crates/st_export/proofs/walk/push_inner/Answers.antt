use Rattle.std.proofs.Common.{sym, subst}
use Rattle.st_doc.proofs.LiveTexts.{on_any}
use Rattle.st_export.specs.inside.Beneath.{AreBeneath, inner}
use Rattle.st_export.proofs.Shown.{occupants_beneath, on_ok, row_beneath}
use Rattle.st_export.proofs.walk.push_inner.Goals as goal

pub returns-then-not-has_row-clause-beneath : goal.returns-then-not-has_row-clause-beneath
returns-then-not-has_row-clause-beneath c =
    let F = c.args.forest.now in
    let n = c.args.node in
    on_ok c.push_occupants.result
    (λ ordered D stands sound. subst (λ b. AreBeneath D n (inner F n b)) (sym c.if-not-has_row.true) (occupants_beneath F D stands n ordered sound)) c.push_occupants.ensures.ordered

pub returns-in-Some-clause-beneath : goal.returns-in-Some-clause-beneath
returns-in-Some-clause-beneath c =
    let F = c.args.forest.now in
    let n = c.args.node in
    on_any c.push_items.result _ (λ D stands sound. subst (λ b. AreBeneath D n (inner F n b)) (sym c.if-not-has_row.false) (row_beneath F D stands n sound))
