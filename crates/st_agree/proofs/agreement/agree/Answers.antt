use Rattle.std.proofs.Common.{subst, sym, ◌∙◌}
use Rattle.st_ids.specs.Listing.{Has}
use Rattle.st_marks.specs.Agree.{RebaseClash}
use Rattle.st_agree.proofs.TestAnswers.{refused_along, tells_least}
use Rattle.st_agree.proofs.agreement.agree.Goals as goal

pub returns-clause-named : goal.returns-clause-named
returns-clause-named c =
    refused_along c.refused_at.result (λ a. Has c.as_slice.result.now a.field) (λ a. RebaseClash c.args.change.now c.args.step.now a.field)
    (λ a h. c.in_ok-found.ensures.clash a.field (subst (λ l. Has l a.field) c.as_slice.ensures h)) c.refused_at.ensures.among

pub returns-clause-apart : goal.returns-clause-apart
returns-clause-apart c = λ change step.
    tells_least c.refused_at.result c.as_slice.result.now (RebaseClash c.args.change.now c.args.step.now) c.refused_at.ensures.ok c.refused_at.ensures.among c.refused_at.ensures.least
    (λ f h. c.in_ok-found.ensures.clash f (subst (λ l. Has l f) c.as_slice.ensures h))
    (λ f d. subst (λ l. Has l f) (sym c.as_slice.ensures) (c.in_ok-found.ensures.all change step f d))

pub returns-clause-over : goal.returns-clause-over
returns-clause-over c = λ D E N x fits later emb step.
    refused_along c.refused_at.result (λ a. Has c.as_slice.result.now a.field) (λ a. ⊥)
    (λ a h. subst (λ l. Has l a.field) (c.as_slice.ensures ∙ c.in_ok-found.ensures.over D E N x fits later emb step) h) c.refused_at.ensures.among
