use Rattle.std.proofs.Common.{subst, sym}
use Rattle.st_ids.specs.Listing.{Has}
use Rattle.st_marks.specs.Agree.{JoinClash}
use Rattle.st_agree.proofs.TestAnswers.{refused_along, tells_least}
use Rattle.st_part_agree_laws.proofs.PartsAgree.{agree_as_parts}
use Rattle.st_join_parts.proofs.agreement.agree_parts.Goals as goal

pub returns-clause-named : goal.returns-clause-named
returns-clause-named c =
    refused_along c.refused_at.result (λ a. Has c.as_slice.result.now a.field) (λ a. JoinClash c.args.first.now c.args.then.now a.field)
    (λ a h. c.in_ok-found.ensures.clash a.field (subst (λ l. Has l a.field) c.as_slice.ensures h)) c.refused_at.ensures.among

pub returns-clause-apart : goal.returns-clause-apart
returns-clause-apart c = λ one other.
    tells_least c.refused_at.result c.as_slice.result.now (JoinClash c.args.first.now c.args.then.now) c.refused_at.ensures.ok c.refused_at.ensures.among c.refused_at.ensures.least
    (λ f h. c.in_ok-found.ensures.clash f (subst (λ l. Has l f) c.as_slice.ensures h))
    (λ f d. subst (λ l. Has l f) (sym c.as_slice.ensures) (c.in_ok-found.ensures.all one other f d))

pub returns-clause-over : goal.returns-clause-over
returns-clause-over c = λ D N M x parts sound short first next.
    refused_along c.refused_at.result (λ a. Has c.as_slice.result.now a.field) (λ a. ⊥)
    (λ a h. agree_as_parts D N M c.args.first.now c.args.then.now x parts sound short first next a.field (c.in_ok-found.ensures.clash a.field (subst (λ l. Has l a.field) c.as_slice.ensures h))) c.refused_at.ensures.among
