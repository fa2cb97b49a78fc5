use Rattle.st_kind.specs.Named.{either}
use Rattle.st_marks.specs.Verdict.{carried_document}
use Rattle.st_marks.proofs.OneVerdict.{carried_extends}
use Rattle.st_trim.specs.Evicted.{in_cleared}
use Rattle.st_effect.proofs.effects.step_by.Goals as goal

pub returns-clause-exact : goal.returns-clause-exact
returns-clause-exact c = λ D N x f short emb h.
    c.trim_step.ensures.exact D (carried_document c.args.verdict D N) (either emb.mentioned (in_cleared D N)) (carried_extends D N c.args.verdict x f short h) (c.in_ok-listing.ensures.exact D N x f short emb h)

pub returns-clause-shown : goal.returns-clause-shown
returns-clause-shown c = λ D N x f short shown h.
    let l = c.in_ok-listing.ensures.shown D N x f short shown h in
    c.trim_step.ensures.shown D (carried_document c.args.verdict D N) (either shown.1.mentioned (in_cleared D N)) l.0 (carried_extends D N c.args.verdict x f short h) l.1 l.2
