use Rattle.std.proofs.Common.{refl}
use Rattle.st_effect.proofs.effects.effect.Goals as goal

pub returns-clause-exact : goal.returns-clause-exact
returns-clause-exact c = λ D N x f short emb.
    let v = c.verdict-verdict.ensures D N x f (c.args.change.now, emb, refl) in
    (v, c.in_ok-step.ensures.exact D N x f short emb v)

pub returns-clause-shown : goal.returns-clause-shown
returns-clause-shown c = λ D N x f short shown.
    let v = c.verdict-verdict.ensures D N x f shown in
    (v, c.in_ok-step.ensures.shown D N x f short shown v)
