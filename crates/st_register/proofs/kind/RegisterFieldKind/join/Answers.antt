use Rattle.std.proofs.Common.{◌≡◌, ap, sym, ◌∙◌, rules}
use Rattle.st_register.specs.Readings.{left_by}
use Rattle.st_register.proofs.Registers.{left_is}
use Rattle.st_register.proofs.kind.RegisterFieldKind.join.Goals as goal

pub returns-in_err-agree-clause-joined : goal.returns-in_err-agree-clause-joined
returns-in_err-agree-clause-joined c p q j d w f e v h =
    let one : c.left_whole.result ≡ c.args.then.now.held = c.left_whole.ensures ∙ ap left_by e ∙ left_is p d.node f ∙ sym (ap (λ y. y.held) h) in
    search rules
