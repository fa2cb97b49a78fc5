use Rattle.std.proofs.Common.{ap, sym, ◌∙◌}
use Rattle.st_clash.proofs.InEffect.{suits, suits-there, there-suited}
use Rattle.st_clash.proofs.schemas.have_schemas.Goals as goal

pub returns-in-None-clause-all : goal.returns-in-None-clause-all
returns-in-None-clause-all c = λ w. c.suits_alone.ensures ∙ ap (suits c.args.change.now) (sym c.in-None.is) ∙ suits-there c.args.change.now c.args.step.now w

pub returns-in-None-clause-some : goal.returns-in-None-clause-some
returns-in-None-clause-some c = λ fits h. there-suited c.args.change.now c.args.step.now fits (ap (suits c.args.change.now) c.in-None.is ∙ sym c.suits_alone.ensures ∙ h)

pub returns-in-Some-clause-all : goal.returns-in-Some-clause-all
returns-in-Some-clause-all c = λ w. c.suits_part.ensures ∙ ap (suits c.args.change.now) (sym c.in-Some.is) ∙ suits-there c.args.change.now c.args.step.now w

pub returns-in-Some-clause-some : goal.returns-in-Some-clause-some
returns-in-Some-clause-some c = λ fits h. there-suited c.args.change.now c.args.step.now fits (ap (suits c.args.change.now) c.in-Some.is ∙ sym c.suits_part.ensures ∙ h)
