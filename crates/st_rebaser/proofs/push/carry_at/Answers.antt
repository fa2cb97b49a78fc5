use Rattle.std.proofs.Common.{◌∙◌, ap, sym}
use Rattle.std.specs.Option.{option_copied_mut}
use Rattle.st_rebaser.proofs.Pushing.{no_turn}
use Rattle.st_rebaser.proofs.push.carry_at.Goals as goal

pub returns-in_default-get_mut : goal.returns-in_default-get_mut
returns-in_default-get_mut g c =
    no_turn g.R.Carrier.listed c.args.place c.args.changes.now c.args.verdicts.now c.args.step.now c.in-Some.change.now
    (sym c.get_mut.ensures.value ∙ ap option_copied_mut c.in-Some.is)
    (sym c.get_mut-2.ensures.value ∙ ap option_copied_mut c.in_default-get_mut.is)
