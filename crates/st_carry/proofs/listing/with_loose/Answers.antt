use Rattle.std.proofs.Common.{◌≡◌}
use Rattle.st_lemmas.proofs.Options.{IfOk-along}
use Rattle.st_marks.specs.declared.steps.Step.{Step}
use Rattle.st_carry.specs.inside.Listed.{HasFields}
use Rattle.st_carry.proofs.listing.with_loose.Goals as goal

pub returns : goal.returns
returns g c =
    let S = c.args.step.now in
    let loose = c.in_ok-loose.loose in
    IfOk-along c.with_fields.result (λ (G : Step). G ≡ record S { rows = c.args.rows; regs = c.args.regs; loose = loose }) (HasFields c.args.across.now.was c.args.across.now.is c.args.change.now S c.args.rows c.args.regs)
    (λ G e. (loose, c.in_ok-loose.ensures, e)) c.with_fields.ensures
