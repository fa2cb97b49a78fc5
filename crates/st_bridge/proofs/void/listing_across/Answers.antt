use Rattle.std.proofs.Common.{◌≡◌}
use Rattle.st_lemmas.proofs.Options.{IfOk-along}
use Rattle.st_marks.specs.declared.steps.Step.{Step}
use Rattle.st_marks.specs.CarryOut.{void}
use Rattle.st_trim.specs.Trimmed.{ListsStep}
use Rattle.st_steps.proofs.StepsAcross.{lists_over_void}
use Rattle.st_bridge.proofs.AcrossListed.{is_across}
use Rattle.st_bridge.proofs.void.listing_across.Goals as goal

pub returns : goal.returns
returns c = λ D E N x f h plain short later emb s.
    let C = c.args.change.now in
    let S = c.args.step.now in
    IfOk-along c.with_rows.result (λ (g : Step). g ≡ record S { rows = c.in_ok-rows.rows }) (λ (g : Step). ListsStep (void D N) (void E N) s.mentioned g)
    (λ g e. lists_over_void D E N C S x f h plain short later emb s g (is_across C S g c.in_ok-rows.rows s.rows.rising c.in_ok-rows.ensures e)) c.with_rows.ensures
