use Rattle.std.proofs.Common.{◌≡◌, Ok, rules}
use Rattle.std.proofs.lemmas.Result.{IfOk-weaker}
use Rattle.st_script.specs.Line.{step_of_line}
use Rattle.st_script.specs.Steps.{step_view}
use Rattle.st_script.proofs.OfForm.{line_formed}
use Rattle.st_script.proofs.Fits.{line_fits}
use Rattle.st_run.proofs.Deciding.{fits_rules}
use Rattle.st_run.proofs.Tracing.{opened_by, step_replied, steps_on}
use Rattle.st_run.proofs.trace.take_read.Goals as goal

pub take_step-requires-clause-goes : goal.take_step-requires-clause-goes
take_step-requires-clause-goes c = steps_on c.args.world.now c.args.authors.now c.requires.under_way

pub take_step-requires-clause-form : goal.take_step-requires-clause-form
take_step-requires-clause-form c =
    let is : step_of_line c.args.line.now ≡ Ok (step_view c.in-Step.step) = search rules in
    line_formed c.args.line.now (step_view c.in-Step.step) is

pub take_step-requires-clause-rules : goal.take_step-requires-clause-rules
take_step-requires-clause-rules c =
    let is : step_of_line c.args.line.now ≡ Ok (step_view c.in-Step.step) = search rules in
    let s = step_view c.in-Step.step in
    fits_rules s.branch s.act (line_fits c.args.line.now s is).1

pub returns-in-Step : goal.returns-in-Step
returns-in-Step c =
    let is : step_of_line c.args.line.now ≡ Ok (step_view c.in-Step.step) = search rules in
    IfOk-weaker c.take_step.result _ _
    (λ r by k h w u. step_replied h w (step_view c.in-Step.step) k c.args.number c.take_step.new.world c.take_step.new.authors c.args.line.now r is (by k h w u)) c.take_step.ensures

pub take_other-requires-clause-no_step : goal.take_other-requires-clause-no_step
take_other-requires-clause-no_step c = search rules

pub returns-in-Bad : goal.returns-in-Bad
returns-in-Bad c =
    IfOk-weaker c.take_other.result _ _
    (λ r by k h w u. opened_by h w k c.args.number c.args.world.now c.take_other.new.authors c.args.line.now r (by k h w u)) c.take_other.ensures
