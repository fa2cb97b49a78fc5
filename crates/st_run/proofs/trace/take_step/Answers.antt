use Rattle.std.proofs.Common.{◌+◌, ℕ, List, subst}
use Rattle.std.proofs.lemmas.Result.{IfOk-weaker}
use Rattle.st_script.specs.Steps.{step_view}
use Rattle.st_run.specs.inside.Replies.{IsTelling}
use Rattle.st_run.specs.inside.Standing.{IsUnderWay}
use Rattle.st_run.proofs.Tracing.{step_told}
use Rattle.st_run.proofs.trace.take_step.Goals as goal

pub returns : goal.returns
returns c =
    IfOk-weaker c.tell.result _ _
    (λ r told k h w u. step_told h w (step_view c.args.step.now) (IsUnderWay (k + 1) c.make_told_step.new.world c.make_told_step.new.authors h) _ r (c.in_ok-answer.ensures k h w u)
    (subst (λ (t : List ℕ). IsTelling t r) c.in_ok-text.ensures told)) c.tell.ensures
