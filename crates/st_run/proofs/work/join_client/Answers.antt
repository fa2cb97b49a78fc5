use Rattle.std.proofs.Common.{None}
use Rattle.std.proofs.lemmas.Result.{IfOk-weaker}
use Rattle.st_script.specs.Steps.{step_view}
use Rattle.st_script.specs.Steps as step
use Rattle.st_load_laws.specs.Load.{step_by}
use Rattle.st_run.proofs.Loads.{counted_as}
use Rattle.st_run.proofs.work.join_client.Goals as goal

pub returns : goal.returns
returns c =
    IfOk-weaker c.count_step.result _ _
    (λ r counted. counted_as c.args.world.now c.count_step.new.world (step_view c.in_ok-step.step) (step_by (step.join None) c.args.name.now) r c.in_ok-step.ensures counted) c.count_step.ensures.made
