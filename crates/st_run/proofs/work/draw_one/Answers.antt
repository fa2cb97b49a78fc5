use Rattle.std.proofs.lemmas.Result.{IfOk-weaker}
use Rattle.st_script.specs.Steps.{step_view}
use Rattle.st_work.specs.Generator.{step_drawn}
use Rattle.st_run.proofs.Loads.{counted_as}
use Rattle.st_run.proofs.work.draw_one.Goals as goal

pub returns-clause-made : goal.returns-clause-made
returns-clause-made c =
    IfOk-weaker c.count_step.result _ _
    (λ r counted. counted_as c.args.world.now c.count_step.new.world (step_view c.in_ok-step.step) (step_drawn c.args.work.now) r c.in_ok-step.ensures.step counted) c.count_step.ensures.made
