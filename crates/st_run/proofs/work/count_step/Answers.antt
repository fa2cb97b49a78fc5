use Rattle.st_script.specs.Steps.{step_view}
use Rattle.st_run.proofs.Loads.{step_counted}
use Rattle.st_run.proofs.work.count_step.Goals as goal

pub returns-clause-made : goal.returns-clause-made
returns-clause-made c =
    step_counted c.args.world.now c.make_step.new.world (step_view c.args.step.now) c.in_ok-answer.answer c.refusals.result c.in_ok-answer.ensures c.refusals.ensures.count
