use Rattle.st_script.specs.Steps.{step_view}
use Rattle.st_script.specs.declared.answer.Answer.TheVariants as answer
use Rattle.st_run.proofs.Loads.{turn_made}
use Rattle.st_run.proofs.work.turn.Goals as goal

pub returns : goal.returns
returns c =
    turn_made c.args.world.now c.make_step.new.world (step_view c.args.step.now) (answer.No c.args.last) c.in_ok-answer.answer c.is_refused.result c.in_ok-answer.ensures c.is_refused.ensures
