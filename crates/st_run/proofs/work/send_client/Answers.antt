use Rattle.std.proofs.lemmas.Result.{on_ok_weaker}
use Rattle.st_script.specs.Steps.{step_view}
use Rattle.st_script.specs.Steps as step
use Rattle.st_script.specs.declared.answer.Answer.TheVariants as answer
use Rattle.st_script.specs.declared.refusal.Refusal.TheVariants as no
use Rattle.st_load_laws.specs.Load.{step_by}
use Rattle.st_run.proofs.Loads.{emptied_as, sends_soon}
use Rattle.st_run.proofs.work.send_client.Goals as goal

pub until-requires-clause-ends : goal.until-requires-clause-ends
until-requires-clause-ends c = sends_soon c.args.world.now (step_view c.in_ok-step.step) c.args.name.now c.in_ok-step.ensures c.requires.among c.requires.loaded

pub returns : goal.returns
returns c =
    on_ok_weaker c.until.result
    (λ emptied. emptied_as c.args.world.now c.until.new.world (step_view c.in_ok-step.step) (step_by step.sequence c.args.name.now) (answer.No no.NothingToSend) c.in_ok-step.ensures emptied) c.until.ensures
