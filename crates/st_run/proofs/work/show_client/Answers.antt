use Rattle.std.proofs.lemmas.Result.{IfOk-weaker}
use Rattle.st_script.specs.Steps.{step_view}
use Rattle.st_script.specs.Steps as step
use Rattle.st_load_laws.specs.Load.{step_by}
use Rattle.st_run.proofs.Loads.{loaded_goes, showing_step, shown_as}
use Rattle.st_run.proofs.work.show_client.Goals as goal

pub text_after-requires-clause-goes : goal.text_after-requires-clause-goes
text_after-requires-clause-goes c = loaded_goes c.args.world.now c.requires.loaded

pub text_after-requires-clause-shows : goal.text_after-requires-clause-shows
text_after-requires-clause-shows c = showing_step c.args.world.now (step_view c.in_ok-step.step) c.args.name.now c.in_ok-step.ensures c.requires.among c.requires.loaded

pub returns : goal.returns
returns c =
    IfOk-weaker c.text_after.result _ _
    (λ text shown. shown_as c.args.world.now c.text_after.new.world (step_view c.in_ok-step.step) (step_by step.show c.args.name.now) text c.in_ok-step.ensures shown) c.text_after.ensures
