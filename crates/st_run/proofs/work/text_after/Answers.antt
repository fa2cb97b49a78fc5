use Rattle.std.proofs.lemmas.Result.{IfOk-weaker}
use Rattle.st_script.specs.Steps.{step_view}
use Rattle.st_run.proofs.Loads.{is_text, text_shown}
use Rattle.st_run.proofs.work.text_after.Goals as goal

pub shown_text-requires : goal.shown_text-requires
shown_text-requires c = is_text c.args.world.now c.make_step.new.world (step_view c.args.step.now) c.in_ok-answer.answer c.requires.shows c.in_ok-answer.ensures

pub returns : goal.returns
returns c =
    IfOk-weaker c.shown_text.result _ _
    (λ text told. text_shown c.args.world.now c.make_step.new.world (step_view c.args.step.now) c.in_ok-answer.answer text c.requires.shows c.in_ok-answer.ensures told) c.shown_text.ensures
