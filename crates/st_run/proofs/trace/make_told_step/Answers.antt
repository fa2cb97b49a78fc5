use Rattle.st_script.specs.Steps.{step_view}
use Rattle.st_run.proofs.Tracing.{under_way_next}
use Rattle.st_run.proofs.trace.make_told_step.Goals as goal

pub returns : goal.returns
returns c = λ k h w u.
    let next = c.in_ok-answer.ensures k h w u.stands in (
      next.0,
      next.1,
      under_way_next h w next.0 (step_view c.args.step.now) c.in_ok-answer.answer k c.args.world.now c.make_step.new.world c.in_ok-told.told c.args.authors.now c.note.new.authors u c.requires.rules next.1 next.2 c.in_ok-told.ensures c.in_ok-note.ensures,
    )
