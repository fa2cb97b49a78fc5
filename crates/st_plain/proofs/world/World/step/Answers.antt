use Rattle.st_script.specs.Steps.{step_view}
use Rattle.st_plain.proofs.Standing.{may_step_few, may_step_sound, step_allowed, step_next, step_refused}
use Rattle.st_plain.proofs.world.World.step.Goals as goal

pub make_step-requires-clause-sound : goal.make_step-requires-clause-sound
make_step-requires-clause-sound c = may_step_sound c.args.self.now c.requires.may

pub make_step-requires-clause-few : goal.make_step-requires-clause-few
make_step-requires-clause-few c = may_step_few c.args.self.now c.requires.may

pub returns-clause-next : goal.returns-clause-next
returns-clause-next c =
    let e = c.make_step.ensures in
    step_next c.args.self.now c.make_step.new.self (step_view c.args.step.now) c.make_step.result e.next e.sound e.fresh e.steps e.header

pub returns-clause-refused : goal.returns-clause-refused
returns-clause-refused c =
    let e = c.make_step.ensures in
    step_refused c.args.self.now c.make_step.new.self (step_view c.args.step.now) c.make_step.result e.refused e.sound e.fresh

pub returns-clause-allowed : goal.returns-clause-allowed
returns-clause-allowed c = step_allowed c.args.self.now c.make_step.new.self (step_view c.args.step.now) c.make_step.result c.make_step.ensures.allowed
