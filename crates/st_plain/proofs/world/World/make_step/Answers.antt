use Rattle.st_script.specs.Steps.{step_view}
use Rattle.st_plain.proofs.Showing.{next_allowed}
use Rattle.st_plain.proofs.world.World.make_step.Goals as goal

pub returns-clause-allowed : goal.returns-clause-allowed
returns-clause-allowed c = next_allowed c.args.self.now (step_view c.args.step.now) c.answer.new.self.lists c.in_ok-answer.answer (c.requires.sound c.if-self.false) c.in_ok-answer.ensures.next
