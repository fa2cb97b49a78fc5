use Rattle.st_register.proofs.Existence.{has_step, step_between, step_there}
use Rattle.st_register.proofs.laws.registers_have_steps.Goals as goal

pub returns : goal.returns
returns c = record {
  register = has_step;
  documents = step_between;
  listed = step_there;
}
