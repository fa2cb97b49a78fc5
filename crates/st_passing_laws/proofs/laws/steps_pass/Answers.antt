use Rattle.st_passing_laws.proofs.StepsRaised.{raised_between}
use Rattle.st_passing_laws.proofs.laws.steps_pass.Goals as goal

pub returns : goal.returns
returns w = raised_between
