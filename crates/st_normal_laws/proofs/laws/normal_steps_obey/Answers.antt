use Rattle.st_normal_laws.proofs.StepRules.{step_obeys}
use Rattle.st_normal_laws.proofs.laws.normal_steps_obey.Goals as goal

pub returns : goal.returns
returns c = λ S n. step_obeys n.0 n.1 S n.2 n.3
