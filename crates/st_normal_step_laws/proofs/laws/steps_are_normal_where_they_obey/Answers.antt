use Rattle.st_normal_laws.proofs.StepRules.{step_obeys}
use Rattle.st_normal_step_laws.proofs.SeedOfStep.{step_normal}
use Rattle.st_normal_step_laws.proofs.laws.steps_are_normal_where_they_obey.Goals as goal

pub returns : goal.returns
returns c = λ S. (λ n. step_obeys n.0 n.1 S n.2 n.3, λ w. step_normal S w)
