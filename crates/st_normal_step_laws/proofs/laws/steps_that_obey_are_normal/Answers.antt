use Rattle.st_normal_step_laws.proofs.SeedOfStep.{step_normal}
use Rattle.st_normal_step_laws.proofs.laws.steps_that_obey_are_normal.Goals as goal

pub returns : goal.returns
returns c = λ S w. step_normal S w
