use Rattle.st_steps.proofs.ShortSteps.{step_short}
use Rattle.st_steps.proofs.laws.steps_have_short_rows.Goals as goal

pub returns : goal.returns
returns c = step_short
