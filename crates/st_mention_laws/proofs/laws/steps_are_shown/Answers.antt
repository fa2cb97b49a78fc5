use Rattle.st_mention_laws.proofs.ThinForms.{shows_itself-step, shows_thin-step}
use Rattle.st_mention_laws.proofs.laws.steps_are_shown.Goals as goal

pub returns : goal.returns
returns c = λ D E S step. (shows_itself-step D E S step, shows_thin-step D E S step)
