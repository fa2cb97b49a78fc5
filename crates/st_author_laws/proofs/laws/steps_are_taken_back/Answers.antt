use Rattle.st_author_laws.proofs.ChangesOver.{step_taken_back}
use Rattle.st_author_laws.proofs.laws.steps_are_taken_back.Goals as goal

pub returns : goal.returns
returns c = step_taken_back
