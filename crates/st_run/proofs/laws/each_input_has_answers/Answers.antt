use Rattle.st_run.proofs.Deciding.{has_answers}
use Rattle.st_run.proofs.laws.each_input_has_answers.Goals as goal

pub returns : goal.returns
returns c = has_answers
