use Rattle.st_run.proofs.Deciding.{has_answer}
use Rattle.st_run.proofs.laws.each_run_has_an_answer.Goals as goal

pub returns : goal.returns
returns c = has_answer
