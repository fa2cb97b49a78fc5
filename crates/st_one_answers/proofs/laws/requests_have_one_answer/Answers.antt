use Rattle.st_one_answers.proofs.OneRequest.{asked_one}
use Rattle.st_one_answers.proofs.laws.requests_have_one_answer.Goals as goal

pub returns : goal.returns
returns c = asked_one
