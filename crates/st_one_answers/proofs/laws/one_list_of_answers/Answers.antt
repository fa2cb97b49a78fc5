use Rattle.st_one_answers.proofs.OneListOfAnswers.{answers_one, front_of_answers}
use Rattle.st_one_answers.proofs.laws.one_list_of_answers.Goals as goal

pub returns : goal.returns
returns c = record { one = answers_one c.requests_have_one_answer.ensures; front = front_of_answers c.requests_have_one_answer.ensures }
