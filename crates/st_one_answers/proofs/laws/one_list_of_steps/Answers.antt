use Rattle.st_one_answers.proofs.OneListOfAnswers.{sound_steps_one}
use Rattle.st_one_answers.proofs.laws.one_list_of_steps.Goals as goal

pub returns : goal.returns
returns c = sound_steps_one
