use Rattle.st_cross_laws.proofs.StepsCrossed.{crossed_there}
use Rattle.st_cross_laws.proofs.laws.steps_beside_are_crossed.Goals as goal

pub returns : goal.returns
returns c = λ l D E N C X S G v u x f g short short_later data_alone is there change later step got. crossed_there l D E N C X S G v u x f g short short_later data_alone is there change later step got
