use Rattle.st_one_answers.proofs.OneRelation.{compared_one}
use Rattle.st_one_answers.proofs.laws.one_relation.Goals as goal

pub returns : goal.returns
returns c = compared_one
