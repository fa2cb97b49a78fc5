use Rattle.st_normal_step_laws.proofs.StepsFind.{finds_what_is_so}
use Rattle.st_normal_step_laws.proofs.laws.steps_find_what_is_so.Goals as goal

pub returns : goal.returns
returns c = λ D E S x s. finds_what_is_so D E S x s
