use Rattle.st_normal_step_laws.proofs.MentionsLater.{mentions-exact}
use Rattle.st_normal_step_laws.proofs.laws.step_mentions_are_exact.Goals as goal

pub returns : goal.returns
returns c = λ D S n x w o. mentions-exact D S x w o n
