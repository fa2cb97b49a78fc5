use Rattle.st_push.proofs.ListsPushed.{then_one}
use Rattle.st_push.proofs.laws.seats_take_commits.Goals as goal

pub returns : goal.returns
returns c = λ l B A T Ns Cs N C S v carries shown x s f g a b is d. (carries A T N C S v x f g a b is d s, then_one shown N C v is d)
