use Rattle.st_push.proofs.ListsPushed.{push}
use Rattle.st_push.proofs.laws.changes_are_pushed.Goals as goal

pub returns : goal.returns
returns c = λ l carries D E F Ns Cs S x f g shown s. push l carries shown E S x f g s
