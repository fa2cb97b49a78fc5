use Rattle.st_push.proofs.ListsPushed.{one_list}
use Rattle.st_push.proofs.laws.one_list_shows.Goals as goal

pub returns : goal.returns
returns c = λ l D F G Ns Cs Xs a b. one_list l a b
