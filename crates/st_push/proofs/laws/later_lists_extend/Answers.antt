use Rattle.st_push.proofs.LaterLists.{later}
use Rattle.st_push.proofs.laws.later_lists_extend.Goals as goal

pub returns : goal.returns
returns c = λ D E F G Ns x f g r q. later r q x f g
