use Rattle.st_world_messages.proofs.Going.{begun}
use Rattle.st_world_messages.proofs.laws.order_begins.Goals as goal

pub returns : goal.returns
returns c = λ h k. begun h k
