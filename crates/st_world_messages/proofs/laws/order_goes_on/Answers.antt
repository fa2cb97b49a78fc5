use Rattle.st_world_messages.proofs.Going.{goes_in_order}
use Rattle.st_world_messages.proofs.laws.order_goes_on.Goals as goal

pub returns : goal.returns
returns c = λ h n w v s a x rules v4 next. goes_in_order h n w v s a x rules v4 next
