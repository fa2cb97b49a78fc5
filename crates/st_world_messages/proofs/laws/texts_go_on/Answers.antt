use Rattle.st_world_messages.proofs.Replayed.{texts_after}
use Rattle.st_world_messages.proofs.laws.texts_go_on.Goals as goal

pub returns : goal.returns
returns c = λ h n w v s a t line next. texts_after h n w v s a t line next
