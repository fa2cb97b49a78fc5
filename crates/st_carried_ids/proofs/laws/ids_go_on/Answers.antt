use Rattle.st_carried_ids.proofs.Going.{ids_next}
use Rattle.st_carried_ids.proofs.laws.ids_go_on.Goals as goal

pub returns : goal.returns
returns c = λ h w v s a world carry rules next. ids_next h w v s a world carry rules next
