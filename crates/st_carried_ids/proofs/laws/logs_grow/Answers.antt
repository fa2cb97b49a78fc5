use Rattle.st_carried_ids.proofs.LogSteps.{log_grown}
use Rattle.st_carried_ids.proofs.laws.logs_grow.Goals as goal

pub returns : goal.returns
returns c = λ h w v s a next. log_grown h w v s a next
