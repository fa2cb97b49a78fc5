use Rattle.st_world_messages.proofs.Tests.{is_valid, valid_log}
use Rattle.st_world_messages.proofs.laws.world_logs_are_valid.Goals as goal

pub returns : goal.returns
returns c = λ h n w x few. valid_log h n w x (λ i m at. is_valid h n w x i m at few)
