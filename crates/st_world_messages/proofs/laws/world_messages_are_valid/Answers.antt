use Rattle.st_world_messages.proofs.Tests.{is_valid}
use Rattle.st_world_messages.proofs.laws.world_messages_are_valid.Goals as goal

pub returns : goal.returns
returns c = λ h n w i m x few at. is_valid h n w x i m at few
