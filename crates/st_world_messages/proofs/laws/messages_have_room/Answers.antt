use Rattle.st_world_messages.proofs.Tests.{has_space}
use Rattle.st_world_messages.proofs.laws.messages_have_room.Goals as goal

pub returns : goal.returns
returns c = λ h n w i m x at. has_space h n w x i m at
