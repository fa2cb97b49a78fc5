use Rattle.st_world_messages.proofs.Tests.{in_context}
use Rattle.st_world_messages.proofs.laws.messages_are_in_context.Goals as goal

pub returns : goal.returns
returns c = λ h n w i m x at. in_context h n w x i m at
