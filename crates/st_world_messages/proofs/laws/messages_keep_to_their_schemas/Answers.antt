use Rattle.st_world_messages.proofs.Tests.{keeps_to_schema}
use Rattle.st_world_messages.proofs.laws.messages_keep_to_their_schemas.Goals as goal

pub returns : goal.returns
returns c = λ h n w i m x at. keeps_to_schema h n w x i m at
