use Rattle.st_world_messages.proofs.Tests.{has_revision}
use Rattle.st_world_messages.proofs.laws.messages_have_new_revisions.Goals as goal

pub returns : goal.returns
returns c = λ h n w i m x at. has_revision h n w x i m at
