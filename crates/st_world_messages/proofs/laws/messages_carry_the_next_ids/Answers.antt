use Rattle.st_world_messages.proofs.Tests.{has_ids}
use Rattle.st_world_messages.proofs.laws.messages_carry_the_next_ids.Goals as goal

pub returns : goal.returns
returns c = λ h n w i m x few at. has_ids h n w x i m at few
