use Rattle.st_world_messages.proofs.Tests.{in_sequence, in_window, no_step_back, of_session}
use Rattle.st_world_messages.proofs.laws.messages_come_in_order.Goals as goal

pub returns : goal.returns
returns c = record {
  number = λ h n w i m x at. in_sequence h n w x i m at;
  session = λ h n w i m x at. of_session h n w x i m at;
  window = λ h n w i m x at. in_window h n w x i m at;
  reference = λ h n w i m x at. no_step_back h n w x i m at;
}
