use Rattle.st_msg.proofs.Back.{message_back}
use Rattle.st_msg.proofs.Read.{message_same, message_within}
use Rattle.st_msg.proofs.laws.messages_are_read_back.Goals as goal

pub returns : goal.returns
returns c = record {
  written = message_back;
  within = message_within;
  read = message_same;
}
