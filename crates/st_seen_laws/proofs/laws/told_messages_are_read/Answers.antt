use Rattle.st_seen_laws.proofs.Reading.{message_read}
use Rattle.st_seen_laws.proofs.laws.told_messages_are_read.Goals as goal

pub returns : goal.returns
returns c = message_read
