use Rattle.st_valid_laws.proofs.Readings.{message_refused, message_valid, no_message_refused, one_reading, refused_as_message, valid_as_message}
use Rattle.st_valid_laws.proofs.laws.values_are_judged_as_messages.Goals as goal

pub returns : goal.returns
returns c = record {
  one = one_reading;
  none = no_message_refused;
  refused = λ O log d m cause read. (refused_as_message O log d m read cause, message_refused O log d m read cause);
  valid = λ O log d m read. (valid_as_message O log d m read, message_valid O log d m read);
}
