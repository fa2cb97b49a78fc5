use Rattle.st_valid_laws.proofs.FirstFailing.{not_both, one_cause, valid_or_refused}
use Rattle.st_valid_laws.proofs.laws.messages_are_judged_once.Goals as goal

pub returns : goal.returns
returns c = record {
  one = one_cause;
  apart = not_both;
  judged = valid_or_refused;
}
