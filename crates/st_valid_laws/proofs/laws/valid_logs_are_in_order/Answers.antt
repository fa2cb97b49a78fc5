use Rattle.st_valid_laws.proofs.ValidLogs.{few_entries, have_new_revisions, have_own_revisions, have_sessions, in_turn, numbered, within_bound}
use Rattle.st_valid_laws.proofs.laws.valid_logs_are_in_order.Goals as goal

pub returns : goal.returns
returns c = record {
  numbers = λ O log v. numbered v;
  sessions = λ O log v. have_sessions v;
  ranges = λ O log v. in_turn v;
  bound = λ O log v. within_bound v;
  revisions = λ O log v. have_new_revisions v;
  own = λ O log v. have_own_revisions v;
  entries = λ O log v. few_entries v;
}
