use Rattle.st_replay.proofs.NumbersSeen.{has_number, number_seen}
use Rattle.st_replay.proofs.laws.others_have_no_number.Goals as goal

pub returns : goal.returns
returns c = record {
  seen = has_number;
  only = number_seen;
}
