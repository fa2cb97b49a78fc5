use Rattle.st_commit_laws.proofs.Opening.{opening_within}
use Rattle.st_commit_laws.proofs.laws.commits_begin_tellable.Goals as goal

pub returns : goal.returns
returns c = record {
  commits = record { log = tt; clients = tt };
  opening = λ h k. opening_within h k;
}
