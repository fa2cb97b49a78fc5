use Rattle.st_replay.proofs.AcceptedCommits.{may_enter}
use Rattle.st_replay.proofs.laws.accepted_commits_may_enter.Goals as goal

pub returns : goal.returns
returns c = may_enter
