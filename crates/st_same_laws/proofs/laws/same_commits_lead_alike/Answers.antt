use Rattle.st_same_laws.proofs.RunsOfCommits.{run_same}
use Rattle.st_same_laws.proofs.laws.same_commits_lead_alike.Goals as goal

pub returns : goal.returns
returns c = run_same
