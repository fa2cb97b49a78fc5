use Rattle.st_conform_laws.proofs.OwnCommits.{own_keeps}
use Rattle.st_conform_laws.proofs.laws.own_commits_keep.Goals as goal

pub returns : goal.returns
returns c = λ T D N fits tells a. own_keeps T D N fits tells a
