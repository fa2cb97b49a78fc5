use Rattle.st_passing_laws.proofs.ChangesLeft.{raised_after}
use Rattle.st_passing_laws.proofs.laws.changes_pass.Goals as goal

pub returns : goal.returns
returns w = raised_after
