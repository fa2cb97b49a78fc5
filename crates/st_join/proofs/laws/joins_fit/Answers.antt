use Rattle.st_join.proofs.JoinFits as fit
use Rattle.st_join.proofs.laws.joins_fit.Goals as goal

pub returns : goal.returns
returns c = fit.joins_fit
