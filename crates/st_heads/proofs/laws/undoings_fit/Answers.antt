use Rattle.st_heads.proofs.Fitting.{undoing_fits}
use Rattle.st_heads.proofs.laws.undoings_fit.Goals as goal

pub returns : goal.returns
returns c = λ O E Ns rev fresh B s f r u. undoing_fits O Ns rev fresh B E s f r u
