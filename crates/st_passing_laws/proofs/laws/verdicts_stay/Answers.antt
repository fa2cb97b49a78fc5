use Rattle.st_passing_laws.proofs.VerdictsLeft.{verdict_stays}
use Rattle.st_passing_laws.proofs.laws.verdicts_stay.Goals as goal

pub returns : goal.returns
returns c = λ D E N v x f e stay schemas h. verdict_stays D E N x f e stay schemas v h
