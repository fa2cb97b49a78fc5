use Rattle.st_passing_laws.proofs.ChangesLeft.{raised_after}
use Rattle.st_passing_laws.proofs.MentionedLeft.{read_leaves_mentioned, read_schemas_stay}
use Rattle.st_passing_laws.proofs.StepsRaised.{raised_between}
use Rattle.st_passing_laws.proofs.VerdictsLeft.{verdict_stays}
use Rattle.st_passing_laws.proofs.laws.whole_changes_pass.Goals as goal

pub returns : goal.returns
returns w = λ D E N C S v x f e is c s p. (
  verdict_stays D E N x f e (read_leaves_mentioned D E N C S x c s p) (read_schemas_stay D E C S s p) v is,
  raised_after D E N C S x f e c s p,
  raised_between D E N C S v x f e c s p,
)
