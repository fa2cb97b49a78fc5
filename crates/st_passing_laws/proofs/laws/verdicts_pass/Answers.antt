use Rattle.st_passing_laws.proofs.MentionedLeft.{read_leaves_mentioned, read_schemas_stay}
use Rattle.st_passing_laws.proofs.VerdictsLeft.{verdict_stays}
use Rattle.st_passing_laws.proofs.laws.verdicts_pass.Goals as goal

pub returns : goal.returns
returns w = λ D E N C S v x f e c s p h. verdict_stays D E N x f e (read_leaves_mentioned D E N C S x c s p) (read_schemas_stay D E C S s p) v h
