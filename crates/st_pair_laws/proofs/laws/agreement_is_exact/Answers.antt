use Rattle.st_agree_laws.proofs.CellsOnce.{agree_over}
use Rattle.st_normal_laws.proofs.SchemaRules.{change_obeys}
use Rattle.st_normal_laws.proofs.StepRules.{step_obeys}
use Rattle.st_pair_laws.proofs.StandBeside.{stand_beside}
use Rattle.st_pair_laws.proofs.laws.agreement_is_exact.Goals as goal

pub returns : goal.returns
returns c = λ C S. (
  λ n. (change_obeys n.0 n.2 C n.3.before n.4 n.6 n.7, step_obeys n.0 n.1 S n.3 n.8, agree_over n.0 n.1 n.2 C S n.3 n.4 n.5 n.7 n.8),
  λ w. stand_beside C S w.0 w.1 w.2,
)
