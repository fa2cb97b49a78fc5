use Rattle.st_normal_laws.proofs.SchemaNormal.{change_normal}
use Rattle.st_normal_laws.proofs.SchemaRules.{change_obeys}
use Rattle.st_normal_laws.proofs.laws.normal_changes_obey.Goals as goal

pub returns : goal.returns
returns c = λ C. (λ n. change_obeys n.0 n.1 C n.2 n.3 n.4 n.5, λ w. change_normal C w)
