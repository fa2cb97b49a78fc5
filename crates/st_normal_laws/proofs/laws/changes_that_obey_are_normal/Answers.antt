use Rattle.st_normal_laws.proofs.SchemaNormal.{change_normal}
use Rattle.st_normal_laws.proofs.laws.changes_that_obey_are_normal.Goals as goal

pub returns : goal.returns
returns c = λ C w. change_normal C w
