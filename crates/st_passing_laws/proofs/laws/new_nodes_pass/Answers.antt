use Rattle.st_passing_laws.proofs.CarriedAlike.{gained_after}
use Rattle.st_passing_laws.proofs.laws.new_nodes_pass.Goals as goal

pub returns : goal.returns
returns w = λ D E N v n f e. gained_after D E N f e n v
