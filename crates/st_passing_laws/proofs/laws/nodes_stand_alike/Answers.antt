use Rattle.st_passing_laws.proofs.CarriedAlike.{stands_after}
use Rattle.st_passing_laws.proofs.laws.nodes_stand_alike.Goals as goal

pub returns : goal.returns
returns w = λ D E N v n x f e stay r. stands_after D E N x f e stay n r v
