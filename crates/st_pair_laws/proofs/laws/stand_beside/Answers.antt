use Rattle.st_pair_laws.proofs.StandBeside.{stand_beside}
use Rattle.st_pair_laws.proofs.laws.stand_beside.Goals as goal

pub returns : goal.returns
returns c = λ C S w v g. stand_beside C S w v g
