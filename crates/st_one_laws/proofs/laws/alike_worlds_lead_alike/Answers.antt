use Rattle.st_one_laws.proofs.StepsOfWorlds.{next_alike}
use Rattle.st_one_laws.proofs.laws.alike_worlds_lead_alike.Goals as goal

pub returns : goal.returns
returns c = λ h w u v x s a b one alike y z. next_alike h w u alike one s v x a b y z
