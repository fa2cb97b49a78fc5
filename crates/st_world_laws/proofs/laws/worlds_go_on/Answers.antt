use Rattle.st_world_laws.proofs.GoingOn.{goes_on}
use Rattle.st_world_laws.proofs.laws.worlds_go_on.Goals as goal

pub returns : goal.returns
returns c = λ h w v s a world rules next. goes_on h w world v a s rules next
