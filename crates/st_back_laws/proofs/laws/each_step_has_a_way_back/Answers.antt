use Rattle.st_back_laws.proofs.WayBackOver.{step_back}
use Rattle.st_back_laws.proofs.laws.each_step_has_a_way_back.Goals as goal

pub returns : goal.returns
returns c = λ S rev under w. step_back c.ways_lead_back.ensures S rev under w
