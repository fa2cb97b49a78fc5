use Rattle.st_world_messages.specs.Steps.{IsVersion4}
use Rattle.st_world_messages.proofs.Walk.{leads_on}
use Rattle.st_world_messages.proofs.laws.steps_lead_so.Goals as goal

pub returns : goal.returns
returns c = λ h w v s a world v4 next. leads_on IsVersion4 h w v s a world v4 next
