use Rattle.st_world_laws.proofs.Leading.{leads_on}
use Rattle.st_world_laws.proofs.LeadingBranches.{all_lead}
use Rattle.st_world_laws.proofs.laws.each_step_leads_on.Goals as goal

pub returns : goal.returns
returns c = λ h w s sound. leads_on h w sound (all_lead h w sound) s
