use Rattle.st_steps.proofs.StepsAcross.{lists_over_void}
use Rattle.st_steps.proofs.VoidsExtend.{voids_extend}
use Rattle.st_steps.proofs.laws.steps_go_over_void_commits.Goals as goal

pub returns-clause-lists : goal.returns-clause-lists
returns-clause-lists c = lists_over_void

pub returns-clause-extends : goal.returns-clause-extends
returns-clause-extends c = voids_extend
