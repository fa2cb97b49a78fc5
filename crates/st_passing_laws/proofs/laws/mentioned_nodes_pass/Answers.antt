use Rattle.st_passing_laws.proofs.StepMentioned.{mentioned_between}
use Rattle.st_passing_laws.proofs.laws.mentioned_nodes_pass.Goals as goal

pub returns : goal.returns
returns w = mentioned_between
