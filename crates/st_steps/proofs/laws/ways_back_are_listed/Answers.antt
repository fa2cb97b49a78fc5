use Rattle.st_steps.proofs.WaysBack.{lists_back}
use Rattle.st_steps.proofs.laws.ways_back_are_listed.Goals as goal

pub returns : goal.returns
returns c = lists_back
