use Rattle.st_steps.proofs.StepsListed.{lists_in_turn}
use Rattle.st_steps.proofs.laws.steps_in_turn_are_listed.Goals as goal

pub returns : goal.returns
returns c = lists_in_turn
