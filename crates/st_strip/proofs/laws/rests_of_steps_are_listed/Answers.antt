use Rattle.st_strip.proofs.RestListed.{lists_rest}
use Rattle.st_strip.proofs.laws.rests_of_steps_are_listed.Goals as goal

pub returns : goal.returns
returns c = lists_rest
