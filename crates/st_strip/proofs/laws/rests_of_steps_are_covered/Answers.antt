use Rattle.st_strip.proofs.RestCovered.{rest_covers}
use Rattle.st_strip.proofs.laws.rests_of_steps_are_covered.Goals as goal

pub returns : goal.returns
returns c = rest_covers
